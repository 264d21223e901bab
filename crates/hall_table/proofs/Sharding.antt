-- An access keeps what is known of the book, of the seats and of the shards.
use Rattle.std.proofs.Common.{◌≡◌, ◌≢◌, ℕ, ◌+◌, ◌*◌, ◌/◌, ◌%◌, ◌^◌, ◌<◌, ◌≤◌, ◌==◌, ◌&&◌, ◌⊎◌, ⊎_elim, inl, inr, List, [], ◌∷◌, ◌++◌, map}
use Rattle.std.proofs.Common.{get_or, refl, sym, ap, ap₂, ◌∙◌, subst, arith, cond, eq-eqb, ne_eqb, Bool, true, false, Option, Some, None}
use Rattle.std.proofs.Common.{IfSome, append_assoc}
use Rattle.std.proofs.lemmas.List.{map-append}
use Rattle.std.proofs.lemmas.List.Quantifiers.{all_pairs_push}
use mathlib.Core.Logic.{dite}
use native.Mathlib.Decide.{ℕ_discrete}
use Rattle.pipe_model.specs.declared.access.Access.{Access}
use Rattle.pipe_model.specs.declared.marks.Marks.{Marks}
use Rattle.pipe_model.specs.declared.node.NodeId.{NodeId}
use Rattle.pipe_model.specs.declared.ticket.Entry.{Entry}
use Rattle.pipe_model.specs.declared.ticket.ShardEntry.{ShardEntry}
use Rattle.pipe_model.specs.Language.Programs.{store_of}
use Rattle.pipe_model.specs.Language.SyntaxTree.{tree_of}
use Rattle.pipe_model.specs.Orders.GrowingLists.{AreIn}
use Rattle.pipe_model.specs.Orders.Starts.{IsStarted, starts_of}
use Rattle.pipe_model.specs.Pipelines.Store.{HasReply, InitialStore}
use Rattle.pipe_model.specs.Races.CellRaces.{noted_access}
use Rattle.pipe_model.specs.Races.Columns.{at}
use Rattle.pipe_model.specs.Races.DeterminacyRaces.{Among, Here, Later}
use Rattle.pipe_model.specs.Runs.TicketLogs.{TimedAction, TicketsRise}
use Rattle.pipe_model.specs.Runs.TicketOrder.{start_ticket_of}
use Rattle.pipe_model.proofs.Members.{among_left, among_right, among_either, among_at, none_among, only_one}
use Rattle.pipe_frame.specs.Ties.{SeenLists}
use Rattle.access_history.specs.declared.history.MarkedNode.{MarkedNode}
use Rattle.access_history.specs.KeptInstances.{AgreeOn, IsEither, IsHistoryAfter}
use Rattle.access_history.specs.KnownOrder.{AgreeOnKnown}
use Rattle.cell_store.specs.ShardState.{IsStateAfter}
use Rattle.frame_book.specs.BookStates.{BookState, events_of, timed_access}
use Rattle.hall_table.specs.SeatViews.{InstanceData}
use Rattle.hall_shards.specs.ShardValues.{ShardValue, down_list, right_list, history_at}
use Rattle.hall_table.specs.Logs.{accesses_of, book_trace, entry_of, noted_to, of_node, of_shard, trace_by, with_at}
use Rattle.hall_shards.specs.Accesses.{GrowLists, IsAccessed}
use Rattle.hall_table.specs.BookParts.{HasSeats, KnowsInstance, joined_in, marks_in}
use Rattle.hall_table.specs.ShardParts.{AgreeOnKnownLog, AgreeOnLog, HasShard, IsCellHistory, IsOfLog, IsShardOf, last_of, who_of}
use Rattle.hall_table.proofs.Boards.{with_here, with_else, among_cons}
use Rattle.hall_shards.proofs.ShardAccesses.{all_kept}

-- ---- lists with one entry more

of_node_more : (i k : ℕ) (es : List ShardEntry) (e : ShardEntry) → (e.node.iteration ≡ i) × (e.node.index ≡ k)
    → of_node i k (es ++ e ∷ []) ≡ of_node i k es ++ entry_of e ∷ []
of_node_more i k [] e h = ap₂ (λ a b. cond (a && b) (entry_of e ∷ []) []) (eq-eqb e.node.iteration i h.0) (eq-eqb e.node.index k h.1)
of_node_more i k (x ∷ es) e h = by ((x.node.iteration == i) && (x.node.index == k)) (of_node_more i k es e h)
  where
    by : (t : Bool) → of_node i k (es ++ e ∷ []) ≡ of_node i k es ++ entry_of e ∷ []
        → cond t (entry_of x ∷ of_node i k (es ++ e ∷ [])) (of_node i k (es ++ e ∷ [])) ≡ cond t (entry_of x ∷ of_node i k es)
        (of_node i k es) ++ entry_of e ∷ []
    by true q = ap (λ l. entry_of x ∷ l) q
    by false q = q

-- an entry of another instance
of_node_other : (i k : ℕ) (es : List ShardEntry) (e : ShardEntry) → ((e.node.iteration == i) && (e.node.index == k)) ≡ false
    → of_node i k (es ++ e ∷ []) ≡ of_node i k es
of_node_other i k [] e h = ap (λ t. cond t (entry_of e ∷ []) []) h
of_node_other i k (x ∷ es) e h = ap (λ l. cond ((x.node.iteration == i) && (x.node.index == k)) (entry_of x ∷ l) l)
    (of_node_other i k es e h)

of_shard_more : (k : ℕ) (es : List Entry) (e : Entry) → e.access.cell.0 % 16 ≡ k → of_shard k (es ++ e ∷ []) ≡ of_shard k es ++ e ∷ []
of_shard_more k [] e h = ap (λ t. cond t (e ∷ []) []) (eq-eqb (e.access.cell.0 % 16) k h)
of_shard_more k (x ∷ es) e h = by (x.access.cell.0 % 16 == k) (of_shard_more k es e h)
  where
    by : (t : Bool) → of_shard k (es ++ e ∷ []) ≡ of_shard k es ++ e ∷ []
        → cond t (x ∷ of_shard k (es ++ e ∷ [])) (of_shard k (es ++ e ∷ [])) ≡ cond t (x ∷ of_shard k es) (of_shard k es) ++ e ∷ []
    by true q = ap (λ l. x ∷ l) q
    by false q = q

of_shard_other : (k : ℕ) (es : List Entry) (e : Entry) → e.access.cell.0 % 16 ≢ k → of_shard k (es ++ e ∷ []) ≡ of_shard k es
of_shard_other k [] e h = ap (λ t. cond t (e ∷ []) []) (ne_eqb (e.access.cell.0 % 16) k h)
of_shard_other k (x ∷ es) e h = ap (λ l. cond (x.access.cell.0 % 16 == k) (x ∷ l) l) (of_shard_other k es e h)

noted_more : (c : ℕ) (log : List ShardEntry) (e : ShardEntry) → e.access.cell.0 ≡ c → noted_to c
    (log ++ e ∷ []) ≡ noted_to c log ++ noted_access e.node e.access.kind ∷ []
noted_more c [] e h = ap (λ t. cond t (noted_access e.node e.access.kind ∷ []) []) (eq-eqb e.access.cell.0 c h)
noted_more c (x ∷ log) e h = by (x.access.cell.0 == c) (noted_more c log e h)
  where
    by : (t : Bool) → noted_to c (log ++ e ∷ []) ≡ noted_to c log ++ noted_access e.node e.access.kind ∷ []
        → cond t (noted_access x.node x.access.kind ∷ noted_to c (log ++ e ∷ [])) (noted_to c (log ++ e ∷ [])) ≡ cond t
        (noted_access x.node x.access.kind ∷ noted_to c log) (noted_to c log) ++ noted_access e.node e.access.kind ∷ []
    by true q = ap (λ l. noted_access x.node x.access.kind ∷ l) q
    by false q = q

noted_other : (c : ℕ) (log : List ShardEntry) (e : ShardEntry) → e.access.cell.0 ≢ c → noted_to c (log ++ e ∷ []) ≡ noted_to c log
noted_other c [] e h = ap (λ t. cond t (noted_access e.node e.access.kind ∷ []) []) (ne_eqb e.access.cell.0 c h)
noted_other c (x ∷ log) e h = ap (λ l. cond (x.access.cell.0 == c) (noted_access x.node x.access.kind ∷ l) l) (noted_other c log e h)

-- what holds of each element and of the last
each_more : {A : Type 0} (P : A → Type 0) (xs : List A) (x : A) → ((y : A) → Among y xs → P y) → P x → (y : A) → Among y (xs ++ x ∷ [])
    → P y
each_more P xs x h p y m = ⊎_elim (λ a. h y a) (λ a. subst P (sym (only_one y x a)) p) (among_either y xs (x ∷ []) m)

-- the last element of a list that has been split elsewhere
split_last : {A : Type 0} (xs : List A) (e : A) (front : List A) (f : A) (rest : List A) → xs ++ e ∷ [] ≡ front ++ f ∷ rest
    → ((xs ≡ front) × (e ≡ f)) ⊎ ((rest' : List A) × (xs ≡ front ++ f ∷ rest'))
split_last [] e [] f rest q = inl (refl, (cc))
split_last [] e (z ∷ zs) f rest q = absurd (let t : [] ≡ zs ++ f ∷ rest = cc in no_end zs f rest t)
  where
    no_end : {A : Type 0} (zs : List A) (f : A) (rest : List A) → [] ≡ zs ++ f ∷ rest → ⊥
    no_end [] f rest t = cc
    no_end (z ∷ zs) f rest t = cc
split_last (x ∷ xs) e [] f rest q = inr (xs, (let t : x ≡ f = cc in ap (λ z. z ∷ xs) t))
split_last (x ∷ xs) e (z ∷ zs) f rest q =
    let t : x ≡ z = cc in
    let u : xs ++ e ∷ [] ≡ zs ++ f ∷ rest = cc in
    ⊎_elim (λ (h : (xs ≡ zs) × (e ≡ f)). inl (ap₂ (λ a b. a ∷ b) t h.0, h.1))
    (λ (h : (rest' : List _) × (xs ≡ zs ++ f ∷ rest')). inr (h.0, ap₂ (λ a b. a ∷ b) t h.1)) (split_last xs e zs f rest u)

-- tickets rise with a greater one at the end
rise_more : (xs : List TimedAction) (x : TimedAction) → TicketsRise xs → ((y : TimedAction) → Among y xs → y.ticket < x.ticket)
    → TicketsRise (xs ++ x ∷ [])
rise_more [] x r l = ((λ y m. absurd (none_among y m)), tt)
rise_more (z ∷ xs) x r l = (
  (λ y m. ⊎_elim (λ a. r.0 y a) (λ a. subst (λ (w : TimedAction). z.ticket < w.ticket) (sym (only_one y x a)) (l z Here))
      (among_either y xs (x ∷ []) m)),
  rise_more xs x r.1 (λ y m. l y (Later z m)),
)

pub among_timed : (x : TimedAction) (es : List Entry) → Among x (map timed_access es) → (e : Entry) × Among e es × (x ≡ timed_access e)
among_timed x [] m = absurd (none_among x m)
among_timed x (e ∷ es) m = ⊎_elim (λ q. (e, Here, q)) (λ q. (let h = among_timed x es q in (h.0, Later e h.1, h.2)))
    (among_cons x (timed_access e) (map timed_access es) m)

last_more : (log : List ShardEntry) (e : ShardEntry) → last_of (log ++ e ∷ []) ≡ e.ticket
last_more [] e = refl
last_more (f ∷ []) e = refl
last_more (f ∷ (g ∷ es)) e = last_more (g ∷ es) e

-- ---- the shard

module _ (before : List Access) (store : InitialStore) (marks : NodeId → Marks) (joined : NodeId → ℕ) (k : ℕ) (x y : ShardValue)
    (who : MarkedNode) (index ticket : ℕ) (a : Access)
    (h : IsShardOf before store marks joined k x) (q : IsAccessed who index ticket a x y) (own : a.cell.0 % 16 ≡ k)
    (declared : a.cell.0 < x.cells.shard.cells) (mine : who.marks ≡ marks who.node) (joins : index ≡ joined who.node)
    (known : AreIn (down_list x.lists) (right_list x.lists) who.marks) (later : x.last < ticket) (bound : ticket ≤ 2 ^ 62) where
  abbrev e : ShardEntry
  e = record { ticket = ticket; node = who.node; access = a }

  in_old : (f : ShardEntry) → Among f x.log → Among f y.log
  in_old f m = subst (λ l. Among f l) (sym q.log) (among_left f x.log (e ∷ []) m)

  in_new : Among e y.log
  in_new = subst (λ l. Among e l) (sym q.log) (among_right e x.log (e ∷ []) Here)

  who_is : who ≡ who_of marks e
  who_is = ap (λ (m : Marks). let w : MarkedNode = record { node = who.node; marks = m } in w) mine

  accesses_are : before ++ accesses_of y.log ≡ (before ++ accesses_of x.log) ++ a ∷ []
  accesses_are = ap (λ l. before ++ accesses_of l) q.log
      ∙ (ap (λ l. before ++ l) (map-append (λ (f : ShardEntry). f.access) x.log (e ∷ []))
      ∙ sym (append_assoc before (accesses_of x.log) (a ∷ [])))

  -- orders that agree with the longer lists agree with the shorter ones
  agree_old : (down right : NodeId → ℕ) → AgreeOnLog marks y.lists y.log down right → AgreeOnLog marks x.lists x.log down right
  agree_old down right agree f g mf mg =
      let w = agree f g (in_old f mf) (in_old g mg) in
      let sf = h.seen f mf in
      let sg = h.seen g mg in
      let d = q.noted.lists.down.order (marks g.node).down_first (marks f.node).down_first sg.down sf.down in
      let r = q.noted.lists.right.order (marks g.node).right_first (marks f.node).right_first sg.right sf.right in
      record {
        in_down = ((λ p. w.in_down.0 (d.1 p)), (λ p. d.0 (w.in_down.1 p)));
        in_right = ((λ p. w.in_right.0 (r.1 p)), (λ p. r.0 (w.in_right.1 p)));
      }

  -- so do those that agree with what is known without the lists
  known_old : (down right : NodeId → ℕ) → AgreeOnKnownLog joined y.log down right → AgreeOnKnownLog joined x.log down right
  known_old down right known f g mf mg = known f g (in_old f mf) (in_old g mg)

  kept_old : (w : MarkedNode) → IsOfLog marks x.log w → IsOfLog marks y.log w
  kept_old w p = (p.0, in_old p.0 p.1, p.2)

  kept_new : (o p : Option MarkedNode) → IfSome o (IsOfLog marks x.log) → IfSome p (IsEither o who) → IfSome p (IsOfLog marks y.log)
  kept_new o None ho hp = tt
  kept_new o (Some w) ho hp = ⊎_elim (λ (s : w ≡ who). (e, in_new, s ∙ who_is))
      (λ (s : o ≡ Some w). kept_old w (subst (λ z. IfSome z (IsOfLog marks x.log)) s ho)) hp

  -- the history of another cell
  other_history : (slot : ℕ) → slot ≢ a.cell.0 / 16 → IsCellHistory marks joined y.lists y.log (k + 16 * slot) (history_at y.histories slot)
  other_history slot ne =
      let old = h.histories slot in
      let c : a.cell.0 ≢ k + 16 * slot = λ s. ne (let z = own in omega (arith, s, z)) in
      let same : noted_to (k + 16 * slot) y.log ≡ noted_to (k + 16 * slot) x.log = ap (noted_to (k + 16 * slot)) q.log
      ∙ noted_other (k + 16 * slot) x.log e c in
      let hist : history_at y.histories slot ≡ history_at x.histories slot = q.noted.others slot ne in
      subst (λ z. IsCellHistory marks joined y.lists y.log (k + 16 * slot) z) (sym hist) (record {
        kept = all_kept (IsOfLog marks x.log) (IsOfLog marks y.log) (history_at x.histories slot) kept_old old.kept;
        after = λ down right agree known. subst (λ l. IsHistoryAfter down right l (history_at x.histories slot)) (sym same)
            (old.after down right (agree_old down right agree) (known_old down right known));
      })

  own_history : IsCellHistory marks joined y.lists y.log (k + 16 * (a.cell.0 / 16)) (history_at y.histories (a.cell.0 / 16))
  own_history =
      let slot = a.cell.0 / 16 in
      let old = h.histories slot in
      let c : a.cell.0 ≡ k + 16 * slot = (let z = own in omega (arith, z)) in
      let same : noted_to (k + 16 * slot) y.log ≡ noted_to (k + 16 * slot) x.log ++ noted_access who.node a.kind ∷ [] =
      ap (noted_to (k + 16 * slot)) q.log ∙ noted_more (k + 16 * slot) x.log e c in
      record {
        kept = record {
          writer = kept_new (history_at x.histories slot).writer (history_at y.histories slot).writer old.kept.writer q.noted.each.writer;
          rightmost = kept_new (history_at x.histories slot).rightmost (history_at y.histories slot).rightmost old.kept.rightmost
              q.noted.each.rightmost;
          downmost = kept_new (history_at x.histories slot).downmost (history_at y.histories slot).downmost old.kept.downmost
              q.noted.each.downmost;
        };
        after = λ down right agree known. subst (λ l. IsHistoryAfter down right l (history_at y.histories slot)) (sym same)
            (q.noted.step down right
            (all_kept (IsOfLog marks x.log) (AgreeOn (down_list x.lists) (right_list x.lists) down right who) (history_at x.histories slot)
            (λ w p. agree_kept down right agree w p) old.kept)
            (all_kept (IsOfLog marks x.log) (λ w. AgreeOnKnown (Some index) down right who.node w.node) (history_at x.histories slot)
            (λ w p. known_kept down right known w p) old.kept)
            (noted_to (k + 16 * slot) x.log) (old.after down right (agree_old down right agree) (known_old down right known)));
      }
    where
      known_kept : (down right : NodeId → ℕ) → AgreeOnKnownLog joined y.log down right → (w : MarkedNode) → IsOfLog marks x.log w
          → AgreeOnKnown (Some index) down right who.node w.node
      known_kept down right known w p =
          subst (λ n. AgreeOnKnown (Some n) down right who.node w.node) (sym joins)
          (subst (λ (u : MarkedNode). AgreeOnKnown (Some (joined who.node)) down right who.node u.node) (sym p.2)
          (known e p.0 in_new (in_old p.0 p.1)))

      agree_kept : (down right : NodeId → ℕ) → AgreeOnLog marks y.lists y.log down right → (w : MarkedNode) → IsOfLog marks x.log w
          → AgreeOn (down_list x.lists) (right_list x.lists) down right who w
      agree_kept down right agree w p =
          let both = agree e p.0 in_new (in_old p.0 p.1) in
          let w' : MarkedNode = who_of marks p.0 in
          let there = h.seen p.0 p.1 in
          let mark : AreIn (down_list x.lists) (right_list x.lists) (marks who.node) =
          subst (λ (m : Marks). AreIn (down_list x.lists) (right_list x.lists) m) mine known in
          let d = q.noted.lists.down.order w'.marks.down_first (marks who.node).down_first there.down mark.down in
          let r = q.noted.lists.right.order w'.marks.right_first (marks who.node).right_first there.right mark.right in
          let old : AgreeOn (down_list x.lists) (right_list x.lists) down right (who_of marks e) w' = record {
            in_down = ((λ z. both.in_down.0 (d.1 z)), (λ z. d.0 (both.in_down.1 z)));
            in_right = ((λ z. both.in_right.0 (r.1 z)), (λ z. r.0 (both.in_right.1 z)));
          } in
          subst (λ (u : MarkedNode). AgreeOn (down_list x.lists) (right_list x.lists) down right u w) (sym who_is)
          (subst (λ (u : MarkedNode). AgreeOn (down_list x.lists) (right_list x.lists) down right (who_of marks e) u) (sym p.2) old)

  pub shard_accessed : IsShardOf before store marks joined k y
  shard_accessed = record {
    number = q.number ∙ h.number;
    part = rw q.part h.part;
    cells = subst (λ l. IsStateAfter store l y.cells) (sym accesses_are) (q.cells store (before ++ accesses_of x.log) h.cells);
    own = λ f m. each_more (λ (g : ShardEntry). g.access.cell.0 % 16 ≡ k) x.log e h.own own f (subst (λ l. Among f l) q.log m);
    there = λ f m. subst (λ n. f.access.cell.0 < n) (sym (ap (λ (z : _). z.cells) q.part))
        (each_more (λ (g : ShardEntry). g.access.cell.0 < x.cells.shard.cells) x.log e h.there declared f (subst (λ l. Among f l) q.log m));
    replies = λ front rest f s. ⊎_elim
        (λ (t : (x.log ≡ front) × (e ≡ f)). subst (λ (g : ShardEntry). HasReply store (before ++ accesses_of front) g.access) t.1
        (subst (λ l. HasReply store (before ++ accesses_of l) a) t.0 (q.reply store (before ++ accesses_of x.log) h.cells)))
        (λ (t : (rest' : List ShardEntry) × (x.log ≡ front ++ f ∷ rest')). h.replies front t.0 f t.1)
        (split_last x.log e front f rest (sym q.log ∙ s));
    rises = rw q.log (all_pairs_push (λ (f : ShardEntry) (g : ShardEntry). f.ticket < g.ticket) x.log e h.rises
        (λ n d l. (let m = h.most (get_or x.log n d) (among_at x.log n d l) in omega (arith, m, later))));
    last = q.last ∙ (sym (last_more x.log e) ∙ ap last_of (sym q.log));
    most = λ f m. each_more (λ (g : ShardEntry). g.ticket ≤ y.last) x.log e
        (λ g n. (let z = h.most g n in let w = q.last in omega (arith, z, w, later))) (let w = q.last in omega (arith, w)) f
        (subst (λ l. Among f l) q.log m);
    bound = let w = q.last in omega (arith, w, bound);
    seen = λ f m. each_more (λ (g : ShardEntry). AreIn (down_list y.lists) (right_list y.lists) (marks g.node)) x.log e
        (λ g n. (let z = h.seen g n in record {
          down = q.noted.lists.down.elements (marks g.node).down_first z.down;
          right =
              q.noted.lists.right.elements (marks g.node).right_first z.right;
        }))
        (subst (λ (m : Marks). AreIn (down_list y.lists) (right_list y.lists) m) mine
        (record {
          down = q.noted.lists.down.elements who.marks.down_first known.down;
          right =
              q.noted.lists.right.elements who.marks.right_first known.right;
        })) f (subst (λ l. Among f l) q.log m);
    room = (let z = h.room in let w = q.noted.len in let p = ap (λ (s : _). s.cells) q.part in omega (arith, z, w, p));
    histories = λ slot. dite (ℕ_discrete slot (a.cell.0 / 16))
        (λ s. subst (λ n. IsCellHistory marks joined y.lists y.log (k + 16 * n) (history_at y.histories n)) (sym s) own_history)
        (λ ne. other_history slot ne);
  }

-- a shard whose passes have seen more
pub shard_met : (before : List Access) (store : InitialStore) (marks : NodeId → Marks) (joined : NodeId → ℕ) (k : ℕ) (x : ShardValue)
    (lists : SeenLists) → GrowLists x.lists lists
    → IsShardOf before store marks joined k x → IsShardOf before store marks joined k (record x { lists = lists })
shard_met before store marks joined k x lists g h = record {
  number = h.number;
  part = h.part;
  cells = h.cells;
  own = h.own;
  there = h.there;
  replies = h.replies;
  rises = h.rises;
  last = h.last;
  most = h.most;
  bound = h.bound;
  seen = λ f m. (let z = h.seen f m in record {
    down = g.down.elements (marks f.node).down_first z.down;
    right =
        g.right.elements (marks f.node).right_first z.right;
  });
  room = h.room;
  histories = λ slot. (let old = h.histories slot in record {
    kept = old.kept;
    after = λ down right agree known. old.after down right (λ e f me mf. (
        let w = agree e f me mf in
        let se = h.seen e me in
        let sf = h.seen f mf in
        let d = g.down.order (marks f.node).down_first (marks e.node).down_first sf.down se.down in
        let r = g.right.order (marks f.node).right_first (marks e.node).right_first sf.right se.right in
        record {
          in_down = ((λ p. w.in_down.0 (d.1 p)), (λ p. d.0 (w.in_down.1 p)));
          in_right = ((λ p. w.in_right.0 (r.1 p)), (λ p. r.0 (w.in_right.1 p)));
        })) known;
  });
}

-- ---- the seat

-- the seat's data after an access
abbrev pub run_accessed : InstanceData → ℕ → Access → InstanceData
run_accessed d ticket a = record d {
  fields = record d.fields { now = ticket };
  entries = d.entries
      ++ record { ticket = ticket; access = a } ∷ [];
}

pub run_accessed_is : (b : BookState) (d : InstanceData) (ticket : ℕ) (a : Access) → d.fields.now < ticket → ticket ≤ 2 ^ 62
    → KnowsInstance b d → KnowsInstance b (run_accessed d ticket a)
run_accessed_is b d ticket a later bound h =
    let e : Entry = record { ticket = ticket; access = a } in
    let s = h.started in
    let early = s.before in
    record {
      out = record {
        out = h.out.out;
        token = record {
          running = h.out.token.running;
          index = h.out.token.index;
          marks = h.out.token.marks;
          joined =
              h.out.token.joined;
          folded = h.out.token.folded;
        };
        now = omega (arith, bound);
      };
      replies = h.replies;
      parts = h.parts;
      started = record { ticket = s.ticket; is = s.is; before = omega (arith, early, later) };
      rise = rw (map-append timed_access d.entries (e ∷ [])) (rise_more (map timed_access d.entries) (timed_access e) h.rise (λ y m. (
          let t = among_timed y d.entries m in
          let l = h.to_now t.0 t.1 in
          let z = ap (λ (u : TimedAction). u.ticket) t.2 in
          omega (arith, l, z, later))));
      from_start = each_more (λ (f : Entry). (n : ℕ) × (start_ticket_of b.log d.fields.iteration d.fields.index ≡ Some n) × (n < f.ticket))
          d.entries e h.from_start (s.ticket, s.is, omega (arith, early, later));
      to_now = each_more (λ (f : Entry). f.ticket ≤ ticket) d.entries e (λ f m. (let l = h.to_now f m in omega (arith, l, later)))
          (omega arith);
    }

module _ (before : List Access) (b : BookState) (seats : ℕ → Option InstanceData) (d : InstanceData) (ticket : ℕ) (a : Access)
    (h : HasSeats b seats) (is : seats d.fields.iteration ≡ Some d)
    (later : d.fields.now < ticket) (bound : ticket ≤ 2 ^ 62) where
  abbrev i : ℕ
  i = d.fields.iteration

  abbrev d' : InstanceData
  d' = run_accessed d ticket a

  abbrev seats' : ℕ → Option InstanceData
  seats' = with_at seats i (Some d')

  pub seats_accessed : HasSeats b seats'
  seats_accessed = record {
    control = h.control;
    rises = h.rises;
    tokens = h.tokens;
    traces = h.traces;
    run = λ j f e. dite (ℕ_discrete j i)
        (λ s. (let q : Some d' ≡ Some f = sym (with_here seats i (Some d')) ∙ (ap seats' (sym s) ∙ e) in let z : d' ≡ f = cc in
        subst (λ (g : InstanceData). (g.fields.iteration ≡ j) × KnowsInstance b g) z
        (sym s, run_accessed_is b d ticket a later bound (h.run i d is).1)))
        (λ ne. h.run j f (sym (with_else seats i (Some d') j ne) ∙ e));
    out = λ j o. dite (ℕ_discrete j i) (λ s. (d', ap seats' s ∙ with_here seats i (Some d')))
        (λ ne. (let q = h.out j o in (q.0, with_else seats i (Some d') j ne ∙ q.1)));
    timely = h.timely;
    kept = h.kept;
  }

  abbrev entry : Entry
  entry = record { ticket = ticket; access = a }

  -- the trace of the instance has one entry more
  trace_here : trace_by b (seats' i) i d.fields.index ≡ trace_by b (seats i) i d.fields.index ++ entry ∷ []
  trace_here =
      ap (λ o. trace_by b o i d.fields.index) (with_here seats i (Some d'))
      ∙ (ap (λ t. cond t (d.entries ++ entry ∷ []) (book_trace b i d.fields.index)) (eq-eqb d.fields.index d.fields.index refl)
      ∙ (ap (λ l. l ++ entry ∷ []) (sym (ap (λ t. cond t d.entries (book_trace b i d.fields.index))
      (eq-eqb d.fields.index d.fields.index refl)))
      ∙ ap (λ o. trace_by b o i d.fields.index ++ entry ∷ []) (sym is)))

  -- the others are the same
  trace_other : (j n : ℕ) → ((j ≡ i) → n ≡ d.fields.index → ⊥) → trace_by b (seats' j) j n ≡ trace_by b (seats j) j n
  trace_other j n ne = dite (ℕ_discrete j i)
      (λ s. (
      let far : d.fields.index ≢ n = λ z. ne s (sym z) in
      let new : trace_by b (seats' j) j n ≡ book_trace b j n = ap (λ o. trace_by b o j n) (ap seats' s ∙ with_here seats i (Some d'))
      ∙ ap (λ t. cond t (d.entries ++ entry ∷ []) (book_trace b j n)) (ne_eqb d.fields.index n far) in
      let old : trace_by b (seats j) j n ≡ book_trace b j n = ap (λ o. trace_by b o j n) (ap seats s ∙ is)
      ∙ ap (λ t. cond t d.entries (book_trace b j n)) (ne_eqb d.fields.index n far) in
      new ∙ sym old))
      (λ other. ap (λ o. trace_by b o j n) (with_else seats i (Some d') j other))

  -- a shard that the access does not concern
  pub other_shard : (k : ℕ) (x : ShardValue) → a.cell.0 % 16 ≢ k → HasShard before b seats k x → HasShard before b seats' k x
  other_shard k x ne q = record {
    shard = q.shard;
    identities = q.identities;
    named = q.named;
    traces = λ j n. q.traces j n ∙ sym (dite (ℕ_discrete j i)
        (λ s. dite (ℕ_discrete n d.fields.index)
        (λ z. subst (λ p. of_shard k (trace_by b (seats' p) p n) ≡ of_shard k (trace_by b (seats p) p n)) (sym s)
        (subst (λ m. of_shard k (trace_by b (seats' i) i m) ≡ of_shard k (trace_by b (seats i) i m)) (sym z)
        (ap (of_shard k) trace_here ∙ of_shard_other k (trace_by b (seats i) i d.fields.index) entry ne)))
        (λ far. ap (of_shard k) (trace_other j n (λ _ z. far z))))
        (λ other. ap (of_shard k) (trace_other j n (λ s _. other s))));
    started = q.started;
  }

  -- the shard of the cell
  pub own_shard : (k : ℕ) (x y : ShardValue) → a.cell.0 % 16 ≡ k → HasShard before b seats k x
      → y.log ≡ x.log ++ record { ticket = ticket; node = at i d.fields.index; access = a } ∷ []
      → (y.lists.down ≡ x.lists.down) × (y.lists.right ≡ x.lists.right) → IsStarted (starts_of (events_of b.log)) (at i d.fields.index)
      → IsShardOf before (store_of (tree_of b.program)) (marks_in b) (joined_in b) k y → HasShard before b seats' k y
  own_shard k x y own q log lists begun new = record {
    shard = new;
    identities = (lists.0 ∙ q.identities.0, lists.1 ∙ q.identities.1);
    named = ((q.named.0.0, q.named.0.1, lists.0 ∙ q.named.0.2), (q.named.1.0, q.named.1.1, lists.1 ∙ q.named.1.2));
    traces = λ j n. ap (of_node j n) log ∙ dite (ℕ_discrete j i)
        (λ s. dite (ℕ_discrete n d.fields.index)
        (λ z. of_node_more j n x.log e (sym s, sym z) ∙ (ap (λ l. l ++ entry ∷ []) (q.traces j n)
        ∙ subst (λ p. of_shard k (trace_by b (seats p) p n) ++ entry ∷ [] ≡ of_shard k (trace_by b (seats' p) p n)) (sym s)
        (subst (λ m. of_shard k (trace_by b (seats i) i m) ++ entry ∷ [] ≡ of_shard k (trace_by b (seats' i) i m)) (sym z)
        (sym (ap (of_shard k) trace_here ∙ of_shard_more k (trace_by b (seats i) i d.fields.index) entry own)))))
        (λ far. of_node_other j n x.log e (ap₂ (λ p r. p && r) (eq-eqb i j (sym s)) (ne_eqb d.fields.index n (λ z. far (sym z))))
        ∙ (q.traces j n ∙ sym (ap (of_shard k) (trace_other j n (λ _ z. far z))))))
        (λ other. of_node_other j n x.log e (ap (λ p. p && (d.fields.index == n)) (ne_eqb i j (λ z. other (sym z))))
        ∙ (q.traces j n ∙ sym (ap (of_shard k) (trace_other j n (λ s _. other s)))));
    started = λ f m. each_more (λ (g : ShardEntry). IsStarted (starts_of (events_of b.log)) g.node) x.log e q.started begun f
        (subst (λ l. Among f l) log m);
  }
    where
      e : ShardEntry
      e = record { ticket = ticket; node = at i d.fields.index; access = a }
