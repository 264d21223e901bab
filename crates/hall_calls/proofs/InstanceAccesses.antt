-- Accesses of running instances, by their seats.
use Rattle.std.proofs.Common.{◌≡◌, ℕ, ℤ, ◌+◌, ◌<◌, ◌%◌, ◌/◌, ◌⊎◌, inl, inr, drop, IfSome, IfNone, List, [], ◌∷◌, ◌++◌, length, refl}
use Rattle.std.proofs.Common.{sym, ap, ap₂, ◌∙◌, subst, arith, Option, Some, None, true}
use Rattle.pipe_model.specs.Orders.GrowingLists.{AreIn}
use Rattle.pipe_model.specs.declared.ticket.Entry.{Entry}
use Rattle.pipe_model.specs.declared.ticket.ShardEntry.{ShardEntry}
use Rattle.pipe_model.specs.Language.Programs.{store_of}
use Rattle.pipe_model.specs.Language.SyntaxTree.{tree_of}
use Rattle.pipe_model.specs.Races.Columns.{at}
use Rattle.pipe_frame.specs.TokenFields.{TokenFields}
use Rattle.pipe_frame.specs.Ties.{AreSeenLists, BelongsTo, HallName, InstanceSeat, KnowsMarks, SeenLists, Tie}
use Rattle.access_history.specs.declared.history.MarkedNode.{MarkedNode}
use Rattle.hall_table.specs.SeatViews.{HallConstants, InstanceData, SeatView, TheShard, constants_of}
use Rattle.hall_shards.specs.ShardValues.{ShardValue, down_list, right_list}
use Rattle.hall_table.specs.Logs.{entry_of}
use Rattle.hall_table.specs.Steps.{ShardSnapshot, ViewAndSlots, after_entries, after_log, after_shard, having, holding}
use Rattle.atomic_table.specs.Table.{rest}
use Rattle.atomic_table.specs.Seated.{TableId}
use Rattle.hall_table.specs.HallRule.{view_of}
use Rattle.pipe_frame.specs.SeatedTokens.{IsSeated, entries_of_seat, replies_of_seat}
use Rattle.hall_table.specs.WorkerSeats.{name_of}
use Rattle.hall_table.specs.InstanceSeats.{badge_view, is_instance_badge, seat_of}
use Rattle.hall_table.specs.Lending.{seat_in}
use Rattle.hall_table.specs.declared.run_seat.RunSeat.{RunSeat}
use Rattle.pipe_frame.specs.HallViews.{IsSameInstance, SameSeat, identities_of}
use Rattle.hall_table.specs.SeatAccesses.{TraceAfter, now_after, ran, run_more, seat_done, seat_more, tie_after, MadeBy}
use Rattle.hall_table.specs.declared.view.View.{View}
use Rattle.hall_table.specs.declared.slot.Slot.{Slot}
use Rattle.hall_table.specs.declared.slot.Slot.TheVariants as slots
use Rattle.hall_table.proofs.Seating.{is_badge, instance_badge}
use Rattle.hall_calls.proofs.LentSlots.{lent_value, only_value, there}
use Rattle.hall_table.proofs.Sharding.{run_accessed}
use Rattle.hall_shards.specs.Accesses.{CanBegin, IsMade, IsMadeNow, next_ticket}
use Rattle.hall_shards.proofs.ShardAccesses.{all_kept}

-- a shard that was taken can make an access to each of its cells
pub can_begin : (v : SeatView) (i : ℕ) (x : ShardValue) (c : ℕ) (a : HallConstants) → ShardSnapshot v i x → v.constants ≡ Some a
    → c < length (store_of (tree_of a.program)).values → i ≡ 1 + c % 16 → CanBegin x c
can_begin v i x c a t knows l slot =
    let h = t.has_shard.shard in
    let same : a ≡ constants_of t.book = t.constants a knows in
    let suc_number = t.slot in
    let number : t.number ≡ c % 16 = omega (arith, slot, suc_number) in
    let there : c < x.cells.shard.cells = subst (λ n. c < n) (sym h.cells.cells)
    (subst (λ (b : HallConstants). c < length (store_of (tree_of b.program)).values) same l) in
    let room = h.room in
    record {
      there = there;
      own = ap (λ n. c % n) h.part.1 ∙ (sym number ∙ sym h.part.0);
      slot = omega (arith, there, room, number);
      kept = all_kept _ _ _ (λ w o.
          subst (λ (u : MarkedNode). AreIn (down_list x.lists) (right_list x.lists) u.marks) (sym o.2) (h.seen o.0 o.1))
          (h.histories (c / 16)).kept;
    }

-- the same, by the name of the hall
pub can_begin_in : (z : TableId) (v : SeatView) (x y : ShardValue) (c : ℕ) (a : HallConstants) → ShardSnapshot v (1 + c % 16) x
    → v.constants ≡ Some a → c < length (store_of (name_of z v.constants).tree).values → y ≡ x → CanBegin y c
can_begin_in z v x y c a t knows l same =
    can_begin v (1 + c % 16) y c a (subst (ShardSnapshot v (1 + c % 16)) (sym same) t) knows
    (subst (λ (h : HallName). c < length (store_of h.tree).values) (ap (name_of z) knows) l) refl

-- the token's passes see the lists of the shard's
pub same_lists : (v : SeatView) (i : ℕ) (x : ShardValue) (a : HallConstants) (l : SeenLists) → ShardSnapshot v i x → v.constants ≡ Some a
    → AreSeenLists (Some l) a.lists.down a.lists.right
    → (x.lists.down ≡ l.down) × (x.lists.right ≡ l.right)
same_lists v i x a l t knows seen =
    let same : a ≡ constants_of t.book = t.constants a knows in
    let h = t.has_shard in
    let d : a.lists.down ≡ h.named.0.0 ∷ h.named.0.1 = ap (λ (b : HallConstants). b.lists.down) same ∙ (sym h.identities.0 ∙ h.named.0.2) in
    let r : a.lists.right ≡ h.named.1.0 ∷ h.named.1.1 = ap (λ (b : HallConstants). b.lists.right) same
    ∙ (sym h.identities.1 ∙ h.named.1.2) in
    let q : AreSeenLists (Some l) (h.named.0.0 ∷ h.named.0.1) (h.named.1.0 ∷ h.named.1.1) =
    subst (λ z. AreSeenLists (Some l) z (h.named.1.0 ∷ h.named.1.1)) d (subst (λ z. AreSeenLists (Some l) a.lists.down z) r seen) in
    (h.named.0.2 ∙ sym q.0, h.named.1.2 ∙ sym q.1)

drop_more : {A : Type 0} (xs : List A) (e : A) → drop (length xs) (xs ++ e ∷ []) ≡ e ∷ []
drop_more [] e = refl
drop_more (x ∷ xs) e = drop_more xs e

drop_all : {A : Type 0} (xs : List A) → drop (length xs) xs ≡ []
drop_all [] = refl
drop_all (x ∷ xs) = drop_all xs

run_same : (o : Option InstanceData) (l : List ShardEntry) → after_log o l l ≡ o
run_same None l = refl
run_same (Some d) l = ap (λ es. Some (after_entries d es)) (drop_all l)

run_one : (o : Option InstanceData) (l : List ShardEntry) (e : ShardEntry) → after_log o l (l ++ e ∷ []) ≡ run_more o (entry_of e)
run_one None l e = refl
run_one (Some d) l e = ap (λ es. Some (after_entries d es)) (drop_more l e)

-- a shard that was taken and lent, and is given back as it was
view_again : (v : SeatView) (i : ℕ) (x : ShardValue) → v.held ≡ [] → after_shard (holding v i (TheShard x)) x x ≡ v
view_again v i x held =
    let none = sym held in
    λ j. record { constants = v.constants; seen = v.seen; met = v.met; run = run_same v.run x.log j; held = none j; tokens = v.tokens }

pub same_shard : {M : Type 0} (x y : ShardValue) → ◌≡◌ {A = Slot M} (slots.Shard x) (slots.Shard y) → x ≡ y
same_shard x y e = cc

-- ---- a seat that has taken nothing else has taken a shard

module _ {M : Type 0} {m n : ViewAndSlots M} {x : ShardValue} (i : ℕ) (none_out : m.1 ≡ []) (taken : n ≡ having m i (TheShard x)) where
  only : n.1 ≡ (i, slots.Shard x) ∷ []
  only = ap (λ (k : ViewAndSlots M). k.1) taken ∙ ap (λ cs. (i, slots.Shard x) ∷ cs) none_out

  pub shard_there : (s : Slot M) × (n.1 ≡ (i, s) ∷ rest n.1)
  shard_there = there M n i (slots.Shard x) only

  pub lent_shard : (s : Slot M) → n.1 ≡ (i, s) ∷ rest n.1 → s ≡ slots.Shard x
  lent_shard s e = lent_value M n i (slots.Shard x) only s e

  -- it is lent
  pub shard_is : {s : Slot M} {y : ShardValue} → n.1 ≡ (i, s) ∷ rest n.1 → s ≡ slots.Shard y → y ≡ x
  shard_is {s} {y} e f = same_shard {M = M} y x (sym f ∙ lent_shard s e)

  pub in_slot : (y : ShardValue) → ◌≡◌ {A = List (ℕ × Slot M)} ((i, slots.Shard y) ∷ rest n.1) ((i, slots.Shard y) ∷ [])
  in_slot y = only_value M n i (slots.Shard x) only (slots.Shard y)

  pub holds_only : m.0.it.held ≡ [] → n.0.it.held ≡ (i, TheShard x) ∷ []
  holds_only e = ap (λ (k : ViewAndSlots M). k.0.it.held) taken ∙ ap (λ hs. (i, TheShard x) ∷ hs) e

  -- nothing was written to it
  pub still_taken : {y : ShardValue} → y ≡ x → ◌≡◌ {A = ViewAndSlots M} (n.0, (i, slots.Shard y) ∷ rest n.1) (having m i (TheShard x))
  still_taken e =
      ap (λ (z : ShardValue). (n.0, (i, slots.Shard z) ∷ rest n.1)) e ∙ (ap (λ cs. (n.0, cs)) (in_slot x ∙ sym only) ∙ taken)

  -- and it is given back as it was
  pub given_back : {y : ShardValue} {z : ViewAndSlots M} → y ≡ x → m.0.it.held ≡ [] → z ≡ (view_of (after_shard n.0.it x y), []) → z ≡ m
  given_back e none_held given =
      given ∙ (ap (λ (y : ShardValue). (view_of (after_shard n.0.it x y), [])) e
      ∙ (ap (λ (k : ViewAndSlots M). (view_of (after_shard k.0.it x x), [])) taken
      ∙ (ap (λ v. (view_of v, [])) (view_again m.0.it i x none_held) ∙ ap (λ cs. (m.0, cs)) (sym none_out))))

module _ (who : MarkedNode) (f : TokenFields) (is : who ≡ record { node = at f.iteration f.index; marks = f.marks }) (now joined c : ℕ)
    (same_now : now ≡ f.now) (same_joined : joined ≡ f.joined) (write : Option ℤ) (x y : ShardValue) (old new : List Entry) where
  -- the shard is as before, or the access was made
  pub either_made : (o : Option Entry) (d : InstanceData) → d.fields ≡ f → IfNone o ((y ≡ x) × (new ≡ old))
      → IfSome o (IsMadeNow who joined now c write x y old new) → (y ≡ x) ⊎ MadeBy d (c % 16) x y
  either_made None d e h k = inl h.0
  either_made (Some a) d e h k =
      let w : who ≡ record { node = at d.fields.iteration d.fields.index; marks = d.fields.marks } = is
      ∙ ap (λ (g : TokenFields). let u : MarkedNode = record { node = at g.iteration g.index; marks = g.marks } in u) (sym e) in
      inr (record {
        ticket = a.ticket;
        access = a.access;
        made = subst (λ n. IsMade (record { node = at d.fields.iteration d.fields.index; marks = d.fields.marks }) n a.ticket a.access x y)
            (same_joined ∙ ap (λ (g : TokenFields). g.joined) (sym e))
            (subst (λ (u : MarkedNode). IsMade u joined a.ticket a.access x y) w k.made);
        own = ap (λ n. n % 16) k.cell;
        there = subst (λ n. n < x.cells.shard.cells) (sym k.cell) k.there;
        next = k.next ∙ ap (next_ticket x.last) (same_now ∙ ap (λ (g : TokenFields). g.now) (sym e));
        bound = k.bound;
      })

  -- the seat has one access more, if it was made
  pub run_done : (o : Option Entry) (v w : SeatView) → w.held ≡ [] → w.constants ≡ v.constants → w.seen ≡ v.seen → w.met ≡ v.met
      → w.tokens ≡ v.tokens → v.held ≡ [] → w.run ≡ after_log v.run x.log y.log
      → IfNone o ((y ≡ x) × (new ≡ old)) → IfSome o (IsMadeNow who joined now c write x y old new) → w ≡ ran v o
  run_done None v w held constants seen met tokens none_held run h k =
      let r : w.run ≡ v.run = run ∙ (ap (λ (z : ShardValue). after_log v.run x.log z.log) h.0 ∙ run_same v.run x.log) in
      let t : w.held ≡ v.held = held ∙ sym none_held in
      λ j. record { constants = constants j; seen = seen j; met = met j; run = r j; held = t j; tokens = tokens j }
  run_done (Some e) v w held constants seen met tokens none_held run h k =
      let r : w.run ≡ run_more v.run e = run ∙ (ap (after_log v.run x.log) k.made.accessed.log
      ∙ run_one v.run x.log (record { ticket = e.ticket; node = who.node; access = e.access })) in
      let t : w.held ≡ v.held = held ∙ sym none_held in
      λ j. record { constants = constants j; seen = seen j; met = met j; run = r j; held = t j; tokens = tokens j }

  -- what was done to the trace
  pub trace_done : (o : Option Entry) → IfNone o ((y ≡ x) × (new ≡ old)) → IfSome o (IsMadeNow who joined now c write x y old new)
      → TraceAfter c write old new o
  trace_done None h k = h.1
  trace_done (Some e) h k = (k.asked, k.trace)

-- ---- a token after an access

-- the badge of a seat that has made an access, or has not
pub ran_badge : (v : View) (o : Option Entry) → is_instance_badge (v ∷ []) ≡ true → is_instance_badge (view_of (ran v.it o) ∷ []) ≡ true
ran_badge v None e = e
ran_badge v (Some x) e =
    let b = instance_badge (v ∷ []) e in
    let same : v ≡ b.view = (let w = b.is in cc) in
    let knows : v.it.constants ≡ Some b.constants = ap (λ (u : View). u.it.constants) same ∙ b.knows in
    let run_is : v.it.run ≡ Some b.run = ap (λ (u : View). u.it.run) same ∙ b.run_is in
    let held : v.it.held ≡ [] = ap (λ (u : View). u.it.held) same ∙ b.held in
    is_badge (view_of (ran v.it (Some x))) b.constants (run_accessed b.run x.ticket x.access) knows (ap (λ r. run_more r x) run_is) held

-- the seat as its tie names it
pub ran_seat : (z : TableId) (id : ℕ) (v : View) (o : Option Entry) → seat_of z id (ran v.it o).constants (ran v.it o).run ≡ seat_done
    (seat_of z id v.it.constants v.it.run) o
ran_seat z id v None = refl
ran_seat z id v (Some x) = by v.it.run
  where
    by : (r : Option InstanceData) → seat_of z id v.it.constants (run_more r x) ≡ seat_more (seat_of z id v.it.constants r) x
    by None = refl
    by (Some d) = refl

-- after an access, made or refused, the token is out of the same hall
pub seated_after : (h : HallName) (f g : TokenFields) (t u : Tie) (o : Option Entry) → g ≡ record f { now = now_after f.now o }
    → u ≡ tie_after t o → IsSeated h f t → IsSeated h g u
seated_after h f g t u None fields tie out = subst (λ x. IsSeated h x u) (sym fields) (subst (λ x. IsSeated h f x) (sym tie) out)
seated_after h f g t u (Some e) fields tie out = record {
  seat = record out.seat { fields = record (out.seat.fields) { now = e.ticket }; entries = out.seat.entries ++ e ∷ [] };
  is = ap (λ (x : Tie). x.seat) tie ∙ ap (λ x. seat_more x e) out.is;
  hall = out.hall;
  fields = ap (λ (x : TokenFields). let y : TokenFields = record x { now = e.ticket } in y) out.fields ∙ sym fields;
  parts = out.parts ∙ sym (ap (λ (x : TokenFields). x.index) fields);
  knows = subst (λ (x : Tie). KnowsMarks x g.marks) (sym tie) (subst (λ (x : TokenFields). KnowsMarks t x.marks) (sym fields) out.knows);
  belongs = subst (λ (x : Tie). BelongsTo x h.lists) (sym tie) out.belongs;
}

same_seat : (s : InstanceSeat) (o : Option Entry) → SameSeat (Some s) (seat_done (Some s) o)
same_seat s None = (refl, refl, refl, refl)
same_seat s (Some e) = (refl, refl, refl, refl)

-- after an access the token is that of the same instance
pub same_instance : (h : HallName) (f g : TokenFields) (t u : Tie) (o : Option Entry) → g ≡ record f { now = now_after f.now o }
    → u ≡ tie_after t o → IsSeated h f t → IsSameInstance f g t u
same_instance h f g t u o fields tie out = record {
  fields = fields ∙ sym (ap (λ n. let y : TokenFields = record f { now = n } in y) (ap (λ (x : TokenFields). x.now) fields));
  lists = ap (λ (x : Tie). identities_of x.lists) tie;
  seat = subst (λ (x : Tie). SameSeat t.seat x.seat) (sym tie)
      (subst (λ x. SameSeat x (seat_done x o)) (sym out.is) (same_seat out.seat o));
}

replies_done : (s : Option InstanceSeat) (o : Option Entry) → replies_of_seat (seat_done s o) ≡ replies_of_seat s
replies_done s None = refl
replies_done None (Some e) = refl
replies_done (Some s) (Some e) = refl

pub replies_after : (t u : Tie) (o : Option Entry) → u ≡ tie_after t o → replies_of_seat u.seat ≡ replies_of_seat t.seat
replies_after t u o tie = ap (λ (x : Tie). replies_of_seat x.seat) tie ∙ replies_done t.seat o

pub trace_after : (h : HallName) (f : TokenFields) (t u : Tie) (c : ℕ) (write : Option ℤ) (old new : List Entry) (o : Option Entry)
    → TraceAfter c write old new o → old ≡ entries_of_seat t.seat → u ≡ tie_after t o
    → IsSeated h f t → new ≡ entries_of_seat u.seat
trace_after h f t u c write old new None q is tie out = q ∙ (is ∙ sym (ap (λ (x : Tie). entries_of_seat x.seat) tie))
trace_after h f t u c write old new (Some e) q is tie out =
    q.1 ∙ (ap (λ l. l ++ e ∷ []) (is ∙ ap entries_of_seat out.is)
    ∙ sym (ap (λ (x : Tie). entries_of_seat x.seat) tie ∙ ap (λ x. entries_of_seat (seat_more x e)) out.is))

-- the seat of a payload after an access
pub seat_again : (a r : RunSeat) (z : TableId) (id : ℕ) (v : View) (o : Option Entry) → z ≡ a.badge.table_id → id ≡ a.badge.id
    → a.badge.views ≡ v ∷ [] → r.badge.table_id ≡ z → r.badge.id ≡ id
    → r.badge.views ≡ view_of (ran v.it o) ∷ [] → seat_in (Some r) ≡ seat_done (seat_in (Some a)) o
seat_again a r z id v o az ai av rz ri rv =
    let new : seat_in (Some r) ≡ seat_of z id (ran v.it o).constants (ran v.it o).run =
    ap₂ (λ y i. seat_of y i (badge_view r.badge.views).constants (badge_view r.badge.views).run) rz ri
    ∙ ap (λ vs. seat_of z id (badge_view vs).constants (badge_view vs).run) rv in
    let old : seat_of z id v.it.constants v.it.run ≡ seat_in (Some a) =
    ap₂ (λ y i. seat_of y i v.it.constants v.it.run) az ai
    ∙ ap (λ vs. seat_of a.badge.table_id a.badge.id (badge_view vs).constants (badge_view vs).run) (sym av) in
    new ∙ (ran_seat z id v o ∙ ap (λ s. seat_done s o) old)
