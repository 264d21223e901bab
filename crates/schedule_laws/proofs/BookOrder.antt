-- If the tickets of a book rise, its instances are ordered along their parents.
use Rattle.std.proofs.Common.{◌≢◌, ◌≡◌, ◌∙◌, sym, ap, subst, refl, ℕ, ℤ, zero, suc, List, [], ◌∷◌, ◌++◌, Bool, true, false, inl, inr, ◌⊎◌}
use Rattle.std.proofs.Common.{◌<◌, ◌+◌, ◌-◌, ◌==◌, length, map, Option, Some, None, arith, slice_index_or, append-nil}
use Rattle.std.specs.Prelude.{AllPairs}
use Rattle.std.proofs.lemmas.Bool.{cases_lt, eqb-true}
use Rattle.std.proofs.lemmas.Int.{ints}
use Rattle.std.proofs.lemmas.List.{get_or_push, map-append, same_from_push}
use Rattle.pipe_model.proofs.Members.{none_among, among_left, among_right}
use Rattle.pipe_model.specs.declared.event.Event.{Event}
use Rattle.pipe_model.specs.declared.event.Event.TheVariants.{Begin, Access, Advance, Enter, Finish, Stop}
use Rattle.pipe_model.specs.declared.node.Kind.{Kind}
use Rattle.pipe_model.specs.declared.node.Kind.TheVariants.{Zero, Wait, Continue}
use Rattle.pipe_model.specs.declared.node.Node.{Node}
use Rattle.pipe_model.specs.declared.node.NodeId.{NodeId}
use Rattle.pipe_model.specs.Runs.Allowed.{ContinuesLoop, ControlAllows, HasPassed, LeftHasPassed, MayBegin, MayEnter}
use Rattle.pipe_model.specs.Pipelines.Behaviour.{Staged, Ended, node_of}
use Rattle.pipe_model.specs.Races.Columns.{no_node, node_at, nodes_at}
use Rattle.pipe_model.specs.Runs.ControlRun.{ControlRun, EmptyControlRun, ControlRunThen, is_access}
use Rattle.pipe_model.specs.Races.Dag.{IsLastUpTo}
use Rattle.pipe_model.specs.Orders.LeftParent.{joined_at, joined_by, last_up_to, left_parent}
use Rattle.pipe_model.specs.Races.DeterminacyRaces.{Among, Here, Later}
use Rattle.pipe_model.specs.Runs.State.{Frame, State, enter_pending, frame_at, next_state, own_columns}
use Rattle.pipe_model.specs.declared.status.Status.{Status}
use Rattle.pipe_model.specs.declared.status.Status.TheVariants.{Running, Pending, Completed}
use Rattle.pipe_model.specs.Orders.Starts.{started_by}
use Rattle.pipe_model.specs.Runs.TicketLogs.{end_ticket, end_tickets, if_ticket, start_ticket, start_tickets, ticket_at}
use Rattle.pipe_model.specs.declared.ticket.BookEntry.{BookEntry}
use Rattle.run_laws.proofs.ListOrders.JoinedPlaces.{last_up_to_found}
use Rattle.run_laws.proofs.ListOrders.LeftParents.{left_is}
use Rattle.run_laws.proofs.ListOrders.StartsOfRuns.{IsStartSound, grew_begin, grew_enter, sound_step}
use Rattle.run_laws.proofs.LogMerge.InstanceCounts.{IsCountedAt, control_counts, end_tickets_counted, ended_in, ended_by_status}
use Rattle.run_laws.proofs.LogMerge.InstanceCounts.{start_tickets_counted, started_in}
use Rattle.run_laws.proofs.LogMerge.LastElements.{LastOf, IsEmpty, HasLast, last_of_list}
use Rattle.run_laws.proofs.LogMerge.InstanceTickets.{start_tickets-append, end_tickets-append, ticket_left, start_has, end_has}
use Rattle.run_laws.proofs.LogMerge.InstanceTickets.{ticket_within}
use Rattle.run_laws.proofs.RunStates.FrameMoves.{enter_pending_is}
use Rattle.run_laws.proofs.RunStates.Frames.{frame_at_exists, frame_at_past, frame_at_within, nodes_at_frame}
use Rattle.run_laws.proofs.RunStates.GrowingColumns.{columns-action, nodes_at_moved, nodes_at_other}
use Rattle.pipe_model.specs.Runs.TicketOrder.{InstancesAreOrdered, StartsAfterEnd, end_ticket_of, start_ticket_of}
use Rattle.schedule_laws.specs.TicketOrderLaws.{BooksOrderInstances, RisingTicketsAreInOrder}

-- the instances of a book are ordered by the columns of a state
abbrev OrdersInstances : List BookEntry → State → Type 0
OrdersInstances book c = InstancesAreOrdered (own_columns c) book

-- ---- rising books

-- each entry has a smaller ticket than all after it
abbrev Rise : List BookEntry → Type 0
Rise [] = Unit {0}
Rise (x ∷ xs) = ((y : BookEntry) → Among y xs → x.ticket < y.ticket) × Rise xs

among_place : (y : BookEntry) (xs : List BookEntry) (d : BookEntry) → Among y xs → (k : ℕ) × (k < length xs) × (slice_index_or xs k d ≡ y)
among_place y [] d m = absurd (none_among y m)
among_place y (x ∷ xs) d Here = (0, omega arith, refl)
among_place y (x ∷ xs) d (Later w m) = let h = among_place y xs d m in (suc h.0, (let l = h.1 in omega (arith, l)), h.2)

pairs_rise : (xs : List BookEntry) → AllPairs (λ (a : BookEntry) (b : BookEntry). a.ticket < b.ticket) xs → Rise xs
pairs_rise [] h = tt
pairs_rise (x ∷ xs) h = (
  (λ y m. (
      let p = among_place y xs x m in
      let l = p.1 in
      subst (λ (z : BookEntry). x.ticket < z.ticket) p.2 (h 0 (suc p.0) x (omega arith) (omega (arith, l))))),
  pairs_rise xs (λ i j d l w. h (suc i) (suc j) d (omega (arith, l)) (omega (arith, w))),
)

rise_prefix : (xs : List BookEntry) (b : BookEntry) → Rise (xs ++ b ∷ []) → Rise xs
rise_prefix [] b h = tt
rise_prefix (x ∷ xs) b h = ((λ y m. h.0 y (among_left y xs (b ∷ []) m)), rise_prefix xs b h.1)

rise_last : (xs : List BookEntry) (b : BookEntry) → Rise (xs ++ b ∷ []) → (x : BookEntry) → Among x xs → x.ticket < b.ticket
rise_last [] b h x m = absurd (none_among x m)
rise_last (y ∷ xs) b h x Here = h.0 b (among_right b xs (b ∷ []) Here)
rise_last (y ∷ xs) b h x (Later w m) = rise_last xs b h.1 x m

-- ---- one entry more

pub ticket_stays : (xs ys : List ℕ) (n t : ℕ) → ticket_at xs n ≡ Some t → ticket_at (xs ++ ys) n ≡ Some t
ticket_stays [] ys n t e = absurd (cc)
ticket_stays (x ∷ xs) ys zero t e = e
ticket_stays (x ∷ xs) ys (suc n) t e = ticket_stays xs ys n t e

-- a ticket of a list to which one may have been appended
ticket_split : (xs : List ℕ) (b : Bool) (u n t : ℕ) → ticket_at (xs ++ (if_ticket b u ++ [])) n ≡ Some t
    → (ticket_at xs n ≡ Some t) ⊎ ((b ≡ true) × (n ≡ length xs) × (t ≡ u))
ticket_split [] true u zero t e = inr (refl, refl, (cc))
ticket_split [] true u (suc n) t e = absurd (cc)
ticket_split [] false u n t e = absurd (cc)
ticket_split (x ∷ xs) b u zero t e = inl e
ticket_split (x ∷ xs) b u (suc n) t e = elim (ticket_split xs b u n t e) [
  | inl old ↦ inl old
  | inr new ↦ (let l = new.1 in inr (new.0, omega (arith, l), new.2))
]

-- the same if no ticket was appended
ticket_same : (xs : List ℕ) (n t : ℕ) → ticket_at (xs ++ []) n ≡ Some t → ticket_at xs n ≡ Some t
ticket_same xs n t e = subst (λ l. ticket_at l n ≡ Some t) (append-nil xs) e

module _ (bs : List BookEntry) (b : BookEntry) where
  start_stays : (i k t : ℕ) → start_ticket_of bs i k ≡ Some t → start_ticket_of (bs ++ b ∷ []) i k ≡ Some t
  start_stays i k t e =
      subst (λ l. ticket_at l k ≡ Some t) (sym (start_tickets-append i bs (b ∷ [])))
      (ticket_stays (start_tickets i bs) (start_tickets i (b ∷ [])) k t e)

  end_stays : (i k t : ℕ) → end_ticket_of bs i k ≡ Some t → end_ticket_of (bs ++ b ∷ []) i k ≡ Some t
  end_stays i k t e =
      subst (λ l. ticket_at l k ≡ Some t) (sym (end_tickets-append i bs (b ∷ [])))
      (ticket_stays (end_tickets i bs) (end_tickets i (b ∷ [])) k t e)

  after_stays : (h j i k : ℕ) → StartsAfterEnd bs h j i k → StartsAfterEnd (bs ++ b ∷ []) h j i k
  after_stays h j i k u =
      record { start = u.start; end = u.end; starts = start_stays i k u.start u.starts; ends = end_stays h j u.end u.ends; later = u.later }

  -- the tickets of the longer book
  start_is : (i k t : ℕ) → start_ticket_of (bs ++ b ∷ []) i k ≡ Some t → ticket_at (start_tickets i bs ++ start_tickets i (b ∷ [])) k
      ≡ Some t
  start_is i k t e = subst (λ l. ticket_at l k ≡ Some t) (start_tickets-append i bs (b ∷ [])) e

  end_is : (i k t : ℕ) → end_ticket_of (bs ++ b ∷ []) i k ≡ Some t → ticket_at (end_tickets i bs ++ end_tickets i (b ∷ [])) k ≡ Some t
  end_is i k t e = subst (λ l. ticket_at l k ≡ Some t) (end_tickets-append i bs (b ∷ [])) e

  -- an instance that has ended has a smaller ticket than the last entry
  ended_first : ((x : BookEntry) → Among x bs → x.ticket < b.ticket) → (i k : ℕ) → k < length (end_tickets i bs)
      → (t : ℕ) × (end_ticket_of (bs ++ b ∷ []) i k ≡ Some t) × (t < b.ticket)
  ended_first last i k l =
      let h = ticket_left (end_tickets i bs) (end_tickets i (b ∷ [])) k l in
      let m = end_has i bs h.0 h.2 in
      let w = last m.entry m.made in
      let e = m.is in
      (h.0, subst (λ l. ticket_at l k ≡ Some h.0) (sym (end_tickets-append i bs (b ∷ []))) h.1, omega (arith, w, e))

  started_first : ((x : BookEntry) → Among x bs → x.ticket < b.ticket) → (i k : ℕ) → k < length (start_tickets i bs)
      → (t : ℕ) × (start_ticket_of (bs ++ b ∷ []) i k ≡ Some t) × (t < b.ticket)
  started_first last i k l =
      let h = ticket_left (start_tickets i bs) (start_tickets i (b ∷ [])) k l in
      let m = start_has i bs h.0 h.2 in
      let w = last m.entry m.made in
      let e = m.is in
      (h.0, subst (λ l. ticket_at l k ≡ Some h.0) (sym (start_tickets-append i bs (b ∷ []))) h.1, omega (arith, w, e))

  -- an instance that starts with the last entry starts after each instance that had ended
  starts_last : ((x : BookEntry) → Among x bs → x.ticket < b.ticket) → (h j i k t : ℕ) → start_ticket_of (bs ++ b ∷ []) i k ≡ Some t
      → t ≡ b.ticket → j < length (end_tickets h bs)
      → StartsAfterEnd (bs ++ b ∷ []) h j i k
  starts_last last h j i k t e new l =
      let r = ended_first last h j l in
      let w = r.2 in
      record { start = t; end = r.0; starts = e; ends = r.1; later = omega (arith, w, new) }

-- ---- the frames

-- the number of started instances of a column
column_started : (s : State) (i k : ℕ) → k < started_in (frame_at s.frames i) → k < length (nodes_at (own_columns s) i)
column_started s i k l = by_frame (frame_at s.frames i) refl l
  where
    by_frame : (o : Option Frame) → frame_at s.frames i ≡ o → k < started_in o → k < length (nodes_at (own_columns s) i)
    by_frame None e l = absurd (omega (arith, l))
    by_frame (Some f) e l = subst (λ (ns : List Node). k < length ns) (sym (nodes_at_frame s.frames i f e)) l

-- the loop goes on after an iteration whose instance 0 has ended
continues_ended : (w : Status) (nodes : List Node) → 0 < length nodes → ContinuesLoop w nodes → 0 < ended_by_status w (length nodes)
continues_ended Running nodes l g = omega (arith, g)
continues_ended (Pending k n) nodes l g = l
continues_ended (Completed e) nodes l g = l

-- if the number was passed, the instances up to it have ended
passed_ended : (w : Status) (nodes : List Node) (n : ℤ) (j : ℕ) → HasPassed w nodes n → IsLastUpTo nodes j n
    → j < ended_by_status w (length nodes)
passed_ended Running nodes n j h last =
    let within = last.within in
    elim (cases_lt j (length nodes - 1)) [
      | inl less ↦ less
      | inr more ↦ (
          let e : j ≡ length nodes - 1 = omega (arith, more, within) in
          let up = last.up_to in
          let same : (node_at nodes j).number ≡ (node_at nodes (length nodes - 1)).number = ap (λ m. (node_at nodes m).number) e in
          absurd (omega (arith, ints, h, up, same)))
    ]
passed_ended (Pending k m) nodes n j h last = last.within
passed_ended (Completed e) nodes n j h last = last.within

-- a new left parent of an instance is the last instance up to its number
joined_first : (kind : Kind) (x j : ℕ) (found : Option ℕ) → joined_by kind x found ≡ j → x < j → (kind ≡ Wait) × (found ≡ Some j)
joined_first Zero x j found e l = absurd (omega (arith, e, l))
joined_first Continue x j found e l = absurd (omega (arith, e, l))
joined_first Wait x j None e l = absurd (omega (arith, e, l))
joined_first Wait x j (Some m) e l = let same : m ≡ j = omega (arith, e, l) in (refl, ap (λ y. Some y) same)

-- ---- the step

module _ (limit : ℕ) (bs : List BookEntry) (ticket : ℕ) (d : State) (starts : List NodeId)
    (last : (x : BookEntry) → Among x bs → x.ticket < ticket)
    (sound : IsStartSound d.frames starts)
    (counts : (i : ℕ) → IsCountedAt (map (λ b. b.event) bs) d i)
    (before : OrdersInstances bs d) where
  -- the number of tickets
  starts_counted : (i : ℕ) → length (start_tickets i bs) ≡ started_in (frame_at d.frames i)
  starts_counted i = start_tickets_counted i bs ∙ (counts i).starts

  ends_counted : (i : ℕ) → length (end_tickets i bs) ≡ ended_in (frame_at d.frames i)
  ends_counted i = end_tickets_counted i bs ∙ (counts i).ends

  abbrev entry : Event → BookEntry
  entry e = record { ticket = ticket; event = e }

  -- an instance that had started keeps its parents
  old_left : (e : Event) → ((c k : ℕ) → k < length (nodes_at (own_columns d) c)
      → left_parent (own_columns (next_state d e)) c k ≡ left_parent (own_columns d) c k)
      → (i j k start : ℕ) → left_parent (own_columns (next_state d e)) (suc i) k ≡ Some j → start_ticket_of bs (suc i) k ≡ Some start
      → StartsAfterEnd (bs ++ entry e ∷ []) i j (suc i) k
  old_left e stays i j k start parent is =
      let within = ticket_within (start_tickets (suc i) bs) k start is in
      let c = starts_counted (suc i) in
      let l = column_started d (suc i) k (omega (arith, within, c)) in
      after_stays bs (entry e) i j (suc i) k (before.left i j k start (sym (stays (suc i) k l) ∙ parent) is)

  -- an event that ends an instance
  ends_one : (e : Event) (j : ℕ) (f : Frame) → frame_at d.frames j ≡ Some f → f.status ≡ Running
      → ((i t : ℕ) → end_ticket i e t ≡ if_ticket (j == i) t) → ((i t : ℕ) → start_ticket i e t ≡ [])
      → own_columns (next_state d e) ≡ own_columns d
      → OrdersInstances (bs ++ entry e ∷ []) (next_state d e)
  ends_one e j f is runs ends no_start columns = record {
    from_start_to_end = λ i k end q. (
        let q' : ticket_at (end_tickets i bs ++ (if_ticket (j == i) ticket ++ [])) k ≡ Some end =
        subst (λ l. ticket_at (end_tickets i bs ++ (l ++ [])) k ≡ Some end) (ends i ticket) (end_is bs (entry e) i k end q) in
        elim (ticket_split (end_tickets i bs) (j == i) ticket k end q') [
          | inl old ↦ (let h = before.from_start_to_end i k end old in (h.0, start_stays bs (entry e) i k h.0 h.1, h.2))
          | inr new ↦ (
              let here : j ≡ i = eqb-true j i new.0 in
              let there : frame_at d.frames i ≡ Some f = subst (λ m. frame_at d.frames m ≡ Some f) here is in
              let a = starts_counted i ∙ ap started_in there in
              let b = ends_counted i ∙ ap ended_in there ∙ ap (λ w. ended_by_status w (length f.nodes)) runs in
              let filled = (sound.sound.well j f is).filled in
              let n = new.1 in
              let t = new.2 in
              let h = started_first bs (entry e) last i k (omega (arith, a, b, filled, n)) in
              let w = h.2 in
              (h.0, h.1, omega (arith, w, t)))
        ]);
    up = λ i k start q. after_stays bs (entry e) i k i (k + 1) (before.up i k start (old_start i (k + 1) start q));
    left = λ i h k start parent q. old_left e (λ c m l. ap (λ cs. left_parent cs c m) columns) i h k start parent
        (old_start (suc i) k start q);
  }
    where
      old_start : (i k start : ℕ) → start_ticket_of (bs ++ entry e ∷ []) i k ≡ Some start → start_ticket_of bs i k ≡ Some start
      old_start i k start q =
          ticket_same (start_tickets i bs) k start
          (subst (λ l. ticket_at (start_tickets i bs ++ (l ++ [])) k ≡ Some start) (no_start i ticket) (start_is bs (entry e) i k start q))

  -- an event that starts an instance of iteration j
  starts_one : (e : Event) (j : ℕ) → ((i t : ℕ) → start_ticket i e t ≡ if_ticket (j == i) t) → ((i t : ℕ) → end_ticket i e t ≡ [])
      → ((c k : ℕ) → k < length (nodes_at (own_columns d) c) → left_parent (own_columns (next_state d e)) c k ≡ left_parent
      (own_columns d) c k)
      → ((k : ℕ) → k + 1 ≡ started_in (frame_at d.frames j) → k < ended_in (frame_at d.frames j))
      → ((i h : ℕ) → j ≡ suc i → left_parent (own_columns (next_state d e)) (suc i) (started_in (frame_at d.frames (suc i))) ≡ Some h
      → h < ended_in (frame_at d.frames i))
      → OrdersInstances (bs ++ entry e ∷ []) (next_state d e)
  starts_one e j starts_is no_end stays above left_of = record {
    from_start_to_end = λ i k end q. (
        let old : end_ticket_of bs i k ≡ Some end = ticket_same (end_tickets i bs) k end
        (subst (λ l. ticket_at (end_tickets i bs ++ (l ++ [])) k ≡ Some end) (no_end i ticket) (end_is bs (entry e) i k end q)) in
        let h = before.from_start_to_end i k end old in
        (h.0, start_stays bs (entry e) i k h.0 h.1, h.2));
    up = λ i k start q. elim (ticket_split (start_tickets i bs) (j == i) ticket (k + 1) start (split i (k + 1) start q)) [
      | inl old ↦ after_stays bs (entry e) i k i (k + 1) (before.up i k start old)
      | inr new ↦ (
          let here : j ≡ i = eqb-true j i new.0 in
          let a = starts_counted i in
          let n = new.1 in
          let full : k + 1 ≡ started_in (frame_at d.frames j) = rw here (omega (arith, a, n)) in
          let l = above k full in
          let l' : k < ended_in (frame_at d.frames i) = subst (λ m. k < ended_in (frame_at d.frames m)) here l in
          let b = ends_counted i in
          starts_last bs (entry e) last i k i (k + 1) start q new.2 (omega (arith, l', b)))
    ];
    left = λ i h k start parent q. elim (ticket_split (start_tickets (suc i) bs) (j == suc i) ticket k start (split (suc i) k start q)) [
      | inl old ↦ old_left e stays i h k start parent old
      | inr new ↦ (
          let here : j ≡ suc i = eqb-true j (suc i) new.0 in
          let a = starts_counted (suc i) in
          let n = new.1 in
          let place : k ≡ started_in (frame_at d.frames (suc i)) = omega (arith, a, n) in
          let l = left_of i h here (subst (λ m. left_parent (own_columns (next_state d e)) (suc i) m ≡ Some h) place parent) in
          let b = ends_counted i in
          starts_last bs (entry e) last i h (suc i) k start q new.2 (omega (arith, l, b)))
    ];
  }
    where
      split : (i k start : ℕ) → start_ticket_of (bs ++ entry e ∷ []) i k ≡ Some start
          → ticket_at (start_tickets i bs ++ (if_ticket (j == i) ticket ++ [])) k ≡ Some start
      split i k start q =
          subst (λ l. ticket_at (start_tickets i bs ++ (l ++ [])) k ≡ Some start) (starts_is i ticket) (start_is bs (entry e) i k start q)

  -- a stop
  stops : OrdersInstances (bs ++ entry Stop ∷ []) (next_state d Stop)
  stops = record {
    from_start_to_end = λ i k end q. (
        let h = before.from_start_to_end i k end (ticket_same (end_tickets i bs) k end (end_is bs (entry Stop) i k end q)) in
        (h.0, start_stays bs (entry Stop) i k h.0 h.1, h.2));
    up = λ i k start q. after_stays bs (entry Stop) i k i (k + 1)
        (before.up i k start (ticket_same (start_tickets i bs) (k + 1) start (start_is bs (entry Stop) i (k + 1) start q)));
    left = λ i h k start parent q. after_stays bs (entry Stop) i h (suc i) k
        (before.left i h k start parent (ticket_same (start_tickets (suc i) bs) k start (start_is bs (entry Stop) (suc i) k start q)));
  }

  -- the beginning of iteration i + 1
  begin_left : (j : ℕ) → MayBegin limit d j → (i h : ℕ) → j ≡ suc i
      → left_parent (own_columns (next_state d (Begin j))) (suc i) (started_in (frame_at d.frames (suc i))) ≡ Some h
      → h < ended_in (frame_at d.frames i)
  begin_left j may i h here parent =
      let number = may.number in
      let past : frame_at d.frames (suc i) ≡ None = frame_at_past d.frames (suc i) (omega (arith, number, here)) in
      let zero_parent : Some 0 ≡ Some h = subst (λ n. left_parent (own_columns (next_state d (Begin j))) (suc i) n ≡ Some h)
      (ap started_in past) parent in
      let z : 0 ≡ h = cc in
      let f = frame_at_exists d.frames i (omega (arith, number, here)) in
      let filled = (sound.sound.well i f.0 f.1).filled in
      let l = continues_ended f.0.status f.0.nodes filled (may.follows i f.0 here f.1) in
      subst (λ n. n < ended_in (frame_at d.frames i)) z (subst (λ o. 0 < ended_in o) (sym f.1) l)

  -- iteration i + 1 enters a stage
  enter_left : (j : ℕ) → MayEnter d j → (i h : ℕ) → j ≡ suc i
      → left_parent (own_columns (next_state d (Enter j))) (suc i) (started_in (frame_at d.frames (suc i))) ≡ Some h
      → h < ended_in (frame_at d.frames i)
  enter_left j may i h here parent =
      let f : Frame = may.frame in
      let u : Frame → Frame = λ g. enter_pending g.status g in
      let z : Node = node_of may.kind may.number in
      let columns : List (List Node) = own_columns (next_state d (Enter j)) in
      let there : frame_at d.frames (suc i) ≡ Some f = subst (λ n. frame_at d.frames n ≡ Some f) here may.is in
      let filled = (sound.sound.well j f may.is).filled in
      let m : ℕ = length f.nodes - 1 in
      let long : length f.nodes ≡ suc m = omega (arith, filled) in
      let parent' : left_parent columns (suc i) (suc m) ≡ Some h = subst (λ n. left_parent columns (suc i) n ≡ Some h)
      (ap started_in there ∙ long) parent in
      let at_left = left_is columns i (suc m) h parent' in
      let next : j ≡ i + 1 = omega (arith, here) in
      let right : nodes_at columns (i + 1) ≡ f.nodes ++ z ∷ [] =
      subst (λ n. nodes_at columns n ≡ f.nodes ++ z ∷ []) next
      (nodes_at_moved d.frames j f u may.is ∙ ap (λ (g : Frame). g.nodes) (enter_pending_is f may.kind may.number may.named)) in
      let new : node_at (nodes_at columns (i + 1)) (suc m) ≡ z =
      ap (λ ns. node_at ns (suc m)) right ∙ get_or_push f.nodes z no_node (suc m) long in
      let w = joined_first (node_at (nodes_at columns (i + 1)) (suc m)).kind (joined_at columns i m) h
      (last_up_to (nodes_at columns i) (node_at (nodes_at columns (i + 1)) (suc m)).number) at_left.joins
      (at_left.nearest m (omega arith)) in
      let kind : may.kind ≡ Wait = ap (λ (x : Node). x.kind) (sym new) ∙ w.0 in
      let within = frame_at_within d.frames j f may.is in
      let g = frame_at_exists d.frames i (omega (arith, within, here)) in
      let apart : i ≢ j = λ e. omega (arith, e, here) in
      let left : nodes_at columns i ≡ g.0.nodes = nodes_at_other d.frames j i u apart ∙ nodes_at_frame d.frames i g.0 g.1 in
      let found : last_up_to g.0.nodes may.number ≡ Some h =
      ap (λ (x : Node). last_up_to g.0.nodes x.number) (sym new)
      ∙ ap (λ ns. last_up_to ns (node_at (nodes_at columns (i + 1)) (suc m)).number) (sym left) ∙ w.1 in
      let it = (last_up_to_found g.0.nodes may.number).some h found in
      let passed : LeftHasPassed d.frames (suc i) may.number = subst (λ n. LeftHasPassed d.frames n may.number) here (may.free kind) in
      subst (λ o. h < ended_in o) (sym g.1) (passed_ended g.0.status g.0.nodes may.number h (passed g.0 g.1) it)

  step : (e : Event) → is_access e ≡ false → ControlAllows limit d e → OrdersInstances (bs ++ entry e ∷ []) (next_state d e)
  step (Begin j) free may =
      starts_one (Begin j) j (λ i t. refl) (λ i t. refl) (grew_begin limit d j starts may sound).lefts
      (λ k full. (
      let number = may.number in
      let none : started_in (frame_at d.frames j) ≡ 0 = ap started_in (frame_at_past d.frames j (omega (arith, number))) in
      absurd (omega (arith, full, none))))
      (begin_left j may)
  step (Access j a) free may = absurd (cc)
  step (Advance j k n) free may =
      ends_one (Advance j k n) j may.running.frame may.running.is may.running.runs (λ i t. refl) (λ i t. refl)
      (columns-action d.frames j (Staged k n) (Pending k n))
  step (Enter j) free may =
      starts_one (Enter j) j (λ i t. refl) (λ i t. refl) (grew_enter d j starts may sound).lefts
      (λ k full. (
      let ended : ended_in (frame_at d.frames j) ≡ length may.frame.nodes = ap ended_in may.is
      ∙ ap (λ w. ended_by_status w (length may.frame.nodes)) may.named in
      let all : started_in (frame_at d.frames j) ≡ length may.frame.nodes = ap started_in may.is in
      omega (arith, full, ended, all)))
      (enter_left j may)
  step (Finish j e) free may =
      ends_one (Finish j e) j may.running.frame may.running.is may.running.runs (λ i t. refl) (λ i t. refl)
      (columns-action d.frames j (Ended e) (Completed e))
  step Stop free may = stops

-- ---- the book

-- the induction over the book
record IsOrdered (book : List BookEntry) (c : State) : Type 0 where
  starts : List NodeId
  sound : IsStartSound c.frames starts
  ordered : OrdersInstances book c

ordered_book : {limit : ℕ} {es : List Event} {c : State} → ControlRun limit es c → (book : List BookEntry) → map (λ b. b.event) book ≡ es
    → Rise book → IsOrdered book c
ordered_book EmptyControlRun [] same rise = record {
  starts = [];
  sound = record {
    sound = record { well = λ i f c. absurd (cc); goes = λ i f c. absurd (cc); waits = λ i f g c. absurd (cc) };
    heads = λ i f c. absurd (cc);
    all = λ i k l. absurd (omega (arith, l));
    ordered = record {
      once = λ m l. absurd (omega (arith, l));
      inside = λ x l. absurd (omega (arith, l));
      ordered = λ x y e l. absurd (omega (arith, l));
    };
  };
  ordered = record { from_start_to_end = λ i k end q. absurd (cc); up = λ i k start q. absurd (cc); left = λ i j k start p q. absurd (cc) };
}
ordered_book EmptyControlRun (b ∷ book) same rise = absurd (cc)
ordered_book {limit} (ControlRunThen {events = es} {c = d} r e free going h) book same rise =
    go book (last_of_list book) same rise (λ bs q w. ordered_book r bs q w)
  where
    go : (bk : List BookEntry) → LastOf bk → map (λ b. b.event) bk ≡ es ++ e ∷ [] → Rise bk
        → ((bs : List BookEntry) → map (λ b. b.event) bs ≡ es → Rise bs → IsOrdered bs d) → IsOrdered bk (next_state d e)
    go bk IsEmpty q w again = absurd (no_last es e q)
      where
        no_last : (xs : List Event) (x : Event) → [] ≡ xs ++ x ∷ [] → ⊥
        no_last [] x q = cc
        no_last (y ∷ xs) x q = cc
    go bk (HasLast bs b) q w again =
        let both = same_from_push es (map (λ (x : BookEntry). x.event) bs) e b.event
        (sym q ∙ map-append (λ (x : BookEntry). x.event) bs (b ∷ [])) in
        let k = again bs (sym both.0) (rise_prefix bs b w) in
        let counts = λ (i : ℕ). subst (λ l. IsCountedAt l d i) both.0 (control_counts r i) in
        let ordered : OrdersInstances (bs ++ (let x : BookEntry = record { ticket = b.ticket; event = e } in x) ∷ []) (next_state d e) =
        step limit bs b.ticket d k.starts (rise_last bs b w) k.sound counts k.ordered e free h in
        record {
          starts = k.starts ++ started_by d e;
          sound = sound_step limit d e k.starts h k.sound;
          ordered = subst (λ x. OrdersInstances (bs ++ (let y : BookEntry = record { ticket = b.ticket; event = x } in y) ∷ [])
              (next_state d e))
              both.1 ordered;
        }

pub books_order_instances : BooksOrderInstances
books_order_instances limit book c r pairs = (ordered_book r book refl (pairs_rise book pairs)).ordered

pub rising_tickets_are_in_order : RisingTicketsAreInOrder
rising_tickets_are_in_order limit book shards made c r rise = record {
  logs = rise;
  instances = books_order_instances limit book c r rise.in_book;
}
