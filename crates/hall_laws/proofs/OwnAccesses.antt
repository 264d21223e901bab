-- The accesses of a merge, with the instances that make them in the run.
use Rattle.std.proofs.Common.{◌≡◌, ◌∙◌, refl, sym, ap, ap₂, subst, ℕ, zero, suc, ◌<◌, ◌≤◌, ◌%◌, List, [], ◌∷◌, ◌++◌, length, map, true}
use Rattle.std.proofs.Common.{false, ◌==◌, Option, Some, None, arith, inl, inr, append-nil, append_assoc, if◌then◌else◌}
use Rattle.std.proofs.lemmas.Bool.{cases_eq, cases_lt, eq-eqb, ne_eqb, false≢true}
use Rattle.std.proofs.lemmas.List.{map-append}
use Rattle.pipe_model.specs.declared.access.NodeAccess.{NodeAccess}
use Rattle.pipe_model.specs.declared.event.Event.{Event}
use Rattle.pipe_model.specs.declared.event.Event.TheVariants.{Begin, Access, Advance, Enter, Finish, Stop}
use Rattle.pipe_model.specs.declared.ticket.BookEntry.{BookEntry}
use Rattle.pipe_model.specs.declared.ticket.ShardEntry.{ShardEntry}
use Rattle.pipe_model.specs.Pipelines.Pipeline.{Pipeline}
use Rattle.pipe_model.specs.Pipelines.Store.{written, wrote}
use Rattle.pipe_model.specs.Races.CellRaces.{accesses_to, noted_access}
use Rattle.pipe_model.specs.Races.Columns.{at}
use Rattle.pipe_model.specs.Races.DeterminacyRaces.{Among, Here, Later}
use Rattle.pipe_model.specs.Runs.ControlParts.{control_after, outlines_of, without_accesses}
use Rattle.pipe_model.specs.Runs.ControlRun.{ControlRun, is_access}
use Rattle.pipe_model.specs.Runs.Run.{Run}
use Rattle.pipe_model.specs.Runs.RunLogs.{state_after}
use Rattle.pipe_model.specs.Runs.State.{Frame, State, accesses_of, current_index, frame_at, initial_state, next_state}
use Rattle.pipe_model.specs.Runs.TicketLogs.{IsMerge, InOrder, LogEntry, OfBook, OfShard, book_in, end_tickets, event_of, if_shard}
use Rattle.pipe_model.specs.Runs.TicketLogs.{shard_in, start_tickets, ticket_at}
use Rattle.pipe_model.proofs.Members.{among_left, among_right}
use Rattle.schedule_laws.proofs.ControlOutlines.{runs_have_control_runs}
use Rattle.run_laws.proofs.Iterations.CellWrites.{other_cell_writes_none}
use Rattle.run_laws.proofs.LogMerge.FittingLogs.{IsWithinInstance}
use Rattle.run_laws.proofs.LogMerge.InstanceCounts.{control_counts, end_tickets_counted, one_open, start_tickets_counted, started_in}
use Rattle.run_laws.proofs.LogMerge.InstanceTickets.{HasTicket, end_has, end_tickets-append, start_has, start_tickets-append, ticket_left}
use Rattle.run_laws.proofs.LogMerge.InstanceTickets.{ticket_right}
use Rattle.run_laws.proofs.LogMerge.MergeSplits.{among_book, book_in-append, order_after, order_before}
use Rattle.run_laws.proofs.RunStates.FrontAndBack.{front_is_run, state_from-push}
use Rattle.hall_laws.specs.HallRuns.{node_access_of, node_accesses}

-- the accesses of a merge, each with the instance in its entry
abbrev pub merged_accesses : List LogEntry → List NodeAccess
merged_accesses [] = []
merged_accesses (OfBook b ∷ xs) = merged_accesses xs
merged_accesses (OfShard k e ∷ xs) = node_access_of e ∷ merged_accesses xs

merged_accesses-append : (xs ys : List LogEntry) → merged_accesses (xs ++ ys) ≡ merged_accesses xs ++ merged_accesses ys
merged_accesses-append [] ys = refl
merged_accesses-append (OfBook b ∷ xs) ys = merged_accesses-append xs ys
merged_accesses-append (OfShard k e ∷ xs) ys = ap (λ l. node_access_of e ∷ l) (merged_accesses-append xs ys)

-- ---- the events of the book

cons_control : (e : Event) (es : List Event) → is_access e ≡ false → without_accesses (e ∷ es) ≡ e ∷ without_accesses es
cons_control e es n = ap (λ b. if b then without_accesses es else e ∷ without_accesses es) n

-- without its accesses a merge has the events of its book
pub book_events : (xs : List LogEntry) → ((b : BookEntry) → Among b (book_in xs) → is_access b.event ≡ false)
    → without_accesses (map event_of xs) ≡ map (λ b. b.event) (book_in xs)
book_events [] h = refl
book_events (OfBook b ∷ xs) h =
    cons_control b.event (map event_of xs) (h b Here) ∙ ap (λ l. b.event ∷ l) (book_events xs (λ d m. h d (Later b m)))
book_events (OfShard k e ∷ xs) h = book_events xs h

-- ---- the instance of an access

-- where an entry of a shard is in a merge: its instance has started and has not ended
record IsOpenAt (left : List LogEntry) (i n : ℕ) : Type 0 where
  pub begun : n < length (start_tickets i (book_in left))
  pub open_yet : length (end_tickets i (book_in left)) ≤ n

open_at : (book : List BookEntry) (left right : List LogEntry) (k : ℕ) (e : ShardEntry) → InOrder (left ++ OfShard k e ∷ right)
    → book ≡ book_in left ++ book_in right → IsWithinInstance book e → IsOpenAt left e.node.iteration e.node.index
open_at book left right k e order parts within =
    let before = book_in left in
    let later = book_in right in
    let i = e.node.iteration in
    let n = e.node.index in
    let old : (t : ℕ) → HasTicket before t → t ≤ e.ticket = λ t h. (
    let is = h.is in
    elim (order_before left (OfShard k e) right order (OfBook h.entry) (among_book left h.entry h.made)) [
      | inl less ↦ omega (arith, is, less)
      | inr same ↦ (let q = same.0 in omega (arith, is, q))
    ]) in
    let new : (t : ℕ) → HasTicket later t → e.ticket < t = λ t h. (
    let is = h.is in
    elim (order_after left (OfShard k e) right order (OfBook h.entry) (among_book right h.entry h.made)) [
      | inl less ↦ omega (arith, is, less)
      | inr same ↦ (let q = same.1 in absurd (omega (arith, q)))
    ]) in
    let starts : start_tickets i book ≡ start_tickets i before ++ start_tickets i later = ap (start_tickets i) parts
    ∙ start_tickets-append i before later in
    let ends : end_tickets i book ≡ end_tickets i before ++ end_tickets i later = ap (end_tickets i) parts
    ∙ end_tickets-append i before later in
    record {
      begun = elim (ticket_right (start_tickets i before) (start_tickets i later) n within.start
          (subst (λ l. ticket_at l n ≡ Some within.start) starts within.started)) [
            | inl less ↦ less
            | inr m ↦ (
                let late = new within.start (start_has i later within.start m) in
                let early = within.after in
                absurd (omega (arith, late, early)))
          ];
      open_yet = elim (cases_lt n (length (end_tickets i before))) [
        | inl less ↦ (
            let h = ticket_left (end_tickets i before) (end_tickets i later) n less in
            let early = old h.0 (end_has i before h.0 h.2) in
            let late = within.before h.0 (rw ends h.1) in
            absurd (omega (arith, early, late)))
        | inr ok ↦ ok
      ];
    }

-- as many instances of an iteration have started in both of two states with the same outlines
started_in_outline : (fs : List Frame) (i : ℕ) → started_in (frame_at (outlines_of fs) i) ≡ started_in (frame_at fs i)
started_in_outline [] i = refl
started_in_outline (f ∷ fs) zero = refl
started_in_outline (f ∷ fs) (suc i) = started_in_outline fs i

last_started : (o : Option Frame) (n : ℕ) → started_in o ≡ suc n → current_index o ≡ n
last_started None n e = absurd (omega (arith, e))
last_started (Some f) n e = omega (arith, e)

-- the current instance of the run is the entry's
current_is : (p : Pipeline) (limit : ℕ) (left : List LogEntry) (i n : ℕ) → Run p limit (map event_of left) (state_after (map event_of left))
    → ((b : BookEntry) → Among b (book_in left) → is_access b.event ≡ false) → IsOpenAt left i n
    → current_index (frame_at (state_after (map event_of left)).frames i) ≡ n
current_is p limit left i n run silent h =
    let s = state_after (map event_of left) in
    let d = control_after (map event_of left) in
    let k = runs_have_control_runs p limit (map event_of left) s run in
    let control : ControlRun limit (map (λ (b : BookEntry). b.event) (book_in left)) d = subst (λ l. ControlRun limit l d)
    (book_events left silent) k.run in
    let counts = control_counts control i in
    let c1 = counts.starts in
    let c2 = counts.ends in
    let a1 = start_tickets_counted i (book_in left) in
    let a2 = end_tickets_counted i (book_in left) in
    let one = one_open (frame_at d.frames i) in
    let begun = h.begun in
    let open_yet = h.open_yet in
    let started : started_in (frame_at d.frames i) ≡ suc n = omega (arith, c1, c2, a1, a2, one, begun, open_yet) in
    let same : started_in (frame_at s.frames i) ≡ started_in (frame_at d.frames i) =
    sym (started_in_outline s.frames i) ∙ ap (λ l. started_in (frame_at l i)) k.same.frames ∙ started_in_outline d.frames i in
    last_started (frame_at s.frames i) n (same ∙ started)

-- ---- all accesses

-- an event that is no access adds none
adds_none : (s : State) (e : Event) → is_access e ≡ false → (next_state s e).accesses ≡ s.accesses
adds_none s (Begin i) n = refl
adds_none s (Access i a) n = absurd (false≢true (sym n))
adds_none s (Advance i k m) n = refl
adds_none s (Enter i) n = refl
adds_none s (Finish i e) n = refl
adds_none s Stop n = refl

module _ (p : Pipeline) (limit : ℕ) (book : List BookEntry) (shards : ℕ → List ShardEntry) (merged : List LogEntry)
    (merge : IsMerge book shards merged)
    (silent : (b : BookEntry) → Among b book → is_access b.event ≡ false)
    (within : (k : ℕ) (e : ShardEntry) → Among (OfShard k e) merged → IsWithinInstance book e)
    (run : Run p limit (map event_of merged) (state_after (map event_of merged))) where
  abbrev events : List LogEntry → List Event
  events xs = map event_of xs

  abbrev Holds : List LogEntry → Type 0
  Holds left = (state_after (events left)).accesses ≡ merged_accesses left

  events_push : (left : List LogEntry) (y : LogEntry) → state_after (events (left ++ y ∷ [])) ≡ next_state (state_after (events left))
      (event_of y)
  events_push left y = ap state_after (map-append event_of left (y ∷ [])) ∙ state_from-push initial_state (events left) (event_of y)

  parts : (left right : List LogEntry) → merged ≡ left ++ right → book ≡ book_in left ++ book_in right
  parts left right is = sym merge.book_is ∙ ap book_in is ∙ book_in-append left right

  step : (left right : List LogEntry) (y : LogEntry) → merged ≡ left ++ y ∷ right → Holds left → Holds (left ++ y ∷ [])
  step left right (OfBook b) is h =
      let there : Among b book = subst (λ l. Among b l) (sym (parts left (OfBook b ∷ right) is))
      (among_right b (book_in left) (b ∷ book_in right) Here) in
      ap (λ (s : State). s.accesses) (events_push left (OfBook b)) ∙ adds_none (state_after (events left)) b.event (silent b there) ∙ h
      ∙ sym (merged_accesses-append left (OfBook b ∷ []) ∙ append-nil (merged_accesses left))
  step left right (OfShard k e) is h =
      let i = e.node.iteration in
      let s = state_after (events left) in
      let there : Among (OfShard k e) merged = subst (λ l. Among (OfShard k e) l) (sym is)
      (among_right (OfShard k e) left (OfShard k e ∷ right) Here) in
      let events_is : events merged ≡ events left ++ events (OfShard k e ∷ right) = ap events is
      ∙ map-append event_of left (OfShard k e ∷ right) in
      let run_so_far : Run p limit (events left) s =
      front_is_run p limit (events left) (events (OfShard k e ∷ right)) (state_after (events merged))
      (subst (λ l. Run p limit l (state_after (events merged))) events_is run) in
      let quiet : (b : BookEntry) → Among b (book_in left) → is_access b.event ≡ false =
      λ b m. silent b (subst (λ l. Among b l) (sym (parts left (OfShard k e ∷ right) is)) (among_left b (book_in left) (book_in right) m))
      in
      let current : current_index (frame_at s.frames i) ≡ e.node.index =
      current_is p limit left i e.node.index run_so_far quiet
      (open_at book left right k e (subst InOrder is merge.order) (parts left (OfShard k e ∷ right) is)
      (within k e there)) in
      let made : NodeAccess = record { node = at i (current_index (frame_at s.frames i)); access = e.access } in
      let same : made ≡ node_access_of e = ap (λ n. record { node = at i n; access = e.access }) current in
      ap (λ (t : State). t.accesses) (events_push left (OfShard k e)) ∙ ap₂ (λ l x. l ++ x ∷ []) h same
      ∙ sym (merged_accesses-append left (OfShard k e ∷ []))

  all_steps : (right left : List LogEntry) → merged ≡ left ++ right → Holds left → Holds merged
  all_steps [] left is h = subst Holds (sym (is ∙ append-nil left)) h
  all_steps (y ∷ right) left is h =
      all_steps right (left ++ y ∷ []) (is ∙ sym (append_assoc left (y ∷ []) right)) (step left right y is h)

  -- the run has the accesses of the entries, each by the instance of its entry
  pub accesses_are_entries : (state_after (events merged)).accesses ≡ merged_accesses merged
  accesses_are_entries = all_steps merged [] refl refl

-- ---- the accesses to one cell

-- they are the entries of the shard of the cell
pub cell_entries : (c width : ℕ) (xs : List LogEntry) → ((k : ℕ) (e : ShardEntry) → Among (OfShard k e) xs → e.access.cell.0 % width ≡ k)
    → accesses_to c (merged_accesses xs) ≡ accesses_to c (node_accesses (shard_in (c % width) xs))
cell_entries c width [] cells = refl
cell_entries c width (OfBook b ∷ xs) cells = cell_entries c width xs (λ k e m. cells k e (Later (OfBook b) m))
cell_entries c width (OfShard k e ∷ xs) cells =
    let rest = cell_entries c width xs (λ j f m. cells j f (Later (OfShard k e) m)) in
    let own : e.access.cell.0 % width ≡ k = cells k e Here in
    elim (cases_eq k (c % width)) [
      | inl same ↦ (
          let t : (k == c % width) ≡ true = eq-eqb k (c % width) same in
          ap (λ l. if e.access.cell.0 == c then noted_access e.node e.access.kind ∷ l else l) rest
          ∙ ap (λ b. accesses_to c (node_accesses (if_shard b e (shard_in (c % width) xs)))) (sym t))
      | inr other ↦ (
          let t : (k == c % width) ≡ false = ne_eqb k (c % width) other in
          let apart : (e.access.cell.0 == c) ≡ false = ne_eqb e.access.cell.0 c (λ q. other (sym own ∙ ap (λ m. m % width) q)) in
          ap (λ b. if b then noted_access e.node e.access.kind ∷ accesses_to c (merged_accesses xs) else accesses_to c
          (merged_accesses xs)) apart ∙ rest
          ∙ ap (λ b. accesses_to c (node_accesses (if_shard b e (shard_in (c % width) xs)))) (sym t))
    ]

-- what is written to a cell is what the entries of its shard write
pub cell_writes : (c width : ℕ) (xs : List LogEntry) → ((k : ℕ) (e : ShardEntry) → Among (OfShard k e) xs → e.access.cell.0 % width ≡ k)
    → written c (accesses_of (merged_accesses xs)) ≡ written c (map (λ e. e.access) (shard_in (c % width) xs))
cell_writes c width [] cells = refl
cell_writes c width (OfBook b ∷ xs) cells = cell_writes c width xs (λ k e m. cells k e (Later (OfBook b) m))
cell_writes c width (OfShard k e ∷ xs) cells =
    let rest = cell_writes c width xs (λ j f m. cells j f (Later (OfShard k e) m)) in
    let own : e.access.cell.0 % width ≡ k = cells k e Here in
    elim (cases_eq k (c % width)) [
      | inl same ↦ (
          let t : (k == c % width) ≡ true = eq-eqb k (c % width) same in
          ap (λ l. wrote c e.access ++ l) rest
          ∙ ap (λ b. written c (map (λ (x : ShardEntry). x.access) (if_shard b e (shard_in (c % width) xs)))) (sym t))
      | inr other ↦ (
          let t : (k == c % width) ≡ false = ne_eqb k (c % width) other in
          let none : wrote c e.access ≡ [] = other_cell_writes_none c e.access (λ q. other (sym own ∙ ap (λ m. m % width) q)) in
          ap (λ l. l ++ written c (accesses_of (merged_accesses xs))) none ∙ rest
          ∙ ap (λ b. written c (map (λ (x : ShardEntry). x.access) (if_shard b e (shard_in (c % width) xs)))) (sym t))
    ]
