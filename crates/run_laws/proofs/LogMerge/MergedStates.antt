-- Each access of a merge is made while its iteration runs.
use Rattle.std.proofs.Common.{ℕ, ◌<◌, ◌≤◌, refl, Option, ◌≡◌, None, arith, Some, length, List, true, false, [], ◌∷◌, ◌++◌, sym, ◌∙◌}
use Rattle.std.proofs.Common.{ap, subst, map, inl, inr}
use Rattle.std.proofs.lemmas.Bool.{false_from_ne_true, false≢true, eq-eqb, cases_lt}
use Rattle.pipe_model.specs.Runs.Allowed.{IsRunning}
use Rattle.pipe_model.specs.Runs.ControlRun.{ControlRun, EmptyControlRun, ControlRunThen, is_access}
use Rattle.run_laws.proofs.LogMerge.EventParts.{control_events}
use Rattle.pipe_model.specs.Pipelines.Pipeline.{Pipeline}
use Rattle.pipe_model.specs.Races.DeterminacyRaces.{Among, Here}
use Rattle.pipe_model.specs.declared.status.Status.{Status}
use Rattle.pipe_model.specs.declared.status.Status.TheVariants.{Running, Pending, Completed}
use Rattle.pipe_model.specs.Runs.State.{State, frame_at, Frame, next_state}
use Rattle.pipe_model.specs.Runs.TicketLogs.{LogEntry, IsMerge, book_in, OfShard, InOrder, shard_in, if_shard, OfBook}
use Rattle.pipe_model.specs.declared.ticket.BookEntry.{BookEntry}
use Rattle.pipe_model.specs.declared.ticket.ShardEntry.{ShardEntry}
use Rattle.pipe_model.specs.Runs.TicketLogs.{start_tickets, end_tickets, ticket_at}
use Rattle.pipe_model.specs.declared.access.Access.{Access as Cell_access}
use Rattle.pipe_model.specs.declared.event.Event.{Event}
use Rattle.pipe_model.specs.declared.event.Event.TheVariants.{Stop, Begin, Access, Advance, Enter, Finish}
use Rattle.run_laws.proofs.LogMerge.FittingLogs.{FitTogether}
use Rattle.run_laws.proofs.LogMerge.InstanceCounts.{started_in, ended_in, ended_by_status, control_counts, start_tickets_counted}
use Rattle.run_laws.proofs.LogMerge.InstanceCounts.{end_tickets_counted}
use Rattle.run_laws.proofs.LogMerge.InstanceTickets.{HasTicket, start_tickets-append, end_tickets-append, ticket_right, start_has}
use Rattle.run_laws.proofs.LogMerge.InstanceTickets.{ticket_left, end_has}
use Rattle.run_laws.proofs.LogMerge.MergeSplits.{IsSplit, book_in-append, control_has_no_access, among_events, control_events_of_merge}
use Rattle.run_laws.proofs.LogMerge.MergeSplits.{shard_in-append, order_before, among_book, order_after, event_entry}
use Rattle.pipe_model.proofs.Members.{among_right, among_left}
use Rattle.run_laws.proofs.LogMerge.Entries.{book_entry}

-- if more instances have started than have ended, the one that started last runs
running_frame : (c : State) (i n : ℕ) → n < started_in (frame_at c.frames i) → ended_in (frame_at c.frames i) ≤ n
    → IsRunning c i
running_frame c i n more less = go (frame_at c.frames i) refl more less
  where
    go : (o : Option Frame) → frame_at c.frames i ≡ o → n < started_in o → ended_in o ≤ n → IsRunning c i
    go None e m l = absurd (omega (arith, m))
    go (Some f) e m l = record { frame = f; is = e; runs = by_now f.status refl l }
      where
        by_now : (w : Status) → f.status ≡ w → ended_by_status w (length f.nodes) ≤ n → f.status ≡ Running
        by_now Running q k = q
        by_now (Pending kind x) q k = absurd (omega (arith, m, k))
        by_now (Completed x) q k = absurd (omega (arith, m, k))

-- a book that is stopped has the event `Stop`
stopped_by : {limit : ℕ} {es : List Event} {c : State} → ControlRun limit es c → c.stopped ≡ true → Among Stop es
stopped_by EmptyControlRun e = absurd (cc)
stopped_by {limit} (ControlRunThen {events = es} {c = d} r x n g h) e = by_event x n e
  where
    by_event : (y : Event) → is_access y ≡ false → (next_state d y).stopped ≡ true → Among Stop (es ++ y ∷ [])
    by_event (Begin i) m q = absurd (false≢true (sym g ∙ q))
    by_event (Access i a) m q = absurd (false≢true (sym m))
    by_event (Advance i k o) m q = absurd (false≢true (sym g ∙ q))
    by_event (Enter i) m q = absurd (false≢true (sym g ∙ q))
    by_event (Finish i f) m q = absurd (false≢true (sym g ∙ q))
    by_event Stop m q = among_right Stop es (Stop ∷ []) Here

-- at each access of the merge its iteration runs, and nothing is stopped
pub merged_running : (p : Pipeline) (limit width : ℕ) (book : List BookEntry)
    (shards : ℕ → List ShardEntry) (c : State) (merged : List LogEntry)
    → FitTogether p limit width book shards c → IsMerge book shards merged
    → (front : List Event) (i : ℕ) (a : Cell_access) → IsSplit merged front i a → (d : State)
    → ControlRun limit (control_events front) d → (d.stopped ≡ false) × IsRunning d i
merged_running p limit width book shards c merged fit merge front i a s d control =
    let before = book_in s.left in
    let later = book_in s.right in
    let parts : book ≡ before ++ later =
    sym merge.book_is ∙ ap book_in s.is ∙ book_in-append s.left (OfShard s.shard s.entry ∷ s.right) in
    let silent : (b : BookEntry) → Among b book → is_access b.event ≡ false =
    λ b m. control_has_no_access fit.control b.event (among_events b book m) in
    let silent' : (b : BookEntry) → Among b before → is_access b.event ≡ false =
    λ b m. silent b (subst (λ l. Among b l) (sym parts) (among_left b before later m)) in
    let events : control_events front ≡ map (λ (b : BookEntry). b.event) before =
    ap control_events s.events ∙ control_events_of_merge s.left silent' in
    let control' : ControlRun limit (map (λ (b : BookEntry). b.event) before) d =
    subst (λ l. ControlRun limit l d) events control in
    let order : InOrder (s.left ++ OfShard s.shard s.entry ∷ s.right) = subst InOrder s.is merge.order in
    let there : Among s.entry (shards s.shard) =
    subst (λ l. Among s.entry l) (merge.shard_is s.shard)
    (rw (s.is, shard_in-append s.shard s.left (OfShard s.shard s.entry ∷ s.right))
    (among_right s.entry (shard_in s.shard s.left) _
    (subst (λ b. Among s.entry (if_shard b s.entry (shard_in s.shard s.right)))
    (sym (eq-eqb s.shard s.shard refl)) Here))) in
    let within = fit.within s.shard s.entry there in
    let n = s.entry.node.index in
    let k = s.entry.node.iteration in
    let old : (t : ℕ) → HasTicket before t → t ≤ s.entry.ticket = λ t h. (
    let is = h.is in
    elim (order_before s.left (OfShard s.shard s.entry) s.right order (OfBook h.entry)
    (among_book s.left h.entry h.made)) [
      | inl less ↦ omega (arith, is, less)
      | inr same ↦ (let q = same.0 in omega (arith, is, q))
    ]) in
    let new : (t : ℕ) → HasTicket later t → s.entry.ticket < t = λ t h. (
    let is = h.is in
    elim (order_after s.left (OfShard s.shard s.entry) s.right order (OfBook h.entry)
    (among_book s.right h.entry h.made)) [
      | inl less ↦ omega (arith, is, less)
      | inr same ↦ (let q = same.1 in absurd (omega (arith, q)))
    ]) in
    let starts : start_tickets k book ≡ start_tickets k before ++ start_tickets k later =
    ap (start_tickets k) parts ∙ start_tickets-append k before later in
    let ends : end_tickets k book ≡ end_tickets k before ++ end_tickets k later =
    ap (end_tickets k) parts ∙ end_tickets-append k before later in
    let counted = control_counts control' k in
    let begun : n < length (start_tickets k before) =
    elim (ticket_right (start_tickets k before) (start_tickets k later) n within.start
    (subst (λ l. ticket_at l n ≡ Some within.start) starts within.started)) [
      | inl less ↦ less
      | inr m ↦ (
          let late = new within.start (start_has k later within.start m) in
          let early = within.after in
          absurd (omega (arith, late, early)))
    ] in
    let open' : length (end_tickets k before) ≤ n = elim (cases_lt n (length (end_tickets k before))) [
      | inl less ↦ (
          let h = ticket_left (end_tickets k before) (end_tickets k later) n less in
          let early = old h.0 (end_has k before h.0 h.2) in
          let late = within.before h.0 (rw ends h.1) in
          absurd (omega (arith, early, late)))
      | inr ok ↦ ok
    ] in
    let a1 = start_tickets_counted k before in
    let a2 = end_tickets_counted k before in
    let c1 = counted.starts in
    let c2 = counted.ends in
    let runs : IsRunning d k = running_frame d k n (omega (arith, begun, a1, c1)) (omega (arith, open', a2, c2)) in (
      false_from_ne_true d.stopped (λ stop.
          let e = event_entry before Stop (stopped_by control' stop) in
          let early = old e.0.ticket (record { entry = e.0; made = e.1; is = refl }) in
          let stop_entry = book_entry e.0.ticket Stop in
          let same : e.0 ≡ stop_entry = ap (λ y. (book_entry e.0.ticket y)) e.2 in
          let late = fit.stop_last e.0.ticket (subst (λ (b : BookEntry). Among b book) same
          (subst (λ l. Among e.0 l) (sym parts) (among_left e.0 before later e.1))) s.shard s.entry there in
          omega (arith, early, late)),
      subst (λ j. IsRunning d j) (sym s.iteration) runs,
    )
