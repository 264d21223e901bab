-- The logs of a closed run fit together.
use Rattle.std.proofs.Common.{ℕ, ◌≡◌, List, [], ◌∷◌, inl, subst, inr, sym, ap, length, ◌∙◌, arith, ◌+◌, ◌%◌}
use Rattle.std.proofs.lemmas.List.{length-map}
use Rattle.pipe_model.specs.Pipelines.Behaviour.{Staged, Ended, Accessed}
use Rattle.pipe_model.specs.Pipelines.Pipeline.{Pipeline}
use Rattle.pipe_model.specs.Races.DeterminacyRaces.{Among, Here, Later}
use Rattle.pipe_model.specs.Runs.State.{State, frame_at}
use Rattle.pipe_model.specs.Runs.TicketLogs.{TimedAction, end_action, end_actions, ClosedLogs, laid_traces, start_tickets}
use Rattle.pipe_model.specs.declared.ticket.BookEntry.{BookEntry}
use Rattle.pipe_model.specs.declared.ticket.ShardEntry.{ShardEntry}
use Rattle.pipe_model.specs.declared.event.Event.TheVariants.{Advance, Finish}
use Rattle.run_laws.proofs.LogMerge.FittingLogs.{IsActionOf, StagedIn, EndedIn, AccessedIn, IsTrace}
use Rattle.run_laws.proofs.LogMerge.InstanceCounts.{control_counts, one_open, start_tickets_counted, end_tickets_counted}
use Rattle.run_laws.proofs.LogMerge.InstanceTickets.{ticket_within}
use Rattle.run_laws.proofs.LogMerge.InstanceTraces.{laid_end, end_actions-tickets, laid_has, iteration_rises, laid_only}
use Rattle.run_laws.proofs.LogMerge.MergedLogs.{fitting_merge_is_run}
use Rattle.pipe_model.proofs.Members.{only_one, none_among, among_either, among_left, among_right}
use Rattle.run_laws.specs.LogLaws.{MergedLogsAreARun}
use Rattle.run_laws.proofs.LogMerge.Entries.{timed, book_entry, shard_entry}
use Rattle.run_laws.proofs.LogMerge.MergedActions.{action_of_event, timed_here}

-- the end of an entry of the book is an end of the iteration
end_in_book : (i : ℕ) (bs : List BookEntry) (b : BookEntry) (x : TimedAction) → Among b bs
    → Among x (end_action i b.event b.ticket) → Among x (end_actions i bs)
end_in_book i [] b x m n = absurd (none_among b m)
end_in_book i (d ∷ bs) b x m n = elim (among_either b (d ∷ []) bs m) [
  | inl a ↦ among_left x (end_action i d.event d.ticket) (end_actions i bs)
      (subst (λ (y : BookEntry). Among x (end_action i y.event y.ticket)) (only_one b d a) n)
  | inr a ↦ among_right x (end_action i d.event d.ticket) (end_actions i bs) (end_in_book i bs b x a n)
]

-- an end of an iteration is an action of the logs
end_is_action : (book : List BookEntry) (shards : ℕ → List ShardEntry) (i : ℕ) (bs : List BookEntry) (x : TimedAction)
    → ((b : BookEntry) → Among b bs → Among b book) → Among x (end_actions i bs) → IsActionOf book shards i x
end_is_action book shards i [] x sub m = absurd (none_among x m)
end_is_action book shards i (b ∷ bs) x sub m =
    elim (among_either x (end_action i b.event b.ticket) (end_actions i bs) m) [
      | inl a ↦ action_of_event book shards i b.event b.ticket x (sub b Here) a
      | inr a ↦ end_is_action book shards i bs x (λ d n. sub d (Later b n)) a
    ]

-- all actions of the logs are in the laid traces
all_laid : (p : Pipeline) (limit width : ℕ) (book : List BookEntry) (shards : ℕ → List ShardEntry)
    (made : ℕ → ℕ → List TimedAction) (c : State)
    → ClosedLogs p limit width book shards made c → (i : ℕ) (x : TimedAction) → IsActionOf book shards i x
    → Among x (laid_traces (made i) 0 (end_actions i book))
all_laid p limit width book shards made c h i x (StagedIn {t} {k} {n} m) =
    laid_end (made i) 0 (end_actions i book) _
    (end_in_book i book (book_entry t (Advance i k n)) _ m
    (timed_here i t (Staged k n)))
all_laid p limit width book shards made c h i x (EndedIn {t} {e} m) =
    laid_end (made i) 0 (end_actions i book) _
    (end_in_book i book (book_entry t (Finish i e)) _ m
    (timed_here i t (Ended e)))
all_laid p limit width book shards made c h i x (AccessedIn {t} {index} {a} k m) =
    let e = shard_entry t i index a in
    let inside = h.in_trace k e m in
    let begun = h.order.after_start i index (timed t (Accessed a)) inside in
    let within = ticket_within (start_tickets i book) index begun.0 begun.1 in
    let counts = control_counts h.control i in
    let c1 = counts.starts in
    let c2 = counts.ends in
    let one = one_open (frame_at c.frames i) in
    let a1 = start_tickets_counted i book in
    let a2 = end_tickets_counted i book in
    let long = sym (length-map (end_actions i book) (λ (y : TimedAction). y.ticket))
    ∙ ap (λ (l : List ℕ). length l) (end_actions-tickets i book) in
    laid_has (made i) 0 (end_actions i book) index _ (omega (arith, within, c1, c2, one, a1, a2, long)) (
    let z : 0 + index ≡ index = omega arith in
    rw z inside)

-- the laid traces of the instances are the trace of the iteration
closed_trace : (p : Pipeline) (limit width : ℕ) (book : List BookEntry) (shards : ℕ → List ShardEntry)
    (made : ℕ → ℕ → List TimedAction) (c : State)
    → ClosedLogs p limit width book shards made c → (i : ℕ)
    → IsTrace p book shards i (laid_traces (made i) 0 (end_actions i book))
closed_trace p limit width book shards made c h i = record {
  rises = iteration_rises book made h.order i;
  performs = h.program i;
  only = λ x m. elim (laid_only (made i) 0 (end_actions i book) x m) [
    | inl a ↦ (
        let t = h.of_trace i a.0 x a.1 in
        let y = timed x.ticket (Accessed t.0) in
        let same : y ≡ x = ap (λ q. (timed x.ticket q)) (sym t.1) in
        subst (λ z. IsActionOf book shards i z) same (AccessedIn (t.0.cell.0 % width) t.2))
    | inr a ↦ end_is_action book shards i book x (λ b m. m) a
  ];
  all = all_laid p limit width book shards made c h i;
}

-- the law of merged logs
pub merged_logs_are_a_run : MergedLogsAreARun
merged_logs_are_a_run p limit width book shards made c merged h merge =
    fitting_merge_is_run p limit width book shards c merged (record {
      control = h.control;
      within = λ k e m. (
          let inside = h.in_trace k e m in
          let begun = h.order.after_start e.node.iteration e.node.index
          (timed e.ticket (Accessed e.access)) inside in
          record {
            start = begun.0;
            started = begun.1;
            after = begun.2;
            before = λ t q. h.order.before_end e.node.iteration e.node.index
                (timed e.ticket (Accessed e.access)) t inside q;
          });
      cells = h.cells;
      stop_last = h.stop_last;
      traces = λ i. (laid_traces (made i) 0 (end_actions i book), closed_trace p limit width book shards made c h i);
      replies = h.replies;
    }) merge
