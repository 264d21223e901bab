-- The merge of the logs of a closed hall is a run.
use Rattle.std.proofs.Common.{◌≡◌, ◌∙◌, refl, sym, ap, subst, ℕ, ◌%◌, List, [], ◌∷◌, ◌++◌, length, map, true, false}
use Rattle.std.proofs.lemmas.Bool.{false≢true}
use Rattle.std.proofs.lemmas.List.{get_or_default}
use Rattle.pipe_model.specs.declared.access.Access.{Access as Cell_access}
use Rattle.pipe_model.specs.declared.event.Event.{Event}
use Rattle.pipe_model.specs.declared.event.Event.TheVariants.{Begin, Access, Advance, Enter, Finish, Stop}
use Rattle.pipe_model.specs.declared.status.Status.{Status}
use Rattle.pipe_model.specs.declared.status.Status.TheVariants.{Running}
use Rattle.pipe_model.specs.declared.ticket.BookEntry.{BookEntry}
use Rattle.pipe_model.specs.declared.ticket.ShardEntry.{ShardEntry}
use Rattle.pipe_model.specs.Pipelines.Behaviour.{Accessed}
use Rattle.pipe_model.specs.Pipelines.Pipeline.{Pipeline}
use Rattle.pipe_model.specs.Pipelines.Store.{written}
use Rattle.pipe_model.specs.Races.CellRaces.{accesses_to}
use Rattle.pipe_model.specs.Races.DeterminacyRaces.{Among}
use Rattle.pipe_model.specs.Runs.ControlParts.{HaveSameControl, without_accesses}
use Rattle.pipe_model.specs.Runs.ControlRun.{is_access}
use Rattle.pipe_model.specs.Runs.Run.{Run, EmptyRun, RunThen}
use Rattle.pipe_model.specs.Runs.RunLogs.{accesses_after, state_after}
use Rattle.pipe_model.specs.Runs.State.{State, is_completed, accesses_of, initial_state, next_state}
use Rattle.pipe_model.specs.Runs.TicketLogs.{ClosedLogs, IsMerge, LogEntry, OfShard, event_of}
use Rattle.frame_book.specs.BookStates.{BookState, events_of, made, state_of}
use Rattle.schedule_laws.proofs.ControlOutlines.{control_goes_by_outlines, control_skips_accesses, runs_have_control_runs}
use Rattle.run_laws.proofs.LogMerge.ClosedLogs.{merged_logs_are_a_run}
use Rattle.run_laws.proofs.LogMerge.Entries.{timed}
use Rattle.run_laws.proofs.LogMerge.FittingLogs.{IsWithinInstance}
use Rattle.run_laws.proofs.LogMerge.MergeSplits.{among_events, among_shard, control_has_no_access}
use Rattle.run_laws.proofs.RunStates.FrontAndBack.{run_state_is}
use Rattle.run_laws.specs.LogLaws.{MakesRun}
use Rattle.run_record.specs.MergedLogs.{ShardRises, shard_at}
use Rattle.hall_laws.specs.HallRuns.{ClosedHallsAreRuns, EndsWithStop, IsRunOfHall, LogsCanBeMerged, FinishedBooksHaveNoTokenOut}
use Rattle.hall_laws.specs.HallRuns.{node_accesses, pipeline_after}
use Rattle.hall_laws.proofs.HallLogs.{closed_logs}
use Rattle.hall_laws.proofs.OwnAccesses.{accesses_are_entries, book_events, cell_entries, cell_writes, merged_accesses}

-- a run that was stopped ends with `Stop`
pub stopped_ends : {p : Pipeline} {limit : ℕ} {events : List Event} {s : State} → Run p limit events s → s.stopped ≡ true
    → EndsWithStop events
stopped_ends EmptyRun e = absurd (false≢true e)
stopped_ends {p} {limit} (RunThen {events = es} {s = t} r x h) e = by_event x e
  where
    by_event : (y : Event) → (next_state t y).stopped ≡ true → EndsWithStop (es ++ y ∷ [])
    by_event (Begin i) q = absurd (false≢true (sym h.going ∙ q))
    by_event (Access i a) q = absurd (false≢true (sym h.going ∙ q))
    by_event (Advance i k n) q = absurd (false≢true (sym h.going ∙ q))
    by_event (Enter i) q = absurd (false≢true (sym h.going ∙ q))
    by_event (Finish i f) q = absurd (false≢true (sym h.going ∙ q))
    by_event Stop q = (es, refl)

-- the merge of the logs of a closed run
run_of_logs : (v : BookState) (before : List Cell_access) (shards : List (List ShardEntry)) (merged : List LogEntry)
    → ClosedLogs (pipeline_after v before) v.limit (length shards) v.log (shard_at shards) (made v.traces) (state_of v)
    → IsMerge v.log (shard_at shards) merged → IsRunOfHall v before shards (map event_of merged)
run_of_logs v before shards merged closed merge = record {
  run = run;
  book = control;
  same = same;
  accesses = λ c. ap (accesses_to c) own ∙ cell_entries c (length shards) merged cells
      ∙ ap (λ l. accesses_to c (node_accesses l)) (merge.shard_is (c % length shards));
  writes = λ c. ap (λ l. written c (accesses_of l)) own ∙ cell_writes c (length shards) merged cells
      ∙ ap (λ l. written c (map (λ (e : ShardEntry). e.access) l)) (merge.shard_is (c % length shards));
  finished = (control_goes_by_outlines v.limit (state_after events) (state_of v) same).finished.1;
  stopped = λ e. stopped_ends run (same.stopped ∙ e);
}
  where
    events : List Event
    events = map event_of merged

    p : Pipeline
    p = pipeline_after v before

    makes : MakesRun p v.limit events (state_of v)
    makes = merged_logs_are_a_run p v.limit (length shards) v.log (shard_at shards) (made v.traces) (state_of v) merged closed merge

    run : Run p v.limit events (state_after events)
    run = subst (λ s. Run p v.limit events s) (run_state_is makes.run) makes.run

    silent : (b : BookEntry) → Among b v.log → is_access b.event ≡ false
    silent b m = control_has_no_access closed.control b.event (among_events b v.log m)

    control : without_accesses events ≡ events_of v.log
    control = book_events merged (λ b m. silent b (subst (λ l. Among b l) merge.book_is m)) ∙ ap events_of merge.book_is

    same : HaveSameControl (state_after events) (state_of v)
    same = subst (λ c. HaveSameControl (state_after events) c) (control_skips_accesses initial_state events ∙ ap state_after control)
        (runs_have_control_runs p v.limit events (state_after events) run).same

    in_shard : (k : ℕ) (e : ShardEntry) → Among (OfShard k e) merged → Among e (shard_at shards k)
    in_shard k e m = subst (λ l. Among e l) (merge.shard_is k) (among_shard merged k e m)

    cells : (k : ℕ) (e : ShardEntry) → Among (OfShard k e) merged → e.access.cell.0 % length shards ≡ k
    cells k e m = closed.cells k e (in_shard k e m)

    within : (k : ℕ) (e : ShardEntry) → Among (OfShard k e) merged → IsWithinInstance v.log e
    within k e m =
        let inside = closed.in_trace k e (in_shard k e m) in
        let begun = closed.order.after_start e.node.iteration e.node.index (timed e.ticket (Accessed e.access)) inside in
        record {
          start = begun.0;
          started = begun.1;
          after = begun.2;
          before = λ t q. closed.order.before_end e.node.iteration e.node.index (timed e.ticket (Accessed e.access)) t inside q;
        }

    own : accesses_after events ≡ merged_accesses merged
    own = accesses_are_entries p v.limit v.log (shard_at shards) merged merge silent within run

pub closed_halls_are_runs : ClosedHallsAreRuns
closed_halls_are_runs v before shards events h none m =
    subst (λ es. IsRunOfHall v before shards es) (sym m.are)
    (run_of_logs v before shards m.entries (closed_logs v before shards h none) m.merge)

pub logs_can_be_merged : LogsCanBeMerged
logs_can_be_merged v before shards h = (
  h.tickets.in_book,
  λ k d w. subst (λ (l : List ShardEntry). ShardRises l) (get_or_default shards k [] d w) (h.tickets.in_shards k),
)

-- an iteration that has ended does not run
not_running : (w : Status) → is_completed w ≡ true → w ≡ Running → ⊥
not_running w ended runs = false≢true (ap is_completed (sym runs) ∙ ended)

pub finished_books_have_no_token_out : FinishedBooksHaveNoTokenOut
finished_books_have_no_token_out v book finished i out =
    let r = book.out finished.going i out in
    not_running r.frame.status (finished.over i r.frame r.is) r.runs
