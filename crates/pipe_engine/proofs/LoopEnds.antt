-- From the end of a hall to the end of its loop.
use Rattle.std.proofs.Common.{◌≡◌, ◌∙◌, ap, sym, subst, ℕ, ℤ, ◌<◌, ◌≤◌, ◌+◌}
use Rattle.std.proofs.Common.{List, ◌++◌, map, All, false, Option, Some}
use Rattle.std.proofs.lemmas.Bool.{false≢true}
use Rattle.cell_store.specs.ShardState.{IsStateAfter, ShardState}
use Rattle.std.specs.Prelude.{is_some, length}
use Rattle.frame_book.specs.BookStates.{BookState, state_of}
use Rattle.hall_headline.specs.EndedPrograms.{AreGathered, AreRacesOfLog, IsProgramEnd}
use Rattle.hall_headline.specs.HallEnds.{IsHallEnd, IsShardAfterRun, logs_of}
use Rattle.hall_shards.specs.FoundRaces.{found_by}
use Rattle.hall_headline.proofs.EndedLogs.{hall_ends_have_cells_of_runs}
use Rattle.hall_headline.proofs.EndedPrograms.{hall_ends_are_merged, hall_ends_report_their_races}
use Rattle.hall_headline.proofs.HallEnds.{logs_of_hall_ends_can_be_merged}
use Rattle.hall_laws.specs.ClosedHalls.{IsSoundBook}
use Rattle.hall_laws.specs.HallPrograms.{whole_in}
use Rattle.hall_laws.proofs.HallPrograms.{merged_halls_are_program_runs}
use Rattle.hall_laws.proofs.HallRuns.{finished_books_have_no_token_out}
use Rattle.pipe_engine.specs.LoopEnds.{IsLoopEnd}
use Rattle.pipe_engine.specs.FinalCells.{ArePartsOf, HaveCellsAfter}
use Rattle.program_hall.specs.OpenedHalls.{IsOpenedAfterInit}
use Rattle.hall_calls.specs.Closing.{EndedHall, StopIsLast, shard_in}
use Rattle.hall_table.specs.SeatViews.{HallConstants, constants_of, start_of}
use Rattle.hall_shards.specs.ShardValues.{ShardValue}
use Rattle.hall_table.specs.WorkerSeats.{HallState}
use Rattle.pipe_model.specs.declared.access.Access.{Access}
use Rattle.pipe_model.specs.declared.bounds.TheConstants.{MOST_CELLS}
use Rattle.pipe_model.specs.declared.event.Event.{Event}
use Rattle.pipe_model.specs.declared.event.RunLog.{RunLog}
use Rattle.pipe_model.specs.declared.report.Report.{Report}
use Rattle.pipe_model.specs.Language.Programs.{store_of}
use Rattle.pipe_model.specs.Language.ProgramsOfTrees.{pipeline_after_init, whole_of}
use Rattle.pipe_model.specs.Language.SyntaxTree.{SyntaxTree, tree_of}
use Rattle.pipe_model.specs.Pipelines.WholePrograms.{WholeProgram, init_accesses, init_trap, loop_after_init}
use Rattle.pipe_model.specs.Runs.Run.{IsFinished, Run}
use Rattle.pipe_model.specs.Runs.RunLogs.{accesses_after, state_after}
use Rattle.pipe_model.specs.Runs.State.{State, accesses_of}
use Rattle.pipe_model.specs.Runs.Throttling.{IsThrottled}
use Rattle.pipe_model.specs.Runs.WholeProgramRuns.{IsFinishedProgramRun, NoLoop, OfLoop, ProgramRun}
use Rattle.pipe_model.specs.declared.ticket.BookEntry.{BookEntry}
use Rattle.pipe_model.specs.declared.trap.TrapAt.{TrapAt}
use Rattle.pipe_model.specs.Language.CheckingRules.{BreaksNoRule}
use Rattle.program_ends.proofs.RunColumns.{HasSmallColumns, columns_are_small}
use Rattle.run_record.proofs.MergedColumns.{columns_of_merges}
use Rattle.run_record.proofs.SortedEntries.{sorted_events_are_merged}
use Rattle.run_record.specs.SortedEntries.{merged_events}
use Rattle.serial_elision.specs.ColumnTraps.{least_trap}
use Rattle.serial_elision.specs.PartRuns.{Serves}
use Rattle.run_record.specs.MergedLogs.{AreMerged, BookRises, ShardRises}
use Rattle.run_record.specs.OwnColumns.{made_columns}

-- a hall that `close` has ended, with a finished book
pub record IsFinishedEnd (before : List Access) (b : BookState) (shards : List ShardValue) : Type 0 where
  pub end : IsHallEnd before b shards
  pub finished : IsFinished (state_of b)

pub finished_end : (before : List Access) (seen : List Event) (b : BookState) (shards : List ShardValue) → length shards ≡ 16
    → EndedHall (start_of b before) seen b (shard_in shards) → StopIsLast b (shard_in shards) → IsSoundBook b → IsFinished (state_of b)
    → IsFinishedEnd before b shards
finished_end before seen b shards count ended stop sound finished = record {
  end = record { count = count; seen = seen; ended = ended; stop = stop; book = sound };
  finished = finished;
}

-- the logs can be merged
pub can_be_merged : (before : List Access) (b : BookState) (shards : List ShardValue) → IsFinishedEnd before b shards
    → BookRises b.log × All ShardRises (logs_of shards)
can_be_merged before b shards h = logs_of_hall_ends_can_be_merged before b shards h.end

-- a run of a program whose `init` did not trap is one of its loop
of_loop : (w : WholeProgram) (limit : ℕ) (events : List Event) (s : State) → is_some (init_trap w) ≡ false → ProgramRun w limit events s
    → Run (loop_after_init w) limit events s
of_loop w limit events s none (NoLoop trapped) = absurd (false≢true (sym none ∙ trapped))
of_loop w limit events s none (OfLoop other run) = run

-- the hall is of the book's program
record IsOfBook (tree : SyntaxTree) (input : List ℤ) (limit : ℕ) (before : List Access) (b : BookState) : Type 0 where
  tree_is : tree_of b.program ≡ tree
  input_is : b.input ≡ input
  limit_is : b.limit ≡ limit
  no_trap : is_some (init_trap (whole_of tree input)) ≡ false
  before_is : before ≡ init_accesses (whole_of tree input)

same_constants : {a b : HallConstants} (o : Option HallConstants) → o ≡ Some a → o ≡ Some b → a ≡ b
same_constants o p q = cc

of_book : (tree : SyntaxTree) (input : List ℤ) (limit : ℕ) (hall : HallState) (b : BookState) → IsOpenedAfterInit tree input limit hall
    → hall.hall.constants ≡ Some (constants_of b) → IsOfBook tree input limit hall.before b
of_book tree input limit hall b h closed =
    let same : constants_of b ≡ h.opened.constants = same_constants hall.hall.constants closed h.opened.are in
    record {
      tree_is = ap (λ (c : HallConstants). tree_of c.program) same ∙ h.opened.tree_is;
      input_is = ap (λ (c : HallConstants). c.input) same ∙ h.opened.input_is;
      limit_is = ap (λ (c : HallConstants). c.limit) same ∙ h.opened.limit_is;
      no_trap = h.no_trap;
      before_is = h.opened.before_is;
    }

-- the cells of a program are so after more accesses
pub serves_still : (tree : SyntaxTree) (old new : ShardState) → new.shard ≡ old.shard → Serves tree old → Serves tree new
serves_still tree old new same h = record {
  whole = record { shards = ap (λ s. s.shards) same ∙ h.whole.shards; number = ap (λ s. s.number) same ∙ h.whole.number };
  count = ap (λ s. s.cells) same ∙ h.count;
  bounded = subst (λ s. s.cells ≤ MOST_CELLS + 2) (sym same) h.bounded;
}

-- the same of the hall that was opened after `init`, with the log into which its logs were merged
module _ (tree : SyntaxTree) (input : List ℤ) (limit : ℕ) (hall : HallState) (b : BookState) (shards : List ShardValue) (log : RunLog)
    (opened : IsOpenedAfterInit tree input limit hall) (constants : hall.hall.constants ≡ Some (constants_of b))
    (h : IsFinishedEnd hall.before b shards) (events : AreMerged b.log (logs_of shards) log.events)
    (columns : log.columns ≡ made_columns log.events) where
  of : IsOfBook tree input limit hall.before b
  of = of_book tree input limit hall b opened constants

  whole_is : whole_in b ≡ whole_of tree input
  whole_is = ap (λ t. whole_of t b.input) of.tree_is ∙ ap (whole_of tree) of.input_is

  program_end : IsProgramEnd hall.before b shards log
  program_end = record {
    opened = ap (λ w. is_some (init_trap w)) whole_is ∙ of.no_trap;
    start = of.before_is ∙ sym (ap init_accesses whole_is);
    end = h.end;
    events = events;
    columns = columns;
  }

  -- what the shards have found can be gathered
  pub races : AreRacesOfLog log (found_by shards)
  races = hall_ends_report_their_races hall.before b shards log program_end (finished_books_have_no_token_out b h.end.book h.finished)

  -- each shard has its cells as they are after the run
  cells_of : (k : ℕ) → k < 16 → IsShardAfterRun hall.before b log.events k (shard_in shards k).cells
  cells_of = hall_ends_have_cells_of_runs hall.before b shards log.events h.end
      (finished_books_have_no_token_out b h.end.book h.finished) events

  pub cells_after : HaveCellsAfter (store_of tree) (init_accesses (whole_of tree input) ++ accesses_of (accesses_after log.events)) shards
  cells_after k less =
      subst (λ t. IsStateAfter (store_of t) (init_accesses (whole_of tree input) ++ accesses_of (accesses_after log.events))
      (shard_in shards k).cells) of.tree_is
      (subst (λ l. IsStateAfter (store_of (tree_of b.program)) (l ++ accesses_of (accesses_after log.events)) (shard_in shards k).cells)
      of.before_is (cells_of k less).cells)

  -- the shards are parts of the cells of the program
  pub parts : (cells : ShardState) (accesses : List Access) → IsStateAfter (store_of tree) accesses cells → ArePartsOf cells.shard shards
  parts cells accesses state k less =
      let own = cells_of k less in
      let after = cells_after k less in
      record {
        number = own.number;
        shards = own.shards;
        cells = after.cells ∙ sym state.cells;
        limit = after.limit ∙ sym state.limit;
      }

  -- the run of the loop
  loop_run : (log : RunLog) → IsFinishedProgramRun (whole_of tree input) limit log
      → Run (pipeline_after_init tree input) limit log.events (state_after log.events)
  loop_run log run = of_loop (whole_of tree input) limit log.events (state_after log.events) of.no_trap run.run

  finished : IsFinishedProgramRun (whole_of tree input) limit log
  finished =
      let none = finished_books_have_no_token_out b h.end.book h.finished in
      let run = merged_halls_are_program_runs b (logs_of shards) log (hall_ends_are_merged hall.before b shards log program_end none) in
      subst (λ n. IsFinishedProgramRun (whole_of tree input) n log) of.limit_is
      (subst (λ w. IsFinishedProgramRun w b.limit log) whole_is (run.finished h.finished))

  -- its columns can be counted
  pub small_columns : BreaksNoRule tree → HasSmallColumns log.columns
  small_columns accepted =
      subst HasSmallColumns (sym finished.columns) (columns_are_small tree input limit log.events accepted (loop_run log finished))

  -- they are those of the book's events
  pub columns_of_book : made_columns (map (λ (e : BookEntry). e.event) b.log) ≡ log.columns
  columns_of_book = columns_of_merges b.log (logs_of shards) log.events events ∙ sym columns

  -- the loop has ended with these reports, this trap and these cells
  pub loop_end : (reports : List Report) (trap : Option TrapAt) (cells : ShardState) → AreGathered log (found_by shards) reports
      → trap ≡ least_trap 0 log.columns → Serves tree cells
      → IsStateAfter (store_of tree) (init_accesses (whole_of tree input) ++ accesses_of (accesses_after log.events)) cells
      → IsLoopEnd tree input limit (record { run_log = log; reports = reports; trap = trap; cells = cells })
  loop_end reports trap cells gathered trap_is serves state =
      let none = finished_books_have_no_token_out b h.end.book h.finished in
      let run = merged_halls_are_program_runs b (logs_of shards) log (hall_ends_are_merged hall.before b shards log program_end none) in
      record {
        run = finished;
        throttled = subst (λ n. IsThrottled n log.events) of.limit_is run.throttled;
        reports = races.reports reports gathered;
        trap = trap_is;
        after = record {
          run = loop_run log finished;
          columns_are = finished.columns;
          state = state;
        };
        serves = serves;
      }

-- the log into which the logs of a hall can be merged, before anybody merges them
abbrev pub log_of_hall : BookState → List ShardValue → RunLog
log_of_hall b shards = record {
  columns = made_columns (merged_events b.log (logs_of shards));
  events = merged_events b.log (logs_of shards);
}

pub hall_is_merged : (before : List Access) (b : BookState) (shards : List ShardValue) → IsFinishedEnd before b shards
    → AreMerged b.log (logs_of shards) (log_of_hall b shards).events
hall_is_merged before b shards h =
    let rise = can_be_merged before b shards h in
    sorted_events_are_merged b.log (logs_of shards) rise.0 rise.1
