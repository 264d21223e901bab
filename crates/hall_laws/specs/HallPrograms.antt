-- Closed halls of whole programs: the hall was opened with the cells after `init`.
use Rattle.std.specs.Prelude.{◌≡◌, ℕ, List, All, map, true, false, is_some}
use Rattle.std.specs.List.Sorted.{IsPermutation}
use Rattle.access_history.specs.declared.history.Found.{Found}
use Rattle.access_history.specs.declared.history.History.{History}
use Rattle.pipe_model.specs.declared.access.CellId.{CellId}
use Rattle.pipe_model.specs.declared.event.RunLog.{RunLog}
use Rattle.pipe_model.specs.declared.report.Report.{Report}
use Rattle.pipe_model.specs.declared.ticket.ShardEntry.{ShardEntry}
use Rattle.pipe_model.specs.Language.CheckingRules.{BreaksNoRule}
use Rattle.pipe_model.specs.Language.ProgramsOfTrees.{whole_of}
use Rattle.pipe_model.specs.Language.SyntaxTree.{tree_of}
use Rattle.pipe_model.specs.Pipelines.WholePrograms.{WholeProgram, init_accesses, init_trap}
use Rattle.pipe_model.specs.Races.Reports.{AreRight, RiseByCell}
use Rattle.pipe_model.specs.Runs.Run.{IsFinished}
use Rattle.pipe_model.specs.Runs.RunLogs.{accesses_after, columns_after, ended_columns_after, state_after}
use Rattle.pipe_model.specs.Runs.Throttling.{IsThrottled}
use Rattle.pipe_model.specs.Runs.WholeProgramRuns.{IsFinishedProgramRun, ProgramRun, run_output, run_trap}
use Rattle.frame_book.specs.BookStates.{BookState, state_of}
use Rattle.program_laws.specs.ProgramHeadline.{MeetsHeadline, exit_status, printed_text}
use Rattle.race_report.specs.RaceReports.{IsFoundIn, report_found}
use Rattle.run_record.specs.MergedLogs.{AreMerged}
use Rattle.run_record.specs.OwnColumns.{made_columns}
use Rattle.hall_laws.specs.ClosedHalls.{ClosedHall, NoTokenIsOut}
use Rattle.hall_laws.specs.HallReports.{AreFound, AreReportsOf, HaveNotedEntries}
use Rattle.hall_laws.specs.HallRuns.{EndsWithStop}
use Rattle.pipe_model.specs.Races.Columns.{node_columns}

-- the program of the book, on its input
abbrev pub whole_in : BookState → WholeProgram
whole_in v = whole_of (tree_of v.program) v.input

-- a closed hall that has all its tokens back. It was opened with the cells after `init`, which did not trap, and its logs were merged into
-- this run log.
pub record IsMergedHall (v : BookState) (shards : List (List ShardEntry)) (log : RunLog) : Type 0 where
  pub opened : is_some (init_trap (whole_in v)) ≡ false
  pub closed : ClosedHall v (init_accesses (whole_in v)) shards
  pub none : NoTokenIsOut v
  pub events : AreMerged v.log shards log.events
  pub columns : log.columns ≡ made_columns log.events

-- the log records a run of the program under the throttling limit of the book. It is finished if the book is, and ends with `Stop` if
-- the book was stopped.
pub record IsProgramRunOfHall (v : BookState) (log : RunLog) : Type 0 where
  pub run : ProgramRun (whole_in v) v.limit log.events (state_after log.events)
  pub columns : log.columns ≡ ended_columns_after log.events
  pub nodes : node_columns log.columns ≡ columns_after log.events
  pub throttled : IsThrottled v.limit log.events
  pub finished : IsFinished (state_of v) → IsFinishedProgramRun (whole_in v) v.limit log
  pub stopped : (state_of v).stopped ≡ true → EndsWithStop log.events

abbrev pub MergedHallsAreProgramRuns : Type 0
MergedHallsAreProgramRuns = (v : BookState) (shards : List (List ShardEntry)) (log : RunLog) → IsMergedHall v shards log
    → IsProgramRunOfHall v log

-- if the program breaks no rule, the book is finished and the reports are right for the run, they meet the headline with the run's output
-- and trap
abbrev pub FinishedHallsMeetTheHeadline : Type 0
FinishedHallsMeetTheHeadline =
    (v : BookState) (shards : List (List ShardEntry)) (log : RunLog) (reports : List Report) (races : List ℕ)
    → BreaksNoRule (tree_of v.program) → IsMergedHall v shards log → IsFinished (state_of v)
    → AreRight (columns_after log.events) (accesses_after log.events) reports
    → MeetsHeadline (tree_of v.program) v.input v.limit log reports races
    (exit_status reports (run_trap (whole_in v) (state_after log.events)))
    (printed_text reports races (run_output (whole_in v) (state_after log.events)) (run_trap (whole_in v) (state_after log.events)))

-- what the histories of the shards have found is in the columns of the run log, as `gather` requires; its reports, sorted by cell, are
-- those of the run
abbrev pub MergedHallsReportTheirRaces : Type 0
MergedHallsReportTheirRaces =
    (v : BookState) (shards : List (List ShardEntry)) (log : RunLog) (history : ℕ → History) (found : List (CellId × Found))
    (reports : List Report)
    → IsMergedHall v shards log → HaveNotedEntries v shards history → AreFound history found
    → All (λ (f : CellId × Found). IsFoundIn (node_columns log.columns) f.1) found
    × (IsPermutation (map (λ (f : CellId × Found). report_found (node_columns log.columns) f.0 f.1) found) reports → RiseByCell reports
    → AreReportsOf log.events reports)
