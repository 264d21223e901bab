-- Halls of whole programs that have ended.
use Rattle.std.specs.Prelude.{◌≡◌, ◌≢◌, ℕ, List, map, All, AllPairs, false, is_some}
use Rattle.std.specs.List.Sorted.{IsPermutation}
use Rattle.access_history.specs.declared.history.Found.{Found}
use Rattle.pipe_model.specs.declared.access.Access.{Access}
use Rattle.pipe_model.specs.declared.access.CellId.{CellId}
use Rattle.pipe_model.specs.declared.event.RunLog.{RunLog}
use Rattle.pipe_model.specs.declared.report.Report.{Report}
use Rattle.pipe_model.specs.Language.CheckingRules.{BreaksNoRule}
use Rattle.pipe_model.specs.Language.SyntaxTree.{tree_of}
use Rattle.pipe_model.specs.Pipelines.WholePrograms.{init_accesses, init_trap}
use Rattle.pipe_model.specs.Races.Reports.{RiseByCell}
use Rattle.pipe_model.specs.Runs.Run.{IsFinished}
use Rattle.pipe_model.specs.Runs.RunLogs.{state_after}
use Rattle.pipe_model.specs.Runs.WholeProgramRuns.{run_output, run_trap}
use Rattle.frame_book.specs.BookStates.{BookState, state_of}
use Rattle.program_laws.specs.ProgramHeadline.{MeetsHeadline, exit_status, printed_text}
use Rattle.race_report.specs.RaceReports.{IsFoundIn, report_found}
use Rattle.run_record.specs.MergedLogs.{AreMerged}
use Rattle.run_record.specs.OwnColumns.{made_columns}
use Rattle.hall_laws.specs.ClosedHalls.{NoTokenIsOut}
use Rattle.hall_laws.specs.HallPrograms.{IsMergedHall, whole_in}
use Rattle.hall_laws.specs.HallReports.{AreReportsOf}
use Rattle.hall_shards.specs.ShardValues.{ShardValue}
use Rattle.hall_shards.specs.FoundRaces.{found_by}
use Rattle.hall_headline.specs.HallEnds.{IsHallEnd, logs_of}
use Rattle.pipe_model.specs.Races.Columns.{node_columns}

-- a hall that was opened after the accesses of `init`, which did not trap, and the run log into which its logs were merged
pub record IsProgramEnd (before : List Access) (b : BookState) (shards : List ShardValue) (log : RunLog) : Type 0 where
  pub opened : is_some (init_trap (whole_in b)) ≡ false
  pub start : before ≡ init_accesses (whole_in b)
  pub end : IsHallEnd before b shards
  pub events : AreMerged b.log (logs_of shards) log.events
  pub columns : log.columns ≡ made_columns log.events

-- if no token is out, the laws of merged halls hold for it
abbrev pub HallEndsAreMerged : Type 0
HallEndsAreMerged =
    (before : List Access) (b : BookState) (shards : List ShardValue) (log : RunLog) → IsProgramEnd before b shards log → NoTokenIsOut b
    → IsMergedHall b (logs_of shards) log

-- ---- reports

-- the reports name the races found, sorted by cell, as `gather` ensures
pub record AreGathered (log : RunLog) (found : List (CellId × Found)) (reports : List Report) : Type 0 where
  pub each : IsPermutation (map (λ (f : CellId × Found). report_found (node_columns log.columns) f.0 f.1) found) reports
  pub rise : RiseByCell reports

-- the races are each of another cell and in the columns of the log, as `gather` requires, and what it ensures are the reports of the run
pub record AreRacesOfLog (log : RunLog) (found : List (CellId × Found)) : Type 0 where
  pub cells : AllPairs (λ (f : CellId × Found) (g : CellId × Found). f.0 ≢ g.0) found
  pub instances : All (λ (f : CellId × Found). IsFoundIn (node_columns log.columns) f.1) found
  pub reports : (reports : List Report) → AreGathered log found reports → AreReportsOf log.events reports

abbrev pub HallEndsReportTheirRaces : Type 0
HallEndsReportTheirRaces =
    (before : List Access) (b : BookState) (shards : List ShardValue) (log : RunLog) → IsProgramEnd before b shards log → NoTokenIsOut b
    → AreRacesOfLog log (found_by shards)

-- ---- the headline

-- if the book is finished and the program breaks no rule, the reports are the run's, and meet the headline with the run's output and
-- trap
abbrev pub FinishedHallEndsMeetTheHeadline : Type 0
FinishedHallEndsMeetTheHeadline =
    (before : List Access) (b : BookState) (shards : List ShardValue) (log : RunLog) (reports : List Report) (races : List ℕ)
    → BreaksNoRule (tree_of b.program) → IsProgramEnd before b shards log → IsFinished (state_of b)
    → AreGathered log (found_by shards) reports
    → AreReportsOf log.events reports
    × MeetsHeadline (tree_of b.program) b.input b.limit log reports races
    (exit_status reports (run_trap (whole_in b) (state_after log.events)))
    (printed_text reports races (run_output (whole_in b) (state_after log.events)) (run_trap (whole_in b) (state_after log.events)))
