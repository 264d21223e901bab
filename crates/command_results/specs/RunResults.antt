-- The results of the commands that make a run.
use Rattle.std.specs.Prelude.{◌≡◌, [], ℕ, ℤ, List, Bool, Some}
use Rattle.pipe_model.specs.declared.event.RunLog.{RunLog}
use Rattle.pipe_model.specs.declared.tree.Declaration.{Declaration}
use Rattle.pipe_model.specs.Language.ProgramsOfTrees.{whole_of}
use Rattle.pipe_model.specs.Language.SyntaxTree.{SyntaxTree}
use Rattle.pipe_model.specs.Races.Reports.{AreRight}
use Rattle.pipe_model.specs.Runs.RunLogs.{accesses_after, columns_after}
use Rattle.pipe_model.specs.Runs.Throttling.{IsThrottled}
use Rattle.pipe_model.specs.Runs.WholeProgramRuns.{IsFinishedProgramRun}
use Rattle.command_results.specs.declared.command_result.CommandResult.{CommandResult}
use Rattle.command_results.specs.declared.program_run.FinishedRun.{FinishedRun}
use Rattle.command_results.specs.RecordedRuns.{IsRecordedRun, recorded, seeded_events}
use Rattle.command_results.specs.RunReports.{run_reports}
use Rattle.command_results.specs.RunTexts.{IsPrintedAs}
use Rattle.command_results.specs.SerialResults.{elision_output, elision_trap}

-- a finished run of the program under the throttling limit; its reports are those that its histories find, and right; without a report it
-- has the output and the trap of the serial elision
pub record IsFinishedRunOf (tree : SyntaxTree) (input : List ℤ) (throttle : ℕ) (r : FinishedRun) : Type 0 where
  pub run : IsFinishedProgramRun (whole_of tree input) throttle r.run_log
  pub throttled : IsThrottled throttle r.run_log.events
  pub found : r.reports ≡ run_reports r.run_log
  pub right : AreRight (columns_after r.run_log.events) (accesses_after r.run_log.events) r.reports
  pub output : r.reports ≡ [] → r.output ≡ elision_output tree input
  pub trap : r.reports ≡ [] → r.trap ≡ elision_trap tree input

-- the same, with the events of the schedule that the seed chooses
pub record IsSeededPlay (tree : SyntaxTree) (input : List ℤ) (workers throttle seed : ℕ) (r : FinishedRun) : Type 0 where
  pub events : r.run_log.events ≡ seeded_events tree input workers throttle seed
  pub run : IsFinishedRunOf tree input throttle r

-- the result of a command that prints a finished run: its text, with the lines of its log if they are asked for, its log and its reports
pub record IsPrintedRun (cells : List Declaration) (recording : Bool) (run : FinishedRun) (a : CommandResult) : Type 0 where
  pub outcome : List ℕ
  pub printed : IsPrintedAs cells run.output run.trap run.reports a.status outcome
  pub text : a.text ≡ recorded recording cells run.run_log outcome
  pub logged : a.run_log ≡ Some run.run_log
  pub reports : a.reports ≡ run.reports

-- the result has this log of a run that meets the headline, and reports what the run's histories find
pub record HasRun (tree : SyntaxTree) (input : List ℤ) (throttle : ℕ) (recording : Bool) (log : RunLog) (a : CommandResult) : Type 0 where
  pub logged : a.run_log ≡ Some log
  pub meets : IsRecordedRun recording tree input throttle log a.reports a.status a.text
  pub found : a.reports ≡ run_reports log

-- the result of `run`: some run's result
abbrev pub IsRunResult : SyntaxTree → List ℤ → (throttle : ℕ) → (recording : Bool) → CommandResult → Type 0
IsRunResult tree input throttle recording a = (log : RunLog) × HasRun tree input throttle recording log a

-- the result of `play`: the result of the run with the events of the schedule
pub record IsPlayResult (tree : SyntaxTree) (input : List ℤ) (workers throttle seed : ℕ) (recording : Bool)
    (a : CommandResult) : Type 0 where
  pub log : RunLog
  pub run : HasRun tree input throttle recording log a
  pub events : log.events ≡ seeded_events tree input workers throttle seed
