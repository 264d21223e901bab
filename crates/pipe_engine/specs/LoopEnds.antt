-- Loops that a hall has run to their end.
use Rattle.std.specs.Prelude.{◌≡◌, ℕ, ℤ, List}
use Rattle.hall_laws.specs.HallReports.{AreReportsOf}
use Rattle.pipe_engine.specs.declared.ending.LoopEnd.{LoopEnd}
use Rattle.pipe_model.specs.Language.ProgramsOfTrees.{whole_of}
use Rattle.pipe_model.specs.Language.SyntaxTree.{SyntaxTree}
use Rattle.pipe_model.specs.Runs.Throttling.{IsThrottled}
use Rattle.pipe_model.specs.Runs.WholeProgramRuns.{IsFinishedProgramRun}
use Rattle.program_ends.specs.ProgramEnds.{IsAfterLoop}
use Rattle.serial_elision.specs.ColumnTraps.{least_trap}
use Rattle.serial_elision.specs.PartRuns.{Serves}

-- the log records a finished run of the program, the reports and the trap are the run's, and the cells are those after it
pub record IsLoopEnd (tree : SyntaxTree) (input : List ℤ) (limit : ℕ) (end : LoopEnd) : Type 0 where
  pub run : IsFinishedProgramRun (whole_of tree input) limit end.run_log
  pub throttled : IsThrottled limit end.run_log.events
  pub reports : AreReportsOf end.run_log.events end.reports
  pub trap : end.trap ≡ least_trap 0 end.run_log.columns
  pub after : IsAfterLoop tree input limit end.run_log.events end.run_log.columns end.cells
  pub serves : Serves tree end.cells
