-- Programs that were run by workers: `init`, the loop, `final`.
use Rattle.std.specs.Prelude.{◌≡◌, ℕ, ℤ, List, true}
use Rattle.hall_laws.specs.HallReports.{AreReportsOf}
use Rattle.pipe_engine.specs.declared.run.EngineRun.{EngineRun}
use Rattle.pipe_model.specs.Language.ProgramsOfTrees.{whole_of}
use Rattle.pipe_model.specs.Language.SyntaxTree.{SyntaxTree}
use Rattle.pipe_model.specs.Runs.RunLogs.{state_after}
use Rattle.pipe_model.specs.Runs.Throttling.{IsThrottled}
use Rattle.pipe_model.specs.Runs.WholeProgramRuns.{IsFinishedProgramRun, played_output, played_trap}
use Rattle.program_ends.specs.ProgramEnds.{EndsAsElision, reaches_final}
use Rattle.program_ends.specs.declared.ends.ProgramResults.{ProgramResults}

-- the output and the trap
abbrev pub results_of : EngineRun → ProgramResults
results_of r = record { output = r.output; trap = r.trap }

-- a finished run of the program with its reports, its output and its trap, which agrees with the serial elision
pub record IsEngineRun (tree : SyntaxTree) (input : List ℤ) (limit : ℕ) (r : EngineRun) : Type 0 where
  pub run : IsFinishedProgramRun (whole_of tree input) limit r.run_log
  pub throttled : IsThrottled limit r.run_log.events
  pub reports : AreReportsOf r.run_log.events r.reports
  pub output : r.output ≡ played_output (whole_of tree input) (reaches_final true r.reports) (state_after r.run_log.events)
  pub trap : r.trap ≡ played_trap (whole_of tree input) (reaches_final true r.reports) (state_after r.run_log.events)
  pub elision : EndsAsElision (whole_of tree input) r.run_log r.reports (results_of r)
