-- Finished runs of programs, from their ends.
use Rattle.std.proofs.Common.{◌≡◌, refl, ℕ, ℤ, List, [], true}
use Rattle.std.specs.Prelude.{is_some}
use Rattle.pipe_engine.specs.declared.ending.LoopEnd.{LoopEnd}
use Rattle.pipe_engine.specs.EngineRuns.{IsEngineRun}
use Rattle.pipe_engine.specs.LoopEnds.{IsLoopEnd}
use Rattle.pipe_model.specs.declared.event.RunLog.{RunLog}
use Rattle.pipe_model.specs.Language.CheckingRules.{BreaksNoRule}
use Rattle.pipe_model.specs.Language.ProgramsOfTrees.{pipeline_after_init, whole_of}
use Rattle.pipe_model.specs.Language.SyntaxTree.{SyntaxTree}
use Rattle.pipe_model.specs.Pipelines.WholePrograms.{init_trap}
use Rattle.pipe_model.specs.Runs.Run.{EmptyRun}
use Rattle.pipe_model.specs.Runs.RunLogs.{state_after}
use Rattle.pipe_model.specs.Runs.State.{initial_state}
use Rattle.pipe_model.specs.Runs.WholeProgramRuns.{IsFinishedProgramRun, NoLoop, WithoutLoop}
use Rattle.program_ends.specs.declared.ends.ProgramResults.{ProgramResults}
use Rattle.program_ends.specs.ProgramEnds.{HasResults, reaches_final}
use Rattle.program_ends.proofs.ElidedRuns.{finished_runs_agree_with_elisions}
use Rattle.race_detection.proofs.RunReports.{runs_are_detected}
use Rattle.run_laws.proofs.RunStates.IterationCounts.{runs_keep_rules}

abbrev no_log : RunLog
no_log = record { columns = []; events = [] }

-- `init` trapped
pub trapped_in_init : (tree : SyntaxTree) (input : List ℤ) (limit : ℕ) (r : ProgramResults) → BreaksNoRule tree
    → is_some (init_trap (whole_of tree input)) ≡ true → HasResults (whole_of tree input) true initial_state r
    → IsEngineRun tree input limit (record { run_log = no_log; reports = []; output = r.output; trap = r.trap })
trapped_in_init tree input limit r accepted trapped results =
    let p = pipeline_after_init tree input in
    let run : IsFinishedProgramRun (whole_of tree input) limit no_log =
    record { run = NoLoop trapped; finished = WithoutLoop trapped; columns = refl } in
    let right = (runs_are_detected p limit [] initial_state EmptyRun).right in
    record {
      run = run;
      throttled = (runs_keep_rules p limit [] initial_state EmptyRun).throttled;
      reports = record { found = refl; right = right };
      output = results.output;
      trap = results.trap;
      elision = finished_runs_agree_with_elisions tree input limit no_log [] r accepted run right results;
    }

-- the loop was run to its end, and what follows it
pub ran_to_end : (tree : SyntaxTree) (input : List ℤ) (limit : ℕ) (end : LoopEnd) (r : ProgramResults) → BreaksNoRule tree
    → IsLoopEnd tree input limit end → HasResults (whole_of tree input) (reaches_final true end.reports) (state_after end.run_log.events) r
    → IsEngineRun tree input limit (record { run_log = end.run_log; reports = end.reports; output = r.output; trap = r.trap })
ran_to_end tree input limit end r accepted h results = record {
  run = h.run;
  throttled = h.throttled;
  reports = h.reports;
  output = results.output;
  trap = results.trap;
  elision = finished_runs_agree_with_elisions tree input limit end.run_log end.reports r accepted h.run h.reports.right results;
}
