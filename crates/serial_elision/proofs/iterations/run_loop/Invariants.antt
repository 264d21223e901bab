use Rattle.std.proofs.Common.{◌+◌, ◌-◌}
use Rattle.pipe_model.specs.Language.ProgramsOfTrees.{whole_of}
use Rattle.pipe_model.specs.Language.SyntaxTree.{tree_of}
use Rattle.pipe_model.specs.Pipelines.WholePrograms.{loop_after_init}
use Rattle.stage_interp.specs.MachineState.{IsMadeFor}
use Rattle.serial_elision.proofs.Elided.{Elided, StepsSoFar}
use Rattle.serial_elision.specs.PartRuns.{Serves}
use Rattle.serial_elision.proofs.iterations.run_loop.Given as goal

abbrev pub invariant-loop-iteration : goal.invariant-loop-iteration
invariant-loop-iteration l =
    let tree = tree_of l.prepared.checked.now in record {
      elided : Elided (loop_after_init (whole_of tree l.prepared.input.now)) (l.last + 1 - l.iteration) l.iteration l.columns l.trap l.log;
      counted : StepsSoFar tree l.prepared.input.now (loop_after_init (whole_of tree l.prepared.input.now))
          (l.last + 1 - l.iteration) l.iteration l.log l.steps;
      made : IsMadeFor l.prepared.code.now l.machine;
      serves : Serves tree l.log.cells;
    }
