use Rattle.std.proofs.Common.{◌≡◌, ◌≤◌, ◌<◌, ◌+◌, ◌-◌, length}
use Rattle.pipe_model.specs.declared.bounds.TheConstants.{MOST_STAGES}
use Rattle.pipe_model.specs.Language.Programs.{natural, store_of}
use Rattle.pipe_model.specs.Language.SyntaxTree.{tree_of}
use Rattle.stage_code.specs.FlatCode.{FlatCode}
use Rattle.stage_interp.specs.MachineState.{IsMadeFor}
use Rattle.stage_interp.specs.RemainingBehaviour.{behaviour_in}
use Rattle.stage_interp.specs.TreeRuns.{interaction_in}
use Rattle.serial_elision.proofs.PartRuns.{Left}
use Rattle.serial_elision.proofs.StepCounts.{StepsLeft}
use Rattle.serial_elision.specs.Recording.{IsWhole}
use Rattle.serial_elision.proofs.part.run_part.Given as goal

abbrev pub invariant-loop-nodes : goal.invariant-loop-nodes
invariant-loop-nodes l =
    let tree = tree_of l.prepared.checked.now in
    let input = l.prepared.input.now in record {
      left : Left l.prepared.code.now l.fn.log.cells.shard.cells input (store_of tree) (behaviour_in tree input l.fn.part l.iteration)
          l.iteration l.fn.log l.machine.run l.nodes l.log;
      counted : StepsLeft l.prepared.code.now l.fn.log.cells.shard.cells input (store_of tree)
          (interaction_in tree input l.fn.part l.iteration)
          l.fn.log l.initial.steps l.machine.run l.log l.steps;
      made : (code : FlatCode) → IsMadeFor code l.fn.machine → IsMadeFor code l.machine;
      shard : l.log.cells.shard ≡ l.fn.log.cells.shard;
      whole : IsWhole l.log.cells;
      nonempty : 0 < length l.nodes;
      room : length l.nodes + (natural l.prepared.code.now.limits.stages - l.machine.run.state.stage.count) ≤ natural
          l.prepared.code.now.limits.stages + 1;
      bounded : natural l.prepared.code.now.limits.stages ≤ natural MOST_STAGES;
    }

abbrev pub decreases-loop-nodes : goal.decreases-loop-nodes
decreases-loop-nodes l = natural l.prepared.code.now.limits.stages - l.machine.run.state.stage.count
