use Rattle.pipe_model.specs.Pipelines.Behaviour.{Behaviour}
use Rattle.stage_interp.specs.RemainingBehaviour.{Represents}
use Rattle.hall_tests.proofs.checker.replay.replay_all.Given as goal

abbrev pub invariant-loop-event : goal.invariant-loop-event
invariant-loop-event l = (t : Behaviour) × Represents l.prepared.code l.cells l.prepared.input l.machine.run t
