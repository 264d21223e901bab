-- Machines after instances that name a next stage.
use Rattle.std.proofs.Common.{ℕ, ℤ, List}
use Rattle.pipe_frame.specs.StageEndCases.{NamesNextStage}
use Rattle.pipe_model.specs.declared.stage.StageEnd.{StageEnd}
use Rattle.pipe_model.specs.declared.stage.StageEnd.TheVariants as stage_ends
use Rattle.pipe_model.specs.Pipelines.Behaviour.{Behaviour}
use Rattle.stage_code.specs.FlatCode.{FlatCode}
use Rattle.stage_interp.specs.MachineState.{RunState}
use Rattle.stage_interp.specs.RemainingBehaviour.{EndsAs, Represents}

-- the machine has a behaviour left to do
pub at_next_stage : (code : FlatCode) (cells : ℕ) (input : List ℤ) (end : StageEnd) (run : RunState) (t : Behaviour)
    → EndsAs code cells input end run t
    → NamesNextStage end → (left : Behaviour) × Represents code cells input run left
at_next_stage code cells input (stage_ends.Wait n) run t h names = (h.0, h.2)
at_next_stage code cells input (stage_ends.Continue n) run t h names = (h.0, h.2)
at_next_stage code cells input stage_ends.End run t h names = elim names [ ]
at_next_stage code cells input stage_ends.Closed run t h names = elim names [ ]
at_next_stage code cells input (stage_ends.Trap w) run t h names = elim names [ ]
at_next_stage code cells input stage_ends.Stopped run t h names = elim names [ ]
