-- Stage instances that have come to their end.
use Rattle.std.specs.Prelude.{◌++◌, [], ℕ, ℤ, List, map}
use Rattle.pipe_frame.specs.Replies.{accessed, after_instance, replies_of}
use Rattle.pipe_frame.specs.StageEndCases.{NamesNextStage}
use Rattle.pipe_model.specs.declared.access.Access.{Access}
use Rattle.pipe_model.specs.declared.stage.StageEnd.{StageEnd}
use Rattle.pipe_model.specs.declared.ticket.Entry.{Entry}
use Rattle.pipe_model.specs.Pipelines.Behaviour.{Behaviour, Performs}
use Rattle.pipe_model.specs.Runs.StageEnds.{stage_end_actions}
use Rattle.stage_code.specs.FlatCode.{FlatCode}
use Rattle.stage_interp.specs.MachineState.{RunState}
use Rattle.stage_interp.specs.RemainingBehaviour.{RanInstance, Represents}

-- the accesses of a trace
abbrev pub accesses_of : List Entry → List Access
accesses_of trace = map (λ e. e.access) trace

-- an instance, which began with behaviour t, has performed its accesses and its end; if it names a next stage, the machine is at the
-- beginning of the next instance
pub record HasEnded (code : FlatCode) (cells : ℕ) (input : List ℤ) (t : Behaviour) (run : RunState) (trace : List Entry)
    (end : StageEnd) : Type 0 where
  pub performs : Performs t (accessed trace ++ stage_end_actions end)
  pub represents : NamesNextStage end → Represents code cells input run (after_instance t (replies_of trace))

-- a machine that ran over a memory without accesses, which now has the accesses of the trace, has ended its instance
abbrev pub MachinesPerformTheirInstances : Type 0
MachinesPerformTheirInstances = (code : FlatCode) (cells : ℕ) (input : List ℤ) (t : Behaviour) (run : RunState) (trace : List Entry)
    (end : StageEnd)
    → RanInstance code cells input t [] (accesses_of trace) run end → HasEnded code cells input t run trace end
