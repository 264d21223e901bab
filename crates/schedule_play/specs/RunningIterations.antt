-- Running iterations of a schedule.
use Rattle.std.specs.Prelude.{ℕ, ℤ, List}
use Rattle.pipe_frame.specs.Replies.{after_instances}
use Rattle.pipe_frame.specs.TokenFields.{TokenFields}
use Rattle.pipe_model.specs.declared.ticket.Entry.{Entry}
use Rattle.pipe_model.specs.Language.Programs.{pipeline_of}
use Rattle.pipe_model.specs.Language.SyntaxTree.{SyntaxTree}
use Rattle.stage_code.specs.FlatCode.{FlatCode}
use Rattle.stage_interp.specs.MachineState.{MachineState}
use Rattle.schedule_play.specs.declared.running_instance.NextAction.{NextAction}
use Rattle.schedule_play.specs.Runners.{CanRun}
use Rattle.schedule_play.specs.RunningInstances.{IsUnderWay}

-- a running iteration: the fields of its token, its machine, the accesses of its running instance, and what it does next
pub record RunningIterationState : Type 0 where
  pub token : TokenFields
  pub machine : MachineState
  pub trace : List Entry
  pub next : NextAction

-- after instances with these replies, the next one of iteration i has made the accesses, and the machine is at its next action
pub record IsRunningIteration (code : FlatCode) (cells : ℕ) (tree : SyntaxTree) (input : List ℤ) (replies : List (List ℤ))
    (h : RunningIterationState) : Type 0 where
  pub whole : CanRun code cells tree h.machine
  pub under_way : IsUnderWay code cells input (after_instances ((pipeline_of tree input).behaviour h.token.iteration) replies)
      h.machine.run h.trace h.next
