-- Stage instances between two of their events.
use Rattle.std.specs.Prelude.{◌≢◌, ℕ, ℤ, List}
use Rattle.pipe_frame.specs.Replies.{accessed}
use Rattle.pipe_model.specs.declared.access.Access.{Access}
use Rattle.pipe_model.specs.declared.event.Event.{Event}
use Rattle.pipe_model.specs.declared.stage.StageEnd.{StageEnd}
use Rattle.pipe_model.specs.declared.stage.StageEnd.TheVariants as stage_ends
use Rattle.pipe_model.specs.declared.ticket.Entry.{Entry}
use Rattle.pipe_model.specs.Pipelines.Behaviour.{Behaviour, Performs, behaviour_after_all}
use Rattle.pipe_model.specs.Pipelines.Pipeline.{Pipeline}
use Rattle.pipe_model.specs.Runs.NextEvents.{event_of_behaviour}
use Rattle.stage_code.specs.FlatCode.{FlatCode}
use Rattle.stage_interp.specs.MachineState.{RunState}
use Rattle.stage_interp.specs.RemainingBehaviour.{EndsAs, IsStopped}
use Rattle.schedule_play.specs.declared.running_instance.NextAction.{NextAction}
use Rattle.schedule_play.specs.declared.running_instance.NextAction.TheVariants.{Access as MakesAccess, End}

-- what an instance does next whose machine has come to rest so
abbrev pub action_at : StageEnd → NextAction
action_at (stage_ends.Wait n) = End (stage_ends.Wait n)
action_at (stage_ends.Continue n) = End (stage_ends.Continue n)
action_at stage_ends.End = End stage_ends.End
action_at stage_ends.Closed = End stage_ends.Closed
action_at (stage_ends.Trap t) = End (stage_ends.Trap t)
action_at stage_ends.Stopped = MakesAccess

-- the machine is at this action of the behaviour
abbrev pub IsAt : FlatCode → ℕ → List ℤ → NextAction → RunState → Behaviour → Type 0
IsAt code cells input MakesAccess run t = IsStopped code cells input run t
IsAt code cells input (End end) run t = (end ≢ stage_ends.Stopped) × EndsAs code cells input end run t

-- an instance that began with this behaviour has made these accesses, and the machine is at its next action: an access, or its end
pub record IsUnderWay (code : FlatCode) (cells : ℕ) (input : List ℤ) (t : Behaviour) (run : RunState) (trace : List Entry)
    (next : NextAction) : Type 0 where
  pub performs : Performs t (accessed trace)
  pub is_at : IsAt code cells input next run (behaviour_after_all t (accessed trace))

-- the next event of iteration i, whose running instance began with this behaviour and has made these accesses
abbrev pub next_of : Pipeline → List Access → ℕ → Behaviour → List Entry → Event
next_of p before i t trace = event_of_behaviour p before i (behaviour_after_all t (accessed trace))
