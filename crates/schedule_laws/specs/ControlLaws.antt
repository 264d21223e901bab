-- Laws of the control part of a run, and of the stage counters.
use Rattle.std.specs.Prelude.{◌≡◌, ◌↔◌, ◌≤◌, ℕ, ℤ, List, false, Some}
use Rattle.pipe_model.specs.declared.access.Access.{Access as Cell_access}
use Rattle.pipe_model.specs.declared.event.Event.{Event}
use Rattle.pipe_model.specs.declared.event.Event.TheVariants.{Access}
use Rattle.pipe_model.specs.declared.node.Node.{Node}
use Rattle.pipe_model.specs.Runs.Allowed.{ControlAllows, HasPassed, IsRunning}
use Rattle.pipe_model.specs.Runs.ControlRun.{ControlRun, is_access}
use Rattle.pipe_model.specs.Pipelines.Pipeline.{Pipeline}
use Rattle.pipe_model.specs.Runs.Run.{Run, IsFinished, state_from}
use Rattle.pipe_model.specs.Runs.State.{Frame, State, frame_at, next_state, own_columns}
use Rattle.pipe_model.specs.declared.status.Status.{Status}
use Rattle.pipe_model.specs.Runs.ControlParts.{HaveSameControl, control_after, control_from, without_accesses}
use Rattle.pipe_model.specs.Runs.StageCounters.{Passes, counter_of}

-- the states allow the same events of the control part, before and after each event, and have the same columns
pub record AgreeInControl (limit : ℕ) (s t : State) : Type 0 where
  pub allow : (e : Event) → ControlAllows limit s e ↔ ControlAllows limit t e
  pub go_on : (e : Event) → is_access e ≡ false → HaveSameControl (next_state s e) (next_state t e)
  pub columns : own_columns s ≡ own_columns t
  pub finished : IsFinished s ↔ IsFinished t

-- traces and accesses do not matter to the control part
abbrev pub ControlGoesByOutlines : Type 0
ControlGoesByOutlines = (limit : ℕ) (s t : State) → HaveSameControl s t → AgreeInControl limit s t

abbrev pub AccessesChangeNoOutline : Type 0
AccessesChangeNoOutline = (s : State) (i : ℕ) (a : Cell_access) → IsRunning s i → HaveSameControl (next_state s (Access i a)) s

abbrev pub ControlSkipsAccesses : Type 0
ControlSkipsAccesses = (c : State) (events : List Event) → control_from c events ≡ state_from c (without_accesses events)

-- the run without its accesses is a run of the control part, which ends in the same control state
pub record HasControlRun (limit : ℕ) (events : List Event) (s : State) : Type 0 where
  pub run : ControlRun limit (without_accesses events) (control_after events)
  pub same : HaveSameControl s (control_after events)

abbrev pub RunsHaveControlRuns : Type 0
RunsHaveControlRuns = (p : Pipeline) (limit : ℕ) (events : List Event) (s : State) → Run p limit events s → HasControlRun limit events s

abbrev pub GreaterLimitsAllow : Type 0
GreaterLimitsAllow = (limit more : ℕ) (events : List Event) (c : State) → limit ≤ more → ControlRun limit events c
    → ControlRun more events c

-- an iteration has passed a number exactly if its counter passes it
abbrev pub CountersDecidePassing : Type 0
CountersDecidePassing = (status : Status) (nodes : List Node) (n : ℤ) → HasPassed status nodes n ↔ Passes (counter_of status nodes) n

-- a counter that passes a number still does so after the next event
abbrev pub CountersGrow : Type 0
CountersGrow =
    (limit : ℕ) (s : State) (e : Event) (j : ℕ) (f g : Frame) → ControlAllows limit s e
    → frame_at s.frames j ≡ Some f → frame_at (next_state s e).frames j ≡ Some g
    → (n : ℤ) → Passes (counter_of f.status f.nodes) n → Passes (counter_of g.status g.nodes) n
