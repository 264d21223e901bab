-- Runs of the control part alone, whose events are not accesses.
use Rattle.std.specs.Prelude.{◌≡◌, ℕ, List, [], ◌∷◌, ◌++◌, Bool, true, false}
use Rattle.pipe_model.specs.declared.event.Event.{Event}
use Rattle.pipe_model.specs.declared.event.Event.TheVariants.{Begin, Advance, Enter, Finish, Stop, Access}
use Rattle.pipe_model.specs.Runs.State.{State, initial_state, next_state}
use Rattle.pipe_model.specs.Runs.Allowed.{ControlAllows}

abbrev pub is_access : Event → Bool
is_access (Begin i) = false
is_access (Access i a) = true
is_access (Advance i k n) = false
is_access (Enter i) = false
is_access (Finish i e) = false
is_access Stop = false

-- the events are a run of the control part, which leads to the state
pub data ControlRun (limit : ℕ) : List Event → State → Type 0 where
  EmptyControlRun : ControlRun limit [] initial_state
  ControlRunThen : {events : List Event} {c : State} → ControlRun limit events c → (e : Event) → is_access e ≡ false → c.stopped ≡ false
      → ControlAllows limit c e → ControlRun limit (events ++ e ∷ []) (next_state c e)
