-- Runs: lists of events, each allowed in the state after those before it. The last event is at the end of the list.
use Rattle.std.specs.Prelude.{◌≡◌, ℕ, List, [], ◌∷◌, ◌++◌, true, false, Some}
use Rattle.pipe_model.specs.declared.event.Event.{Event}
use Rattle.pipe_model.specs.Pipelines.Pipeline.{Pipeline}
use Rattle.pipe_model.specs.Runs.State.{Frame, State, initial_state, frame_at, next_state, is_completed}
use Rattle.pipe_model.specs.Runs.Allowed.{IsClosed, Allowed}

-- the events are a run, which leads to the state
pub data Run (p : Pipeline) (limit : ℕ) : List Event → State → Type 0 where
  EmptyRun : Run p limit [] initial_state
  RunThen : {events : List Event} {s : State} → Run p limit events s → (e : Event) → Allowed p limit s e
      → Run p limit (events ++ e ∷ []) (next_state s e)

-- all iterations have ended, the loop is closed, and the run was not stopped
pub record IsFinished (s : State) : Type 0 where
  pub over : (i : ℕ) (f : Frame) → frame_at s.frames i ≡ Some f → is_completed f.status ≡ true
  pub shut : IsClosed s.frames
  pub going : s.stopped ≡ false

-- the state after more events, whether they are allowed or not
abbrev pub state_from : State → List Event → State
state_from s [] = s
state_from s (e ∷ es) = state_from (next_state s e) es

-- the events are allowed one after the other, from a state on: a run defined from its first event
abbrev pub AllowedFrom : Pipeline → ℕ → State → List Event → Type 0
AllowedFrom p limit s [] = Unit {0}
AllowedFrom p limit s (e ∷ es) = Allowed p limit s e × AllowedFrom p limit (next_state s e) es
