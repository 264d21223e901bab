-- Laws about tokens of running instances.
use Rattle.std.specs.Prelude.{◌≡◌, ◌≢◌, ℕ, List, [], ◌∷◌, ◌++◌, false}
use Rattle.pipe_model.specs.declared.event.Event.{Event}
use Rattle.pipe_model.specs.declared.event.Event.TheVariants.{Begin, Advance, Enter, Finish, Stop, Access}
use Rattle.pipe_model.specs.Runs.Allowed.{ControlAllows}
use Rattle.pipe_model.specs.Runs.ControlRun.{ControlRun, is_access}
use Rattle.pipe_model.specs.Runs.RunLogs.{state_after}
use Rattle.pipe_frame.specs.RunningTokens.{IsTokenOf}
use Rattle.pipe_frame.specs.TokenFields.{TokenFields}

-- the event ends no instance of iteration i
abbrev pub EndsNoneOf : ℕ → Event → Type 0
EndsNoneOf i (Begin j) = Unit {0}
EndsNoneOf i (Access j a) = Unit {0}
EndsNoneOf i (Advance j k n) = j ≢ i
EndsNoneOf i (Enter j) = Unit {0}
EndsNoneOf i (Finish j e) = j ≢ i
EndsNoneOf i Stop = Unit {0}

-- the token of a running instance stays one until its instance ends
abbrev pub TokensStayUntilTheirEnds : Type 0
TokensStayUntilTheirEnds =
    (limit : ℕ) (events : List Event) (e : Event) (t : TokenFields) → ControlRun limit events (state_after events)
    → ControlAllows limit (state_after events) e → is_access e ≡ false → EndsNoneOf t.iteration e
    → IsTokenOf events t → IsTokenOf (events ++ e ∷ []) t
