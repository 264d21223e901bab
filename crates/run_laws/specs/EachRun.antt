-- Laws that hold for runs with a program and for runs without.
use Rattle.std.specs.Prelude.{ℕ, List}
use Rattle.pipe_model.specs.Runs.ControlRun.{ControlRun}
use Rattle.pipe_model.specs.Pipelines.Pipeline.{Pipeline}
use Rattle.pipe_model.specs.Runs.Run.{Run}
use Rattle.pipe_model.specs.Runs.State.{State}
use Rattle.pipe_model.specs.declared.event.Event.{Event}

-- a law of each run of a pipeline, and of each run of the control part
pub record OfEachRun (Law : ℕ → List Event → State → Type 0) : Type 0 where
  pub runs : (p : Pipeline) (limit : ℕ) (events : List Event) (s : State) → Run p limit events s → Law limit events s
  pub control_runs : (limit : ℕ) (events : List Event) (c : State) → ControlRun limit events c → Law limit events c
