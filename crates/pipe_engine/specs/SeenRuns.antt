-- What a joined seat has seen of a run.
use Rattle.std.specs.Prelude.{ℕ, List}
use Rattle.pipe_frame.specs.HallViews.{BeginsWith}
use Rattle.pipe_model.specs.declared.event.Event.{Event}
use Rattle.pipe_model.specs.Runs.ControlRun.{ControlRun}
use Rattle.pipe_model.specs.Runs.RunLogs.{state_after}
use Rattle.worker_tasks.specs.Tasks.{IsOver}

-- the events that were seen begin with a run that is over
pub record HasSeenOver (seen : List Event) : Type 0 where
  pub base : List Event
  pub over : IsOver base
  pub later : BeginsWith seen base

-- if the events of a run begin with such events, the run is over
abbrev pub SeenRunsAreOver : Type 0
SeenRunsAreOver = (limit : ℕ) (events seen : List Event) → ControlRun limit events (state_after events) → BeginsWith events seen
    → HasSeenOver seen → IsOver events
