-- Tasks that may be in the deques, and the end of a run as a worker sees it.
use Rattle.std.specs.Prelude.{◌≡◌, ◌⊎◌, List, true}
use Rattle.pipe_frame.specs.declared.token.FrameToken.{FrameToken}
use Rattle.pipe_frame.specs.declared.token.Task.{Task}
use Rattle.pipe_frame.specs.declared.token.Task.TheVariants.{Begin, Resume}
use Rattle.pipe_model.specs.declared.event.Event.{Event}
use Rattle.pipe_model.specs.Runs.Run.{IsFinished}
use Rattle.pipe_model.specs.Runs.RunLogs.{state_after}

-- a task begins the next iteration, or its token is as a call of the hall returns it
abbrev pub IsTask : {M : Type 0} → (FrameToken M → Type 0) → Task M → Type 0
IsTask Given Begin = Unit {0}
IsTask Given (Resume t) = Given t

-- the run was seen stopped
abbrev pub IsStopSeen : List Event → Type 0
IsStopSeen seen = (state_after seen).stopped ≡ true

-- the run was seen finished or stopped
abbrev pub IsOver : List Event → Type 0
IsOver seen = IsFinished (state_after seen) ⊎ IsStopSeen seen
