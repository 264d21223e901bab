-- What a schedule keeps of a run.
use Rattle.std.specs.Prelude.{◌≡◌, ◌<◌, ◌-◌, ◌&&◌, ◌||◌, not, ℕ, List, Bool, Some, length}
use Rattle.pipe_model.specs.Runs.NextEvents.{frame_continues_loop}
use Rattle.pipe_model.specs.Runs.State.{Frame, State, frame_at}
use Rattle.schedule_play.specs.declared.turns.Alive.{Alive}
use Rattle.schedule_play.specs.Turns.{alive_iterations}

-- the iterations that have not ended, the number of those that have begun, whether the loop goes on after the last of them, and the
-- throttling limit
pub record ScheduleState : Type 0 where
  pub alive : List Alive
  pub begun : ℕ
  pub continues : Bool
  pub limit : ℕ

-- it is that of a run in this state
pub record IsScheduleOf (s : State) (v : ScheduleState) : Type 0 where
  pub alive : v.alive ≡ alive_iterations s
  pub begun : v.begun ≡ length s.frames
  pub continues : v.continues ≡ frame_continues_loop (frame_at s.frames (length s.frames - 1))
  pub instances : (i : ℕ) (f : Frame) → frame_at s.frames i ≡ Some f → 0 < length f.nodes

-- the loop goes on after the last iteration: it did before the event, or the event is that of the last iteration and does not close the
-- loop
abbrev pub goes_on : (before last closes : Bool) → Bool
goes_on before last closes = before || (last && not closes)
