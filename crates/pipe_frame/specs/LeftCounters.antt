-- The stage counter of the left neighbour: when it must be read, and what a kept one may say.
use Rattle.std.specs.Prelude.{ℕ, ℤ, zero, suc, List, Option, Some, None, Bool, false, not}
use Rattle.pipe_model.specs.declared.stage.Counter.{Counter}
use Rattle.pipe_model.specs.declared.stage.StageEnd.{StageEnd}
use Rattle.pipe_model.specs.declared.stage.StageEnd.TheVariants.{Wait, Continue, End, Closed, Trap, Stopped}
use Rattle.pipe_model.specs.Runs.Allowed.{LeftHasPassed}
use Rattle.pipe_model.specs.Runs.StageCounters.{counter_of}
use Rattle.pipe_model.specs.Runs.State.{Frame, frame_at}
use Rattle.dep_fold.specs.Folding.{FoldedPasses, folded_passes}

-- the counter of an iteration, if it has begun
abbrev pub frame_counter : Option Frame → Option Counter
frame_counter None = None
frame_counter (Some f) = Some (counter_of f.status f.nodes)

-- the counter of the left neighbour of iteration i, if there is one
abbrev pub left_counter : List Frame → ℕ → Option Counter
left_counter fs zero = None
left_counter fs (suc j) = frame_counter (frame_at fs j)

-- an instance of iteration i ends with a wait for the left neighbour, and the kept counter does not let it go on
abbrev pub must_read_left : ℕ → Option Counter → StageEnd → Bool
must_read_left zero folded end = false
must_read_left (suc j) folded (Wait n) = not (folded_passes folded n)
must_read_left (suc j) folded (Continue n) = false
must_read_left (suc j) folded End = false
must_read_left (suc j) folded Closed = false
must_read_left (suc j) folded (Trap t) = false
must_read_left (suc j) folded Stopped = false

-- the kept counter is past no stage that the left neighbour of iteration i has not passed
abbrev pub IsNotAhead : List Frame → ℕ → Option Counter → Type 0
IsNotAhead fs i folded = (n : ℤ) → FoldedPasses folded n → LeftHasPassed fs i n
