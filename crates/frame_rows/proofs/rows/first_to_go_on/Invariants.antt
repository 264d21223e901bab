use Rattle.std.proofs.Common.{◌<◌, ℕ, Bool, List, get_or}
use Rattle.pipe_model.specs.Runs.State.{Frame}
use Rattle.frame_rows.specs.RowsOfFrames.{AreRows, RowGoesOn}
use Rattle.frame_rows.proofs.rows.first_to_go_on.Given as goal

abbrev pub invariant-loop-iteration : goal.invariant-loop-iteration
invariant-loop-iteration g l = (going : Bool) (fs : List Frame) → AreRows going fs l.rows → (m : ℕ) → m < l.iteration-index
    → RowGoesOn fs l.rows (get_or l.alive m 0) → ⊥
