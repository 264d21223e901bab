use Rattle.std.proofs.Common.{ℕ, ◌-◌, ◌<◌, ◌≤◌, ◌≤ℤ◌, length}
use Rattle.pipe_model.specs.Races.Columns.{node_at}
use Rattle.pipe_span.proofs.left_parent.count_up_to.Given as goal

abbrev pub invariant-loop-count : goal.invariant-loop-count
invariant-loop-count l = (l.count ≤ length l.left) × ((n : ℕ) → n < l.count → (node_at l.left n).number ≤ℤ (node_at l.right l.k).number)

abbrev pub decreases-loop-count : goal.decreases-loop-count
decreases-loop-count l = length l.left - l.count
