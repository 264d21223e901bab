use Rattle.std.proofs.Common.{ℕ, ◌<◌, ◌≤◌, ◌≤ℤ◌, length}
use Rattle.pipe_model.specs.Races.Columns.{node_at}
use Rattle.pipe_span.proofs.ColumnRows.{HasEntries}
use Rattle.pipe_span.proofs.row.row_of.Given as goal

abbrev pub invariant-loop-k : goal.invariant-loop-k
invariant-loop-k l = (l.count ≤ length l.left)
    × ((n : ℕ) → n < l.count → l.k < length l.right → (node_at l.left n).number ≤ℤ (node_at l.right l.k).number)
    × HasEntries l.left l.right l.left_row l.row l.weights l.first l.k
