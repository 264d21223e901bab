use Rattle.std.proofs.Common.{ℕ, ◌<◌}
use Rattle.pipe_model.specs.Races.Columns.{nodes_at, IsRising, node_columns}
use Rattle.order_tests.proofs.dag_rows.are_rising.Given as goal

abbrev pub invariant-loop-column : goal.invariant-loop-column
invariant-loop-column l = (i : ℕ) → i < l.column-index → IsRising (nodes_at (node_columns l.columns) i)
