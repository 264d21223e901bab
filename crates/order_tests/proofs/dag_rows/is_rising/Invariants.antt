use Rattle.std.proofs.Common.{ℕ, ◌<◌, ◌<ℤ◌}
use Rattle.pipe_model.specs.Races.Columns.{node_at}
use Rattle.order_tests.proofs.dag_rows.is_rising.Given as goal

abbrev pub invariant-loop-k : goal.invariant-loop-k
invariant-loop-k l = (j k : ℕ) → j < k → k < l.k → (node_at l.nodes j).number <ℤ (node_at l.nodes k).number
