use Rattle.std.proofs.Common.{ℕ, ◌<◌, ◌<ℤ◌}
use Rattle.pipe_model.specs.Races.Columns.{node_at}
use Rattle.order_tests.proofs.dag_rows.is_above.Given as goal

abbrev pub invariant-loop-j : goal.invariant-loop-j
invariant-loop-j l = (j : ℕ) → j < l.j → (node_at l.nodes j).number <ℤ (node_at l.nodes l.k).number
