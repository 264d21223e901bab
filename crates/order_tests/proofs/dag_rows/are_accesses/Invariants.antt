use Rattle.std.proofs.Common.{ℕ, ◌<◌, get_or}
use Rattle.pipe_model.specs.declared.access.NodeAccess.{NodeAccess}
use Rattle.dag_build.specs.NodeColumns.{IsAccessOf}
use Rattle.order_tests.proofs.dag_rows.are_accesses.Given as goal
use Rattle.pipe_model.specs.Races.Columns.{node_columns}

abbrev pub invariant-loop-access : goal.invariant-loop-access
invariant-loop-access l = (n : ℕ) (d : NodeAccess) → n < l.access-index → IsAccessOf (node_columns l.columns) (get_or l.accesses n d)
