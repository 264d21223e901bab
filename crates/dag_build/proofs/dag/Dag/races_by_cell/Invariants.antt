use Rattle.std.proofs.Common.{length}
use Rattle.std.specs.List.{All}
use Rattle.dag_build.specs.NodeColumns.{IsAccessOf}
use Rattle.dag_build.proofs.CellGroups.{IsProgress}
use Rattle.dag_build.proofs.dag.Dag.races_by_cell.Given as goal

abbrev pub invariant-loop-first : goal.invariant-loop-first
invariant-loop-first l = IsProgress l.self l.fn.accesses l.rest l.reports × All (IsAccessOf l.self) l.rest

abbrev pub decreases-loop-first : goal.decreases-loop-first
decreases-loop-first l = length l.rest
