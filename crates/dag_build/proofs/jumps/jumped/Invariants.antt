use Rattle.std.proofs.Common.{◌≤◌, ◌-◌}
use Rattle.dag_build.specs.Jumps.{MovesTo}
use Rattle.dag_build.proofs.jumps.jumped.Given as goal

abbrev pub invariant-loop-column : goal.invariant-loop-column
invariant-loop-column l = (l.column ≤ l.to) × MovesTo l.columns l.fn.from l.fn.place l.column l.front

abbrev pub decreases-loop-column : goal.decreases-loop-column
decreases-loop-column l = l.to - l.column
