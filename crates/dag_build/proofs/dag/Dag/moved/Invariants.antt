use Rattle.std.proofs.Common.{◌+◌, ◌<◌, ◌≤◌, get_or, length}
use Rattle.dag_build.specs.Jumps.{MovesTo}
use Rattle.dag_build.specs.declared.jumps.Jumps.{Jumps}
use Rattle.dag_build.proofs.dag.Dag.moved.Given as goal

abbrev pub invariant-loop-k : goal.invariant-loop-k
invariant-loop-k l = (l.column ≤ l.to)
    × MovesTo l.self l.fn.from l.fn.place l.column l.front
    × ((d : Jumps) → l.k < length l.levels → l.to < l.column + (get_or l.levels l.k d).step)
