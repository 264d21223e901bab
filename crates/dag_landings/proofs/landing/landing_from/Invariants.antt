use Rattle.std.proofs.Common.{ℕ, ◌<◌}
use Rattle.dag_landings.specs.Landings.{NoneCross}
use Rattle.dag_landings.proofs.landing.landing_from.Given as goal

abbrev pub invariant-loop-k : goal.invariant-loop-k
invariant-loop-k l = (n : ℕ) → n < l.k → NoneCross l.left l.right l.from n
