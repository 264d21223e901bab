use Rattle.std.proofs.Common.{◌≡◌, ℕ, ◌<◌, ◌≤◌, length, get_or}
use Rattle.dag_landings.specs.Landings.{IsLanding, NoneCross}
use Rattle.dag_landings.proofs.landing.landings.Given as goal

abbrev pub invariant-loop-from : goal.invariant-loop-from
invariant-loop-from l = (l.place ≤ length l.right)
    × ((k : ℕ) → k < l.place → NoneCross l.left l.right l.from k)
    × (length l.table ≡ l.from)
    × ((n : ℕ) → n < l.from → IsLanding l.left l.right n (get_or l.table n 0))
