use Rattle.std.proofs.Common.{◌≡◌, ℕ, ◌+◌, ◌<◌, length, get_or}
use Rattle.dag_build.specs.Jumps.{MovesTo}
use Rattle.dag_build.proofs.jumps.doubled_table.Given as goal

abbrev pub invariant-loop-place : goal.invariant-loop-place
invariant-loop-place l = (length l.twice ≡ l.place-index)
    × ((m : ℕ) → m < l.place-index → MovesTo l.columns l.i m (l.i + (l.jumps.step + l.jumps.step)) (get_or l.twice m 0))
