-- All numbers so far are smaller.
use Rattle.std.proofs.Common.{◌<◌, ◌<ℤ◌, ℕ, pos, get_or}
use Rattle.order_tests.proofs.parent_rows.is_above.Given as goal

abbrev pub invariant-loop-j : goal.invariant-loop-j
invariant-loop-j l = (j : ℕ) → j < l.j → get_or l.numbers j (pos 0) <ℤ get_or l.numbers l.k (pos 0)
