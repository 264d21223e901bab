-- The numbers so far rise.
use Rattle.std.proofs.Common.{◌<◌, ◌<ℤ◌, ℕ, pos, get_or}
use Rattle.order_tests.proofs.parent_rows.are_rising.Given as goal

abbrev pub invariant-loop-k : goal.invariant-loop-k
invariant-loop-k l = (i j : ℕ) → i < j → j < l.k → get_or l.numbers i (pos 0) <ℤ get_or l.numbers j (pos 0)
