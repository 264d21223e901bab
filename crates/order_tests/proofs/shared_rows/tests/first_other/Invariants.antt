-- The pass has seen all insertions.
use Rattle.std.proofs.Common.{◌≡◌, length}
use Rattle.order_tests.proofs.shared_rows.tests.first_other.Given as goal

abbrev pub invariant-loop-y : goal.invariant-loop-y
invariant-loop-y g l = length l.pass.log ≡ 400
