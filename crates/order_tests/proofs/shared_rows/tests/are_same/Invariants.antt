-- The pass stays as it is.
use Rattle.std.proofs.Common.{◌≡◌}
use Rattle.order_tests.proofs.shared_rows.tests.are_same.Given as goal

abbrev pub invariant-loop-x : goal.invariant-loop-x
invariant-loop-x g l = l.pass ≡ l.fn.pass
