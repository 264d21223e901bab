-- The pass stays as it is.
use Rattle.std.proofs.Common.{◌≡◌}
use Rattle.order_tests.proofs.shared_rows.always_precedes.Given as goal

abbrev pub invariant-loop : goal.invariant-loop
invariant-loop g l = l.pass ≡ l.fn.pass
