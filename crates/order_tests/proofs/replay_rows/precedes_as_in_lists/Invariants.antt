-- The questions have changed nothing.
use Rattle.std.proofs.Common.{◌≡◌}
use Rattle.order_tests.proofs.replay_rows.precedes_as_in_lists.Given as goal

abbrev pub invariant-loop-n : goal.invariant-loop-n
invariant-loop-n l = l.orders ≡ l.fn.orders
