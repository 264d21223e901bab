-- The questions have changed nothing.
use Rattle.std.proofs.Common.{◌≡◌}
use Rattle.order_tests.proofs.replay_rows.lists_agree.Given as goal

abbrev pub invariant-loop-m : goal.invariant-loop-m
invariant-loop-m l = l.orders ≡ l.fn.orders
