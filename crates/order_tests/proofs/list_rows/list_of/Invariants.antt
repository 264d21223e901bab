-- The capacity stays.
use Rattle.std.proofs.Common.{◌≡◌}
use Rattle.order_tests.proofs.list_rows.list_of.Given as goal

abbrev pub invariant-loop-x : goal.invariant-loop-x
invariant-loop-x l = l.list.capacity ≡ 100
