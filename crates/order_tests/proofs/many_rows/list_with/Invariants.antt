-- The capacity stays.
use Rattle.std.proofs.Common.{◌≡◌}
use Rattle.order_tests.proofs.many_rows.list_with.Given as goal

abbrev pub invariant-loop-k : goal.invariant-loop-k
invariant-loop-k l = l.list.capacity ≡ 2000001
