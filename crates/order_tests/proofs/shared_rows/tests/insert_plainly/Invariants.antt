-- The elements so far have been inserted.
use Rattle.std.proofs.Common.{◌≡◌, ◌+◌, length}
use Rattle.order_tests.proofs.shared_rows.tests.insert_plainly.Given as goal

abbrev pub invariant-loop-k : goal.invariant-loop-k
invariant-loop-k l = record {
  log : length l.list.log ≡ length l.fn.list.log + l.k;
  capacity : l.list.capacity ≡ l.fn.list.capacity;
}
