-- The elements so far, and the room for more.
use Rattle.std.proofs.Common.{◌≡◌, length}
use Rattle.order_tests.proofs.list_rows.inserted_after_first.Given as goal

abbrev pub invariant-loop-done : goal.invariant-loop-done
invariant-loop-done l = record {
  count : length l.list.log ≡ l._done;
  capacity : l.list.capacity ≡ 100001;
}
