-- The elements so far have been inserted.
use Rattle.std.proofs.Common.{◌≡◌, ◌+◌, length}
use Rattle.order_tests.proofs.shared_rows.insert_among.Given as goal

abbrev pub invariant-loop-k : goal.invariant-loop-k
invariant-loop-k l = record {
  log : length l.writer.log ≡ length l.fn.writer.log + l.k;
  capacity : l.writer.capacity ≡ l.fn.writer.capacity;
  table : l.writer.table ≡ l.fn.writer.table;
}
