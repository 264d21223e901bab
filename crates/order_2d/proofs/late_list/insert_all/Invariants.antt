-- The first k entries are in the list.
use Rattle.std.proofs.Common.{◌≡◌, ◌++◌, take}
use Rattle.order_2d.proofs.late_list.insert_all.Given as goal

abbrev pub invariant-loop-k : goal.invariant-loop-k
invariant-loop-k l = record {
  log : l.list.log ≡ l.fn.list.log ++ take l.k l.pending;
  capacity : l.list.capacity ≡ l.fn.list.capacity;
}
