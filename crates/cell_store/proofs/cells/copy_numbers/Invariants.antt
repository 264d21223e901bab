use Rattle.std.proofs.Common.{◌≡◌, take, vec_capacity}
use Rattle.cell_store.proofs.cells.copy_numbers.Given as goal

abbrev pub invariant-loop-value : goal.invariant-loop-value
invariant-loop-value l = record {
  items : l.output.items ≡ take l.value-index l.from;
  capacity : vec_capacity l.output ≡ vec_capacity l.fn.output;
}
