-- The first k elements of the range have their new labels, and all others their old ones.
use Rattle.std.proofs.Common.{◌≡◌, ◌≢◌, ℕ, ◌<◌, length, slice_index, true}
use Rattle.std.specs.Vec.{vec_capacity}
use Rattle.pipe_model.specs.Orders.OrderList.{has}
use Rattle.om_relabel.specs.LabelledLinks.{label_of}
use Rattle.om_relabel.specs.Ranges.{elements_of, spread_label}
use Rattle.om_relabel.proofs.spreading.relabel.Given as goal

abbrev pub invariant-loop-k : goal.invariant-loop-k
invariant-loop-k l = record {
  element : l.k < l.range.count → l.element ≡ slice_index (elements_of l.fn.links l.range) l.k;
  next : l.links.next ≡ l.fn.links.next;
  prev : l.links.prev ≡ l.fn.links.prev;
  long : length l.links.label.items ≡ length l.fn.links.label.items;
  capacity : vec_capacity l.links.label ≡ vec_capacity l.fn.links.label;
  spread : (j : ℕ) → j < l.k → label_of l.links (slice_index (elements_of l.fn.links l.range) j) ≡ spread_label l.range j;
  others : (x : ℕ) → has x (elements_of l.fn.links l.range) ≢ true → label_of l.links x ≡ label_of l.fn.links x;
}
