-- The first k pending elements are in the links, each with the label that it chose.
use Rattle.std.proofs.Common.{◌≡◌, ◌+◌, ◌++◌, List, ℕ, length, take, vec_capacity}
use Rattle.pipe_model.specs.Orders.OrderList.{IsLog}
use Rattle.om_list.specs.KeptLists.{IsKept}
use Rattle.om_shared.specs.SharedLists.{HasChosenLabels}
use Rattle.om_shared.proofs.pending.insert_pending.Given as goal

abbrev pub invariant-loop-k : goal.invariant-loop-k
invariant-loop-k l = record {
  linked : (done : List ℕ) → IsKept l.fn.links done → IsLog 1 (done ++ l.pending)
      → IsKept l.links (done ++ take l.k l.pending)
      × HasChosenLabels done l.fn.links.label.items (take l.k l.pending) l.links.label.items;
  long : length l.links.label.items ≡ length l.fn.links.label.items + l.k;
  next_room : vec_capacity l.links.next ≡ vec_capacity l.fn.links.next;
  prev_room : vec_capacity l.links.prev ≡ vec_capacity l.fn.links.prev;
  label_room : vec_capacity l.links.label ≡ vec_capacity l.fn.links.label;
}
