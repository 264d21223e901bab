-- Accesses in the cells of a shard.
use Rattle.std.proofs.Common.{◌≡◌, ℕ, IfSome, List, [], ◌∷◌, length, sym, ap, ◌↔◌, subst, arith, Option, Some, None}
use Rattle.std.proofs.lemmas.List.{length-append}
use Rattle.pipe_model.specs.declared.access.Access.{Access}
use Rattle.pipe_model.specs.declared.access.AccessKind.{AccessKind}
use Rattle.pipe_model.specs.declared.access.AccessKind.TheVariants.{Write}
use Rattle.pipe_model.specs.declared.marks.Marks.{Marks}
use Rattle.pipe_model.specs.Orders.GrowingLists.{AreIn, KeepsOrder}
use Rattle.pipe_model.specs.Orders.OrderList.{IsLog, IsBeforeIn, list_of_log}
use Rattle.pipe_model.specs.Pipelines.Behaviour.{write_access}
use Rattle.pipe_frame.specs.HallViews.{BeginsWith}
use Rattle.pipe_frame.specs.Ties.{AreElementsOf, SeenLists}
use Rattle.run_laws.proofs.ListOrders.InsertionLists.{list_has_below}
use Rattle.run_laws.proofs.ListOrders.LongerLogs.{longer_logs_keep_the_order}
use Rattle.access_history.specs.declared.history.History.{History}
use Rattle.access_history.specs.declared.history.MarkedNode.{MarkedNode}
use Rattle.access_history.specs.KeptInstances.{KeptAreIn, AllKept}
use Rattle.om_shared.proofs.SeenLogs.{log_prefix}
use Rattle.hall_shards.specs.ShardValues.{down_list, right_list}
use Rattle.hall_shards.specs.Accesses.{GrowLists}
use Rattle.order_2d.specs.SeenOrders.{AreOfLists}

-- a fact of each kept instance
pub all_kept : (P Q : MarkedNode → Type 0) (h : History) → ((w : MarkedNode) → P w → Q w) → AllKept P h → AllKept Q h
all_kept P Q h f a = record { writer = by h.writer a.writer; rightmost = by h.rightmost a.rightmost; downmost = by h.downmost a.downmost }
  where
    by : (o : Option MarkedNode) → IfSome o P → IfSome o Q
    by None p = tt
    by (Some w) p = f w p

-- a write
pub as_write : (a : Access) → a.kind ≡ Write → a ≡ write_access a.cell.0 a.value
as_write a e = ap (λ (k : AccessKind). let b : Access = record { cell = a.cell; kind = k; value = a.value } in b) e

-- a longer log keeps the order
pub log_keeps : (old new : List ℕ) → BeginsWith new old → IsLog 1 new → KeepsOrder (list_of_log old) (list_of_log new)
log_keeps old new b valid = record {
  elements = λ x h. (let q = (list_has_below old (log_prefix 1 old b.0 (subst (IsLog 1) b.1 valid))).only x h in
      let n = length-append old b.0 in let e = ap length b.1 in (list_has_below new valid).each x (omega (arith, q, n, e)));
  order = λ x y hx hy. subst (λ l. IsBeforeIn (list_of_log l) x y ↔ IsBeforeIn (list_of_log old) x y) (sym b.1)
      (longer_logs_keep_the_order old b.0 x y (subst (IsLog 1) b.1 valid) hx hy);
}

-- marks that were seen are in the lists
pub marks_in_lists : (down right : List ℕ) (lists : SeenLists) (m : Marks) → BeginsWith lists.down_log down
    → BeginsWith lists.right_log right → IsLog 1 lists.down_log → IsLog 1 lists.right_log
    → AreElementsOf down right m → AreIn (down_list lists) (right_list lists) m
marks_in_lists down right lists m bd br ld lr h = record {
  down = (list_has_below lists.down_log ld).each m.down_first
      (let l = h.down_first in let n = length-append down bd.0 in let e = ap length bd.1 in omega (arith, l, n, e));
  right = (list_has_below lists.right_log lr).each m.right_first
      (let l = h.right_first in let n = length-append right br.0 in let e = ap length br.1 in omega (arith, l, n, e));
}

-- the lists of a pass that has met another
pub lists_grow : (old new : SeenLists) → (new.down ≡ old.down) × (new.right ≡ old.right) → BeginsWith new.down_log old.down_log
    → BeginsWith new.right_log old.right_log → IsLog 1 new.down_log → IsLog 1 new.right_log → GrowLists old new
lists_grow old new same bd br ld lr = record {
  identities = same;
  down = log_keeps old.down_log new.down_log bd ld;
  right =
      log_keeps old.right_log new.right_log br lr;
}

-- what is kept is in longer lists
pub kept_grow : (old new : SeenLists) (h : History) → GrowLists old new → KeptAreIn (down_list old) (right_list old) h
    → KeptAreIn (down_list new) (right_list new) h
kept_grow old new h g k = all_kept (λ w. AreIn (down_list old) (right_list old) w.marks)
    (λ w. AreIn (down_list new) (right_list new) w.marks) h
    (λ w a. record { down = g.down.elements w.marks.down_first a.down; right = g.right.elements w.marks.right_first a.right }) k

-- passes with these identities are of these lists
pub are_of : (p : SeenLists) (d r : List ℕ) → p.down ≡ d → p.right ≡ r → AreOfLists p d r
are_of p [] r a b = tt
are_of p (d ∷ ds) [] a b = tt
are_of p (d ∷ ds) (r ∷ rs) a b = (a, b)
