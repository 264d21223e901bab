-- A longer log keeps the order of the elements that were seen.
use Rattle.std.proofs.Common.{◌≡◌, ℕ, List, ◌++◌, length, subst, ap, arith, length-append}
use Rattle.om_shared.specs.SharedLists.{StartsWith}
use Rattle.om_shared.proofs.SeenLogs.{log_prefix}
use Rattle.pipe_model.specs.Orders.GrowingLists.{KeepsOrder}
use Rattle.pipe_model.specs.Orders.OrderList.{IsLog, list_of_log}
use Rattle.run_laws.proofs.ListOrders.InsertionLists.{list_has_below}
use Rattle.run_laws.proofs.ListOrders.LongerLogs.{longer_logs_keep_the_order}

pub seen_keeps_order : (whole part : List ℕ) → IsLog 1 whole → StartsWith whole part
    → KeepsOrder (list_of_log part) (list_of_log whole)
seen_keeps_order whole part ok starts =
    let rest : List ℕ = starts.0 in
    let is : whole ≡ part ++ rest = starts.1 in
    let ok' : IsLog 1 (part ++ rest) = subst (IsLog 1) is ok in
    let below = list_has_below part (log_prefix 1 part rest ok') in
    let below' = list_has_below whole ok in
    let long : length whole ≡ length (part ++ rest) = ap length is in
    let more = length-append part rest in
    record {
      elements = λ x h. (let l = below.only x h in below'.each x (omega (arith, l, long, more)));
      order = λ x y hx hy. rw is (longer_logs_keep_the_order part rest x y ok' hx hy);
    }
