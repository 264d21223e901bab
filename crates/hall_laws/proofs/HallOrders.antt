-- The orders of whole lists agree with the orders of the parts that were seen.
use Rattle.std.proofs.Common.{true, ◌≡◌, ◌↔◌, sym, subst, ℕ, List}
use Rattle.pipe_frame.specs.HallViews.{BeginsWith}
use Rattle.pipe_model.specs.Orders.OrderList.{IsLog, IsBeforeIn, has, list_of_log}
use Rattle.pipe_model.specs.Orders.Starts.{starts_of}
use Rattle.pipe_model.specs.Orders.TwoOrders.{down_first_log, right_first_log}
use Rattle.pipe_model.specs.Runs.RunLogs.{columns_after, state_after}
use Rattle.run_laws.proofs.ListOrders.LongerLogs.{logs_name_earlier_elements, longer_logs_keep_the_order}
use Rattle.hall_laws.specs.HallOrders.{WholeOrdersAgree}

-- two elements of the list of a prefix are in the same order in the whole list
part_order : (whole seen : List ℕ) (x y : ℕ) → IsLog 1 whole → BeginsWith whole seen → has x (list_of_log seen) ≡ true
    → has y (list_of_log seen) ≡ true
    → IsBeforeIn (list_of_log seen) x y ↔ IsBeforeIn (list_of_log whole) x y
part_order whole seen x y ok begins a b =
    let kept = longer_logs_keep_the_order seen begins.0 x y (subst (IsLog 1) begins.1 ok) a b in
    subst (λ l. IsBeforeIn (list_of_log seen) x y ↔ IsBeforeIn (list_of_log l) x y) (sym begins.1) (kept.1, kept.0)

pub whole_orders_agree : WholeOrdersAgree
whole_orders_agree limit events down right x y run begins_down begins_right ax ay =
    let logs = logs_name_earlier_elements.control_runs limit events (state_after events) run in
    record {
      in_down = part_order (down_first_log (starts_of events)) down _ _ logs.0 begins_down ay.down ax.down;
      in_right = part_order (right_first_log (columns_after events) (starts_of events)) right _ _ logs.1 begins_right ay.right ax.right;
    }
