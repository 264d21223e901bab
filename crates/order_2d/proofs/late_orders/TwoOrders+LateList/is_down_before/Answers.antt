-- The elements are in the list.
use Rattle.std.proofs.Common.{◌≡◌, ℕ, List, true, ap, sym, subst}
use Rattle.pipe_model.specs.Orders.OrderList.{has, list_of_log}
use Rattle.order_2d.specs.OrderPairs.{OrderPair}
use Rattle.order_2d.proofs.GrownLogs.{element_within}
use Rattle.order_2d.proofs.late_orders.TwoOrders+LateList.is_down_before.Goals as goal

pub before-requires-clause-first : goal.before-requires-clause-first
before-requires-clause-first c =
    let same = ap (λ (o : OrderPair). o.down.log) c.self.view_is in
    element_within c.self.inside.down.log c.args.x c.self.invariant.1
    (subst (λ (l : List ℕ). has c.args.x (list_of_log l) ≡ true) (sym same) c.requires.first)

pub before-requires-clause-second : goal.before-requires-clause-second
before-requires-clause-second c =
    let same = ap (λ (o : OrderPair). o.down.log) c.self.view_is in
    element_within c.self.inside.down.log c.args.y c.self.invariant.1
    (subst (λ (l : List ℕ). has c.args.y (list_of_log l) ≡ true) (sym same) c.requires.second)
