-- The elements are in the list that was seen.
use Rattle.std.proofs.Common.{◌≡◌, ℕ, List, true, ap, sym, subst}
use Rattle.pipe_model.specs.Orders.OrderList.{has, list_of_log}
use Rattle.pipe_frame.specs.Ties.{SeenLists}
use Rattle.order_2d.proofs.GrownLogs.{element_within}
use Rattle.order_2d.proofs.two_passes.TwoPasses.is_down_before.Goals as goal

pub precedes-requires-clause-first : goal.precedes-requires-clause-first
precedes-requires-clause-first g c =
    let same = ap (λ (p : SeenLists). p.down_log) c.self.view_is in
    element_within c.self.inside.down.log c.args.x c.self.invariant.0
    (subst (λ (l : List ℕ). has c.args.x (list_of_log l) ≡ true) (sym same) c.requires.first)

pub precedes-requires-clause-second : goal.precedes-requires-clause-second
precedes-requires-clause-second g c =
    let same = ap (λ (p : SeenLists). p.down_log) c.self.view_is in
    element_within c.self.inside.down.log c.args.y c.self.invariant.0
    (subst (λ (l : List ℕ). has c.args.y (list_of_log l) ≡ true) (sym same) c.requires.second)
