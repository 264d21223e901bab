-- The instances that are known to be before another, in a run: paths lead from them to it.
use Rattle.std.proofs.Common.{◌≡◌, ◌∙◌, ◌<◌, ◌≤◌, ◌==◌, ◌&&◌, ◌||◌, ℕ, suc, true, nat_le, nat_lt, List, Option, Some, None, IfSome, inl}
use Rattle.std.proofs.Common.{inr, subst, arith}
use Rattle.std.proofs.lemmas.Bool.{or_cases}
use Rattle.std.proofs.lemmas.Bool.Decides.{nat_tests}
use Rattle.access_history.specs.declared.history.History.{History}
use Rattle.access_history.specs.declared.history.MarkedNode.{MarkedNode}
use Rattle.access_history.specs.KeptInstances.{AllKept}
use Rattle.access_history.specs.KnownOrder.{AgreeOnKnown, AgreeOnKnownKept}
use Rattle.left_parent.specs.Parents.{left_joined}
use Rattle.pipe_model.specs.declared.node.Node.{Node}
use Rattle.pipe_model.specs.declared.node.NodeId.{NodeId}
use Rattle.pipe_model.specs.Orders.LeftParent.{joined_at}
use Rattle.pipe_model.specs.Orders.Starts.{AreStarts, IsStarted}
use Rattle.pipe_model.specs.Orders.TwoOrders.{down_place, right_place}
use Rattle.pipe_model.specs.Races.Columns.{AreColumns, IsNodeOf}
use Rattle.pipe_model.specs.Races.Dag.{Precedes}
use Rattle.run_laws.proofs.ListOrders.JoinedPlaces.{reach_here, reach_left}
use Rattle.run_laws.proofs.ListOrders.PrecedingPlaces.{IsBelow, path_below}
use Rattle.run_laws.proofs.ListOrders.Reach.{reach}
use Rattle.run_laws.proofs.ListOrders.RunOrders.{both_orders_of_starts}
use Rattle.race_detection.specs.NotedRuns.{IsMarked}

-- above it in its column
above_it : (columns : List (List Node)) (i j l : ℕ) → j < l → IsBelow columns i j i l
above_it columns i j l less = record { column = omega arith; place = λ e. less; within = λ e. absurd (omega (arith, e)) }

-- in the column to the left, at an index of at most the joined one
left_of_it : (columns : List (List Node)) (i j l : ℕ) → j ≤ joined_at columns i l → IsBelow columns i j (suc i) l
left_of_it columns i j l most =
    let e : reach columns (suc i) l i ≡ joined_at columns i l = reach_left columns i l i (omega arith)
    ∙ reach_here columns i (joined_at columns i l) in
    record { column = omega arith; place = λ s. absurd (omega (arith, s)); within = λ s. omega (arith, most, e) }

known_below : (columns : List (List Node)) (i j k l : ℕ)
    → (((i == k) && nat_lt j l) || ((suc i == k) && nat_le j (left_joined columns k l))) ≡ true → IsBelow columns i j k l
known_below columns i j k l known = elim (or_cases ((i == k) && nat_lt j l) ((suc i == k) && nat_le j (left_joined columns k l)) known) [
  | inl above ↦ (
      let same : i ≡ k = grind (arith, nat_tests) in
      let less : j < l = grind (arith, nat_tests) in
      subst (λ a. IsBelow columns i j a l) same (above_it columns i j l less))
  | inr left ↦ (
      let next : suc i ≡ k = grind (arith, nat_tests) in
      let most : j ≤ left_joined columns k l = grind (arith, nat_tests) in
      subst (λ a. IsBelow columns i j a l) next (left_of_it columns i j l (rw (← next) at most)))
]

-- what is known of one instance holds of the orders of the starts
known_one : (columns : List (List Node)) (starts : List NodeId) → AreColumns columns → AreStarts columns starts
    → ((y : NodeId) → IsNodeOf columns y → IsStarted starts y) → (x y : NodeId) → IsNodeOf columns x → IsNodeOf columns y
    → AgreeOnKnown (Some (left_joined columns x.iteration x.index)) (down_place starts) (right_place columns starts) x y
known_one columns starts ok ordered started x y in_x in_y = λ known.
    let below = known_below columns y.iteration y.index x.iteration x.index known in
    let path : Precedes columns y x = path_below columns ok y.iteration y.index x.iteration x.index below in_x.0 in_x.1 in
    let both = (both_orders_of_starts columns starts ok ordered y x (started y in_y) (started x in_x)).1 path in
    (both.down, both.right)

known_of : (columns : List (List Node)) (starts : List NodeId) → AreColumns columns → AreStarts columns starts
    → ((y : NodeId) → IsNodeOf columns y → IsStarted starts y) → (x : NodeId) → IsNodeOf columns x → (kept : Option MarkedNode)
    → IfSome kept (IsMarked columns starts)
    → IfSome kept (λ y. AgreeOnKnown (Some (left_joined columns x.iteration x.index)) (down_place starts)
    (right_place columns starts) x y.node)
known_of columns starts ok ordered started x in_x None marked = tt
known_of columns starts ok ordered started x in_x (Some y) marked = known_one columns starts ok ordered started x y.node in_x marked.inside

-- the orders of the starts have each kept instance before an instance that it is known to precede
pub known_kept : (columns : List (List Node)) (starts : List NodeId) → AreColumns columns → AreStarts columns starts
    → ((y : NodeId) → IsNodeOf columns y → IsStarted starts y) → (x : NodeId) → IsNodeOf columns x → (h : History)
    → AllKept (IsMarked columns starts) h
    → AgreeOnKnownKept (Some (left_joined columns x.iteration x.index)) (down_place starts) (right_place columns starts) x h
known_kept columns starts ok ordered started x in_x h marked = record {
  writer = known_of columns starts ok ordered started x in_x h.writer marked.writer;
  rightmost = known_of columns starts ok ordered started x in_x h.rightmost marked.rightmost;
  downmost = known_of columns starts ok ordered started x in_x h.downmost marked.downmost;
}
