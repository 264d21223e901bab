-- An instance that an access counts as before its own without a question to the lists is before it in both orders of the book's starts:
-- a path leads from it to the instance of the access.
use Rattle.std.proofs.Common.{◌≡◌, ◌∙◌, ◌<◌, ◌≤◌, ◌==◌, ◌&&◌, ◌||◌, ℕ, suc, true, nat_le, nat_lt, List, Some, inl, inr, subst, arith}
use Rattle.std.proofs.lemmas.Bool.{or_cases}
use Rattle.std.proofs.lemmas.Bool.Decides.{nat_tests}
use Rattle.pipe_model.specs.declared.node.Node.{Node}
use Rattle.pipe_model.specs.declared.node.NodeId.{NodeId}
use Rattle.pipe_model.specs.Orders.LeftParent.{joined_at}
use Rattle.pipe_model.specs.Orders.Starts.{IsStarted, starts_of}
use Rattle.pipe_model.specs.Orders.TwoOrders.{down_place, right_place}
use Rattle.pipe_model.specs.Races.Dag.{Precedes}
use Rattle.pipe_model.specs.Runs.ControlRun.{ControlRun}
use Rattle.pipe_model.specs.Runs.RunLogs.{columns_after}
use Rattle.pipe_frame.specs.RunningTokens.{left_joined}
use Rattle.run_laws.proofs.ListOrders.JoinedPlaces.{reach_here, reach_left}
use Rattle.run_laws.proofs.ListOrders.PrecedingPlaces.{IsBelow, path_below}
use Rattle.run_laws.proofs.ListOrders.Reach.{reach}
use Rattle.run_laws.proofs.ListOrders.RunOrders.{both_orders_of_starts, started_nodes_are_own_nodes}
use Rattle.access_history.specs.KnownOrder.{AgreeOnKnown}
use Rattle.frame_book.specs.BookStates.{BookState, events_of, state_of}
use Rattle.hall_table.specs.BookParts.{joined_in}

-- above it in its column
above_it : (columns : List (List Node)) (i j l : ℕ) → j < l → IsBelow columns i j i l
above_it columns i j l less = record { column = omega arith; place = λ e. less; within = λ e. absurd (omega (arith, e)) }

-- in the column to the left, at an index of at most the joined one
left_of_it : (columns : List (List Node)) (i j l : ℕ) → j ≤ joined_at columns i l → IsBelow columns i j (suc i) l
left_of_it columns i j l most =
    let e : reach columns (suc i) l i ≡ joined_at columns i l = reach_left columns i l i (omega arith)
    ∙ reach_here columns i (joined_at columns i l) in
    record { column = omega arith; place = λ s. absurd (omega (arith, s)); within = λ s. omega (arith, most, e) }

known_below : (columns : List (List Node)) (i j k l : ℕ)
    → (((i == k) && nat_lt j l) || ((suc i == k) && nat_le j (left_joined columns k l))) ≡ true → IsBelow columns i j k l
known_below columns i j k l known = elim (or_cases ((i == k) && nat_lt j l) ((suc i == k) && nat_le j (left_joined columns k l)) known) [
  | inl above ↦ (
      let same : i ≡ k = grind (arith, nat_tests) in
      let less : j < l = grind (arith, nat_tests) in
      subst (λ a. IsBelow columns i j a l) same (above_it columns i j l less))
  | inr left ↦ (
      let next : suc i ≡ k = grind (arith, nat_tests) in
      let most : j ≤ left_joined columns k l = grind (arith, nat_tests) in
      subst (λ a. IsBelow columns i j a l) next (left_of_it columns i j l (rw (← next) at most)))
]

-- the orders of the book's starts agree with what is known
pub known_before : (b : BookState) → ControlRun b.limit (events_of b.log) (state_of b) → (x y : NodeId)
    → IsStarted (starts_of (events_of b.log)) x → IsStarted (starts_of (events_of b.log)) y
    → AgreeOnKnown (Some (joined_in b x)) (down_place (starts_of (events_of b.log)))
    (right_place (columns_after (events_of b.log)) (starts_of (events_of b.log))) x y
known_before b control x y started_x started_y = λ known.
    (let columns = columns_after (events_of b.log) in
    let starts = starts_of (events_of b.log) in
    let h = started_nodes_are_own_nodes.control_runs b.limit (events_of b.log) (state_of b) control in
    let in_x = (h.nodes x).0 started_x in
    let below = known_below columns y.iteration y.index x.iteration x.index known in
    let path : Precedes columns y x = path_below columns h.columns y.iteration y.index x.iteration x.index below in_x.0 in_x.1 in
    let both = (both_orders_of_starts columns starts h.columns h.ordered y x started_y started_x).1 path in
    (both.down, both.right))
