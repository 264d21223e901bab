-- The orders of a replayed run.
use Rattle.std.specs.Prelude.{◌↔◌, ℕ, ◌<◌, List, length, map, slice_index_or}
use Rattle.pipe_model.specs.declared.marks.Marks.{Marks}
use Rattle.pipe_model.specs.declared.node.Node.{Node}
use Rattle.pipe_model.specs.declared.node.NodeId.{NodeId}
use Rattle.pipe_model.specs.Orders.OrderList.{IsBeforeIn, list_of_log}
use Rattle.pipe_model.specs.Orders.OrderMarks.{instance_marks, start_marks}
use Rattle.pipe_model.specs.Orders.Starts.{start_at}
use Rattle.pipe_model.specs.Races.Dag.{Precedes}
use Rattle.order_2d.specs.OrderPairs.{OrderPair}

-- the marks of the starts, in order
abbrev pub marks_of_starts : List (List Node) → List NodeId → List NodeId → List Marks
marks_of_starts columns starts nodes = map (λ x. instance_marks columns starts x.iteration x.index) nodes

abbrev pub marks_at : List Marks → ℕ → Marks
marks_at marks m = slice_index_or marks m (start_marks 0 0 0)

-- an instance with the marks a is before one with the marks b in both lists
pub record IsBeforeInLists (o : OrderPair) (a b : Marks) : Type 0 where
  pub down : IsBeforeIn (list_of_log o.down.log) a.down_first b.down_first
  pub right : IsBeforeIn (list_of_log o.right.log) a.right_first b.right_first

-- of any two of the instances, the first is before the second in both lists exactly if it precedes it in the dag
abbrev pub OrdersArePrecedes : List (List Node) → List NodeId → List Marks → OrderPair → Type 0
OrdersArePrecedes columns nodes marks o = (m n : ℕ) → m < length nodes → n < length nodes
    → IsBeforeInLists o (marks_at marks m) (marks_at marks n) ↔ Precedes columns (start_at nodes m) (start_at nodes n)
