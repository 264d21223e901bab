-- By which orders the access histories of a shard are right at the end: a shard has seen parts of the book's order lists.
use Rattle.std.specs.Prelude.{ℕ, List}
use Rattle.access_history.specs.declared.history.MarkedNode.{MarkedNode}
use Rattle.access_history.specs.KeptInstances.{AgreeOn}
use Rattle.pipe_frame.specs.HallViews.{BeginsWith}
use Rattle.pipe_model.specs.declared.event.Event.{Event}
use Rattle.pipe_model.specs.declared.node.NodeId.{NodeId}
use Rattle.pipe_model.specs.Orders.GrowingLists.{AreIn}
use Rattle.pipe_model.specs.Orders.OrderList.{list_of_log}
use Rattle.pipe_model.specs.Orders.OrderMarks.{instance_marks}
use Rattle.pipe_model.specs.Orders.Starts.{starts_of}
use Rattle.pipe_model.specs.Orders.TwoOrders.{down_first_log, down_place, right_first_log, right_place}
use Rattle.pipe_model.specs.Runs.ControlRun.{ControlRun}
use Rattle.pipe_model.specs.Runs.RunLogs.{columns_after, state_after}

-- an instance with its marks in the lists of these events
abbrev pub marked : List Event → NodeId → MarkedNode
marked events x = record { node = x; marks = instance_marks (columns_after events) (starts_of events) x.iteration x.index }

-- `down` and `right` are prefixes of the logs of the two lists. For two instances whose elements are in the lists of these prefixes, the
-- orders of the whole lists agree with the lists of the prefixes, as the clauses of a history require.
abbrev pub WholeOrdersAgree : Type 0
WholeOrdersAgree =
    (limit : ℕ) (events : List Event) (down right : List ℕ) (x y : NodeId) → ControlRun limit events (state_after events)
    → BeginsWith (down_first_log (starts_of events)) down → BeginsWith (right_first_log (columns_after events) (starts_of events)) right
    → AreIn (list_of_log down) (list_of_log right) (marked events x).marks → AreIn (list_of_log down) (list_of_log right)
    (marked events y).marks
    → AgreeOn (list_of_log down) (list_of_log right) (down_place (starts_of events))
    (right_place (columns_after events) (starts_of events)) (marked events x)
    (marked events y)
