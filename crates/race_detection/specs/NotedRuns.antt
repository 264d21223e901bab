-- The access histories of a run's cells.
use Rattle.std.specs.Prelude.{◌≡◌, ◌<◌, ℕ, zero, suc, List, [], ◌∷◌, ◌++◌, length, slice_index_or, Option, Some, None, IfSome}
use Rattle.access_history.specs.declared.history.Found.{Found}
use Rattle.access_history.specs.declared.history.History.{History}
use Rattle.access_history.specs.declared.history.MarkedNode.{MarkedNode}
use Rattle.access_history.specs.KeptInstances.{AllKept, IsHistoryAfter, nothing_kept}
use Rattle.left_parent.specs.declared.started.StartedNode.{StartedNode}
use Rattle.order_2d.specs.OrderPairs.{OrderPair}
use Rattle.order_2d.specs.StartedNodes.{HasStarted}
use Rattle.pipe_model.specs.declared.access.CellId.{CellId}
use Rattle.pipe_model.specs.declared.access.NodeAccess.{NodeAccess}
use Rattle.pipe_model.specs.declared.node.Node.{Node}
use Rattle.pipe_model.specs.declared.node.NodeId.{NodeId}
use Rattle.pipe_model.specs.Orders.GrowingLists.{AreIn}
use Rattle.pipe_model.specs.Orders.OrderList.{list_of_log}
use Rattle.pipe_model.specs.Orders.OrderMarks.{instance_marks}
use Rattle.pipe_model.specs.Orders.Starts.{AreStarts, IsStarted}
use Rattle.pipe_model.specs.Orders.TwoOrders.{down_first_log, down_place, right_first_log, right_place}
use Rattle.pipe_model.specs.Races.CellRaces.{NotedAccess, accesses_to}
use Rattle.pipe_model.specs.Races.Columns.{AreColumns, IsNodeOf}
use Rattle.race_report.specs.RaceReports.{IsFoundIn}

-- the instances of a run with these columns, in the order in which they started, and the rows of those of each column
pub record IsReplayOf (columns : List (List Node)) (starts : List NodeId) (rows : List (List StartedNode)) : Type 0 where
  pub started : (x : NodeId) → IsNodeOf columns x → IsStarted starts x
  pub columns_ok : AreColumns columns
  pub starts_ok : AreStarts columns starts
  pub by_columns : HasStarted columns starts (length starts) rows
  pub placed : (x : NodeId) → IsNodeOf columns x
      → AreIn (list_of_log (down_first_log starts)) (list_of_log (right_first_log columns starts))
      (instance_marks columns starts x.iteration x.index)

-- the lists are those of these starts
pub record AreListsOf (columns : List (List Node)) (starts : List NodeId) (o : OrderPair) : Type 0 where
  pub down : o.down.log ≡ down_first_log starts
  pub right : o.right.log ≡ right_first_log columns starts

-- an instance of the columns, with its own marks
pub record IsMarked (columns : List (List Node)) (starts : List NodeId) (w : MarkedNode) : Type 0 where
  pub inside : IsNodeOf columns w.node
  pub marks : w.marks ≡ instance_marks columns starts w.node.iteration w.node.index

-- the history of a cell has noted these accesses to it, with the two orders of these starts
pub record HasNoted (columns : List (List Node)) (starts : List NodeId) (accesses : List NotedAccess) (h : History) : Type 0 where
  pub after : IsHistoryAfter (down_place starts) (right_place columns starts) accesses h
  pub kept : AllKept (IsMarked columns starts) h
  pub report : IfSome h.report (IsFoundIn columns)

-- the history of cell c
abbrev pub history_at : List History → ℕ → History
history_at histories c = slice_index_or histories c nothing_kept

-- each history has noted the accesses to its cell
pub record HaveNoted (columns : List (List Node)) (starts : List NodeId) (accesses : List NodeAccess)
    (histories : List History) : Type 0 where
  pub each : (c : ℕ) → c < length histories → HasNoted columns starts (accesses_to c accesses) (history_at histories c)

-- the histories of cells that were not accessed
abbrev pub nothing_noted : ℕ → List History
nothing_noted zero = []
nothing_noted (suc c) = nothing_noted c ++ nothing_kept ∷ []

-- what the history of a cell has found
abbrev pub found_of : ℕ → Option Found → List (CellId × Found)
found_of c None = []
found_of c (Some race) = (record { 0 = c }, race) ∷ []

-- what the histories of the cells below a number have found
abbrev pub found_below : List History → ℕ → List (CellId × Found)
found_below histories zero = []
found_below histories (suc c) = found_below histories c ++ found_of c (history_at histories c).report
