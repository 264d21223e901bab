-- Worked examples of the definitions: edges of the dag, parallel instances, the two lists, races and a serial elision.
use Rattle.std.specs.Prelude.{◌≡◌, ℕ, zero, suc, map, List, [], ◌∷◌, pos, Some, None}
use Rattle.pipe_model.specs.declared.access.Access.{Access}
use Rattle.pipe_model.specs.declared.access.NodeAccess.{NodeAccess}
use Rattle.pipe_model.specs.declared.column.ColumnEnd.TheVariants.{End, Closed}
use Rattle.pipe_model.specs.declared.event.Event.TheVariants as events
use Rattle.pipe_model.specs.declared.node.Kind.TheVariants.{Zero, Wait, Continue}
use Rattle.pipe_model.specs.declared.node.Node.{Node}
use Rattle.pipe_model.specs.declared.node.NodeId.{NodeId}
use Rattle.pipe_model.specs.declared.access.AccessKind.TheVariants.{Write}
use Rattle.pipe_model.specs.Races.Columns.{at, nodes_at}
use Rattle.pipe_model.specs.Pipelines.Behaviour.{Behaviour, Reading, Writing, Staging, Ending, node_of, read_access, write_access}
use Rattle.pipe_model.specs.Pipelines.Pipeline.{Pipeline}
use Rattle.pipe_model.specs.Pipelines.SerialElision.{serial_events}
use Rattle.pipe_model.specs.Races.Dag.{CrossEdge, Edge, Precedes, AreParallel}
use Rattle.pipe_model.specs.declared.status.Status.TheVariants.{Running, Pending}
use Rattle.pipe_model.specs.Runs.Allowed.{HasPassed}
use Rattle.pipe_model.specs.Orders.LeftParent.{left_parent}
use Rattle.pipe_model.specs.Orders.OrderList.{list_of_log}
use Rattle.pipe_model.specs.Orders.TwoOrders.{down_first_log, right_first_log, down_element, right_element}
use Rattle.pipe_model.specs.Races.CellRaces.{noted_access}
use Rattle.pipe_model.specs.Orders.HistoryRaces.{found_race_of_cell}

-- a column with stages 0, 1 and 3, and one to its right that waits in stage 2, which the first one skips
abbrev pub skipping_columns : List (List Node)
skipping_columns =
    (node_of Zero (pos 0) ∷ node_of Continue (pos 1) ∷ node_of Continue (pos 3) ∷ [])
    ∷ (node_of Zero (pos 0) ∷ node_of Wait (pos 2) ∷ []) ∷ []

-- the instance that waits takes its edge from stage 1, the last before the skipped one, and from no other
pub record WaitsForTheStageBefore : Type 0 where
  pub edge : Edge skipping_columns (at 0 1) (at 1 1)
  pub only : (j : ℕ) → CrossEdge (nodes_at skipping_columns 0) (nodes_at skipping_columns 1) j 1 → j ≡ 1
  pub parent : left_parent skipping_columns 1 1 ≡ Some 1

-- so it is parallel to stage 3 of the first column
abbrev pub SkippingStagesAreParallel : Type 0
SkippingStagesAreParallel = AreParallel skipping_columns (at 0 2) (at 1 1)

-- a column with stages 0 and 5, and one to its right that waits in stage 1
abbrev pub redundant_columns : List (List Node)
redundant_columns =
    (node_of Zero (pos 0) ∷ node_of Continue (pos 5) ∷ [])
    ∷ (node_of Zero (pos 0) ∷ node_of Wait (pos 1) ∷ []) ∷ []

-- its edge is from stage 0, which already precedes the instance above it, so that is not the left parent
pub record RedundantEdgeHasNoParent : Type 0 where
  pub edge : Edge redundant_columns (at 0 0) (at 1 1)
  pub above : Precedes redundant_columns (at 0 0) (at 1 0)
  pub none : left_parent redundant_columns 1 1 ≡ None

-- a stage that waits is entered only after its left neighbour has named a greater number; an equal number is not enough
pub record WaitsUntilPassed : Type 0 where
  pub running : HasPassed Running (node_of Zero (pos 0) ∷ node_of Wait (pos 1) ∷ []) (pos 1) → ⊥
  pub pending : HasPassed (Pending Wait (pos 2)) (node_of Zero (pos 0) ∷ node_of Wait (pos 1) ∷ []) (pos 1)

-- two columns that each have the stages 0 and 1 and wait in stage 1
abbrev pub waiting_columns : List (List Node)
waiting_columns =
    (node_of Zero (pos 0) ∷ node_of Wait (pos 1) ∷ []) ∷ (node_of Zero (pos 0) ∷ node_of Wait (pos 1) ∷ []) ∷ []

-- their instances start head by head
abbrev pub waiting_starts : List NodeId
waiting_starts = at 0 0 ∷ at 1 0 ∷ at 0 1 ∷ at 1 1 ∷ []

-- the two lists of these starts, and the elements of the instances in them
pub record ListsOfWaitingColumns : Type 0 where
  pub down : list_of_log (down_first_log waiting_starts) ≡ 0 ∷ 1 ∷ 5 ∷ 6 ∷ 2 ∷ 3 ∷ 7 ∷ 8 ∷ 4 ∷ []
  pub right : list_of_log (right_first_log waiting_columns waiting_starts) ≡ 0 ∷ 1 ∷ 3 ∷ 4 ∷ 2 ∷ 5 ∷ 7 ∷ 8 ∷ 6 ∷ []
  pub down_elements : map (down_element waiting_starts) waiting_starts ≡ 0 ∷ 2 ∷ 1 ∷ 3 ∷ []
  pub right_elements : map (right_element waiting_columns waiting_starts) waiting_starts ≡ 0 ∷ 1 ∷ 2 ∷ 5 ∷ []

-- an access with the instance that makes it
abbrev pub access_of : NodeId → Access → NodeAccess
access_of x a = record { node = x; access = a }

-- (1, 0) writes a cell that (0, 1) then reads: they are parallel, so the history finds a race at the read
abbrev pub ParallelReadIsFound : Type 0
ParallelReadIsFound =
    found_race_of_cell waiting_columns waiting_starts
    (access_of (at 1 0) (write_access 2 (pos 7)) ∷ access_of (at 0 1) (read_access 2 (pos 7)) ∷ []) 2
    ≡ Some (record { number = 1; earlier = noted_access (at 1 0) Write })

-- (0, 1) writes a cell that (1, 1) then reads: the one precedes the other, so the history finds nothing
abbrev pub OrderedReadIsNoRace : Type 0
OrderedReadIsNoRace =
    found_race_of_cell waiting_columns waiting_starts
    (access_of (at 0 1) (write_access 2 (pos 7)) ∷ access_of (at 1 1) (read_access 2 (pos 7)) ∷ []) 2
    ≡ None

-- iteration 0 writes cell 2 and reads it again in stage 1, and iteration 1 closes the loop
abbrev pub two_iterations : ℕ → Behaviour
two_iterations zero = Writing 2 (pos 7) (Staging Wait (pos 1) (Reading 2 (λ v. Ending End)))
two_iterations (suc i) = Ending Closed

-- a pipeline of these iterations
abbrev pub small_pipeline : Pipeline
small_pipeline = record {
  store = record { values = []; output_limit = 0 };
  preamble = [];
  behaviour = two_iterations;
  last_iteration = 1;
}

-- its serial elision as a list of events
abbrev pub SerialEventsOfTwoIterations : Type 0
SerialEventsOfTwoIterations =
    serial_events small_pipeline
    ≡ events.Begin 0
    ∷ events.Access 0 (write_access 2 (pos 7))
    ∷ events.Advance 0 Wait (pos 1)
    ∷ events.Enter 0
    ∷ events.Access 0 (read_access 2 (pos 7))
    ∷ events.Finish 0 End
    ∷ events.Begin 1
    ∷ events.Finish 1 Closed
    ∷ []
