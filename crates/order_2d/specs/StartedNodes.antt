-- The instances that have started so far.
use Rattle.std.specs.Prelude.{◌≡◌, ℕ, ℤ, ◌<◌, ◌*◌, ◌^◌, List, [], length, map, take, slice_index_or}
use Rattle.left_parent.specs.declared.started.StartedNode.{StartedNode}
use Rattle.left_parent.specs.Parents.{left_joined, numbers_of}
use Rattle.pipe_model.specs.declared.column.Column.{Column}
use Rattle.pipe_model.specs.declared.node.Node.{Node}
use Rattle.pipe_model.specs.declared.node.NodeId.{NodeId}
use Rattle.pipe_model.specs.Orders.OrderMarks.{instance_marks, start_marks}
use Rattle.pipe_model.specs.Orders.Starts.{AreStarts, start_number}
use Rattle.pipe_model.specs.Orders.TwoOrders.{down_first_taken, log_entries, right_first_taken}
use Rattle.pipe_model.specs.Races.Columns.{AreColumns, IsRising, nodes_at}
use Rattle.order_2d.specs.OrderPairs.{OrderPair}

-- instance k of column i, once it has started
abbrev pub started_node : List (List Node) → List NodeId → ℕ → ℕ → StartedNode
started_node columns starts i k = record { marks = instance_marks columns starts i k; joined = left_joined columns i k }

abbrev pub no_started_node : StartedNode
no_started_node = record { marks = start_marks 0 0 0; joined = 0 }

-- the row of column i; none past the last column
abbrev pub row_at : List (List StartedNode) → ℕ → List StartedNode
row_at rows i = slice_index_or rows i []

abbrev pub node_in : List StartedNode → ℕ → StartedNode
node_in row k = slice_index_or row k no_started_node

-- an empty row for each column
abbrev pub no_rows : List Column → List (List StartedNode)
no_rows columns = map (λ c. []) columns

-- row i has the instances of column i among the first m starts
pub record HasStarted (columns : List (List Node)) (starts : List NodeId) (m : ℕ) (rows : List (List StartedNode)) : Type 0 where
  pub wide : length rows ≡ length columns
  pub there : (i k : ℕ) → start_number starts i k < m → k < length (row_at rows i)
  pub only : (i k : ℕ) → k < length (row_at rows i) → start_number starts i k < m
  pub each : (i k : ℕ) → k < length (row_at rows i) → node_in (row_at rows i) k ≡ started_node columns starts i k

-- the lists of the first m starts, with room for the others
pub record HasLists (columns : List (List Node)) (starts : List NodeId) (m : ℕ) (o : OrderPair) : Type 0 where
  pub down : o.down.log ≡ log_entries (down_first_taken (start_number starts)) 0 (take m starts)
  pub right : o.right.log ≡ log_entries (right_first_taken columns (start_number starts)) 0 (take m starts)
  pub down_room : 2 * length starts < o.down.capacity
  pub right_room : 2 * length starts < o.right.capacity

-- what a replay needs of the columns and of the starts
pub record CanReplay (columns : List (List Node)) (starts : List NodeId) (numbers : List (List ℤ)) : Type 0 where
  pub columns_ok : AreColumns columns
  pub starts_ok : AreStarts columns starts
  pub numbers_ok : numbers ≡ numbers_of columns
  pub rising : (i : ℕ) → IsRising (nodes_at columns i)
  pub bounded : (i : ℕ) → length (nodes_at columns i) < 2 ^ 32
