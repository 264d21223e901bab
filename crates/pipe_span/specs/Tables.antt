-- The table of heaviest paths: a row for each column, an entry for each instance.
use Rattle.std.specs.Prelude.{◌≡◌, ℕ, List, [], ◌∷◌, Option, Some, None, ◌-◌, ◌<◌, ◌≤◌, length, slice_index_or}
use Rattle.pipe_model.specs.declared.node.Node.{Node}
use Rattle.pipe_model.specs.declared.node.NodeId.{NodeId}
use Rattle.pipe_model.specs.Races.Columns.{at, nodes_at}
use Rattle.pipe_span.specs.declared.entry.Entry.{Entry}
use Rattle.pipe_span.specs.declared.entry.Predecessor.{Predecessor}
use Rattle.pipe_span.specs.declared.entry.Predecessor.TheVariants.{Absent, Above, Left}
use Rattle.pipe_span.specs.Entries.{AreEntries, IsBounded, entry_at, weight_in, most_entries}
use Rattle.pipe_span.specs.HeaviestPaths.{IsBefore, instances_before}

-- row i of the table; empty past the last one
abbrev pub row_at : List (List Entry) → ℕ → List Entry
row_at rows i = slice_index_or rows i []

-- the column on the left of column i; empty for column 0
abbrev pub left_nodes : List (List Node) → ℕ → List Node
left_nodes columns i = nodes_at ([] ∷ columns) i

-- the row of that column
abbrev pub left_row : List (List Entry) → ℕ → List Entry
left_row rows i = row_at ([] ∷ rows) i

-- the table of the columns: each entry is right, and none is too great
pub record AreRows (columns : List (List Node)) (weights : List ℕ) (rows : List (List Entry)) : Type 0 where
  pub whole : length rows ≡ length columns
  pub lengths : (i : ℕ) → length (row_at rows i) ≡ length (nodes_at columns i)
  pub each : (i : ℕ) → i < length columns
      → AreEntries (left_nodes columns i) (nodes_at columns i) (left_row rows i) (row_at rows i) weights (instances_before columns i)
  pub below : (i : ℕ) → IsBounded most_entries (row_at rows i)

-- the entry of an instance
abbrev pub entry_to : List (List Entry) → NodeId → Entry
entry_to rows x = entry_at (row_at rows x.iteration) x.index

-- the weight in that entry
abbrev pub weight_to : List (List Entry) → NodeId → ℕ
weight_to rows x = (entry_to rows x).weight

-- the table has an entry for this name
pub record IsIn (rows : List (List Entry)) (x : NodeId) : Type 0 where
  pub column : x.iteration < length rows
  pub index : x.index < length (row_at rows x.iteration)

-- the instance that an entry names as predecessor
abbrev pub predecessor_of : NodeId → Predecessor → Option NodeId
predecessor_of x Absent = None
predecessor_of x Above = Some (at x.iteration (x.index - 1))
predecessor_of x (Left j) = Some (at (x.iteration - 1) j)

-- the entry names an instance as predecessor, or none
pub record HasPredecessor (rows : List (List Entry)) (x : NodeId) : Type 0 where
  pub above : (entry_to rows x).predecessor ≡ Above → 0 < x.index
  pub left : (j : ℕ) → (entry_to rows x).predecessor ≡ Left j → (0 < x.iteration) × (j < length (row_at rows (x.iteration - 1)))

-- the index of the greatest weight in a row, and the first with it
pub record IsFirstHeaviest (row : List Entry) (k : ℕ) : Type 0 where
  pub within : k < length row
  pub most : (m : ℕ) → weight_in row m ≤ weight_in row k
  pub first : (m : ℕ) → m < k → weight_in row m < weight_in row k

-- the first instance in column order with the greatest weight
pub record IsHeaviestLast (rows : List (List Entry)) (x : NodeId) : Type 0 where
  pub within : IsIn rows x
  pub most : (y : NodeId) → weight_to rows y ≤ weight_to rows x
  pub first : (y : NodeId) → IsBefore y x → weight_to rows y < weight_to rows x

-- the table has no more rows, and no more entries in a row, than 32 bits have numbers
pub record AreFew (rows : List (List Entry)) : Type 0 where
  pub columns : length rows ≤ most_entries
  pub instances : (i : ℕ) → length (row_at rows i) ≤ most_entries
