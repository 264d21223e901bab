-- Entries of the table of heaviest paths: a column's entries, from the entries of the column on its left.
use Rattle.std.specs.Prelude.{◌≡◌, ℕ, ℤ, List, Option, Some, None, ◌+◌, ◌*◌, ◌<◌, ◌≤◌, ◌≤ℤ◌, ◌<ℤ◌, length, slice_index_or}
use Rattle.pipe_model.specs.declared.node.Node.{Node}
use Rattle.pipe_model.specs.Races.Columns.{node_at}
use Rattle.pipe_model.specs.Races.Dag.{CrossEdge}
use Rattle.pipe_span.specs.declared.entry.Entry.{Entry}
use Rattle.pipe_span.specs.declared.entry.Predecessor.TheVariants.{Absent, Above, Left}

-- the most steps of an instance that a program may allow
abbrev pub most_weight : ℕ
most_weight = 1000000

-- the most instances of all columns together: as many as 32 bits have numbers
abbrev pub most_entries : ℕ
most_entries = 4294967296

-- the first `count` instances have numbers up to s, and the others do not
pub record IsCountUpTo (left : List Node) (s : ℤ) (count : ℕ) : Type 0 where
  pub within : count ≤ length left
  pub before : (k : ℕ) → k < count → (node_at left k).number ≤ℤ s
  pub after : (k : ℕ) → count ≤ k → k < length left → s <ℤ (node_at left k).number

-- the instance of the left column from which an edge leads to instance k, if there is one
pub record IsLeft (left right : List Node) (k : ℕ) (j : Option ℕ) : Type 0 where
  pub edge : (i : ℕ) → j ≡ Some i → CrossEdge left right i k
  pub only : (i : ℕ) → CrossEdge left right i k → j ≡ Some i

-- the value of `entry_at` past the end of a row
abbrev pub no_entry : Entry
no_entry = record { weight = 0; predecessor = Absent }

-- entry k of a row
abbrev pub entry_at : List Entry → ℕ → Entry
entry_at row k = slice_index_or row k no_entry

-- the weight in entry k of a row; 0 past its end
abbrev pub weight_in : List Entry → ℕ → ℕ
weight_in row k = (entry_at row k).weight

-- the entry of the next instance of a column, which has weight w and this left parent, after the entries `row` of those above it
pub record IsNextEntry (left_row row : List Entry) (left : Option ℕ) (w : ℕ) (b : Entry) : Type 0 where
  pub alone : w ≤ b.weight
  pub above : (m : ℕ) → length row ≡ m + 1 → weight_in row m + w ≤ b.weight
  pub across : (j : ℕ) → left ≡ Some j → weight_in left_row j + w ≤ b.weight
  pub absent : b.predecessor ≡ Absent → (length row ≡ 0) × (b.weight ≡ w) × (left ≡ None)
  pub from_above : b.predecessor ≡ Above → (m : ℕ) × (length row ≡ m + 1) × (b.weight ≡ weight_in row m + w)
  pub from_left : (j : ℕ) → b.predecessor ≡ Left j → (left ≡ Some j) × (b.weight ≡ weight_in left_row j + w)
      × ((m : ℕ) → length row ≡ m + 1 → weight_in row m < weight_in left_row j)

-- entry k of a row, whose instance has weight w
pub record IsEntry (left right : List Node) (left_row row : List Entry) (w k : ℕ) : Type 0 where
  pub alone : w ≤ weight_in row k
  pub above : (m : ℕ) → k ≡ m + 1 → weight_in row m + w ≤ weight_in row k
  pub across : (j : ℕ) → CrossEdge left right j k → weight_in left_row j + w ≤ weight_in row k
  pub absent : (entry_at row k).predecessor ≡ Absent → (k ≡ 0) × (weight_in row k ≡ w) × ((j : ℕ) → CrossEdge left right j k → ⊥)
  pub from_above : (entry_at row k).predecessor ≡ Above → (m : ℕ) × (k ≡ m + 1) × (weight_in row k ≡ weight_in row m + w)
  pub from_left : (j : ℕ) → (entry_at row k).predecessor ≡ Left j → CrossEdge left right j k × (weight_in row k ≡ weight_in left_row j + w)
      × ((m : ℕ) → k ≡ m + 1 → weight_in row m < weight_in left_row j)

-- the entries of a column, the weights of whose instances begin at index `first`
pub record AreEntries (left right : List Node) (left_row row : List Entry) (weights : List ℕ) (first : ℕ) : Type 0 where
  pub each : (k : ℕ) → k < length row → IsEntry left right left_row row (slice_index_or weights (first + k) 0) k

-- no weight in the row is above the greatest weight of n instances
pub record IsBounded (n : ℕ) (row : List Entry) : Type 0 where
  pub each : (k : ℕ) → weight_in row k ≤ most_weight * n

-- no instance weighs more than a program may allow
pub record AreWeights (weights : List ℕ) : Type 0 where
  pub each : (k : ℕ) → slice_index_or weights k 0 ≤ most_weight
