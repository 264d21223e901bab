-- Landings in the dag of a pipeline (Lee et al. 2013): the instances of a column that one instance precedes are all
-- those from some index on. That index is moved from column to column; where it lands in the next column depends only on
-- the edges between the two columns.
use Rattle.std.specs.Prelude.{◌≡◌, ℕ, List, ◌<◌, ◌≤◌, length, slice_index}
use Rattle.pipe_model.specs.declared.node.Node.{Node}
use Rattle.pipe_model.specs.Races.Dag.{CrossEdge}

-- an edge leads from index `from` or a later index of the left column to index k of the right column
abbrev pub CrossesFrom : List Node → List Node → ℕ → ℕ → Type 0
CrossesFrom left right from k = (j : ℕ) × (from ≤ j) × CrossEdge left right j k

-- there is no such edge
abbrev pub NoneCross : List Node → List Node → ℕ → ℕ → Type 0
NoneCross left right from k = (j : ℕ) → from ≤ j → CrossEdge left right j k → ⊥

-- the least index of the right column to which such an edge leads, or the length of the column if there is none
pub record IsLanding (left right : List Node) (from landing : ℕ) : Type 0 where
  pub within : landing ≤ length right
  pub crossed : landing < length right → CrossesFrom left right from landing
  pub least : (k : ℕ) → k < landing → NoneCross left right from k

-- the table holds the landing of each index of the left column
pub record AreLandings (left right : List Node) (landings : List ℕ) : Type 0 where
  pub whole : length landings ≡ length left
  pub each : (from : ℕ) → from < length left → IsLanding left right from (slice_index landings from)
