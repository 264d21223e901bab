-- Where an index leads in later columns, landing by landing, and tables of that.
use Rattle.std.specs.Prelude.{◌≡◌, ℕ, List, [], All, ◌+◌, ◌-◌, ◌<◌, length, slice_index, slice_index_or}
use Rattle.dag_build.specs.declared.jumps.Jumps.{Jumps}
use Rattle.dag_landings.specs.Landings.{IsLanding}
use Rattle.pipe_model.specs.declared.node.Node.{Node}
use Rattle.pipe_model.specs.Races.Columns.{nodes_at}

-- index m of column i, moved landing by landing, becomes an index of a later column
pub data MovesTo (columns : List (List Node)) (i m : ℕ) : ℕ → ℕ → Type 0 where
  Stays : MovesTo columns i m i m
  Moves : (t from landing : ℕ) → MovesTo columns i m t from
      → IsLanding (nodes_at columns t) (nodes_at columns (t + 1)) from landing
      → MovesTo columns i m (t + 1) landing

-- the table has for each index of column i where its edges lead `step` columns further
pub record IsJumpTable (columns : List (List Node)) (step i : ℕ) (table : List ℕ) : Type 0 where
  pub whole : length table ≡ length (nodes_at columns i)
  pub moves : (m : ℕ) → m < length table → MovesTo columns i m (i + step) (slice_index table m)

-- there is a table for each column that has another `step` columns further
pub record AreJumps (columns : List (List Node)) (jumps : Jumps) : Type 0 where
  pub positive : 0 < jumps.step
  pub whole : length jumps.tables ≡ length columns - jumps.step
  pub each : (i : ℕ) → i < length jumps.tables → IsJumpTable columns jumps.step i (slice_index_or jumps.tables i [])

-- jumps of increasing steps; the first step is one column
pub record AreLevels (columns : List (List Node)) (levels : List Jumps) : Type 0 where
  pub filled : 0 < length levels
  pub single : (d : Jumps) → (slice_index_or levels 0 d).step ≡ 1
  pub each : All (AreJumps columns) levels
