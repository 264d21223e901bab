-- Fronts of accesses: an index of a column such that all earlier accesses lead to every instance from that index on. An
-- access at or after the front of the accesses that conflict with it races with none of them.
use Rattle.std.specs.Prelude.{◌≡◌, ℕ, List, ◌<◌, ◌≤◌, ◌⊎◌, length, max}
use Rattle.pipe_model.specs.declared.access.AccessKind.{AccessKind}
use Rattle.pipe_model.specs.declared.access.AccessKind.TheVariants.{Read, Write}
use Rattle.pipe_model.specs.declared.node.Node.{Node}
use Rattle.pipe_model.specs.declared.node.NodeId.{NodeId}
use Rattle.pipe_model.specs.Races.CellRaces.{NotedAccess, access_at}
use Rattle.pipe_model.specs.Races.Columns.{nodes_at, at}
use Rattle.pipe_model.specs.Races.Dag.{Precedes}
use Rattle.dag_build.specs.declared.fronts.Fronts.{Fronts}

-- x is y or precedes it
abbrev pub LeadsTo : List (List Node) → NodeId → NodeId → Type 0
LeadsTo columns x y = (x ≡ y) ⊎ Precedes columns x y

-- in column i, x leads to every instance from index m on
pub record LeadsFrom (columns : List (List Node)) (x : NodeId) (i m : ℕ) : Type 0 where
  pub reached : (k : ℕ) → m ≤ k → k < length (nodes_at columns i) → LeadsTo columns x (at i k)

-- the fronts of the first n accesses: the front of the writes, and the front of all accesses
pub record AreFronts (columns : List (List Node)) (noted : List NotedAccess) (n : ℕ) (f : Fronts) : Type 0 where
  pub writes : (k : ℕ) → k < n → (access_at noted k).kind ≡ Write
      → LeadsFrom columns (access_at noted k).who f.column f.writes
  pub accesses : (k : ℕ) → k < n → LeadsFrom columns (access_at noted k).who f.column f.accesses

-- the front of the accesses that conflict with an access of this kind
abbrev pub front_for : Fronts → AccessKind → ℕ
front_for f Read = f.writes
front_for f Write = f.accesses

-- the fronts with one more access of this kind, whose own front in the column is `here`
abbrev pub joined_fronts : Fronts → AccessKind → ℕ → Fronts
joined_fronts f Read here = record f { accesses = max f.accesses here }
joined_fronts f Write here = record f { writes = max f.writes here; accesses = max f.accesses here }
