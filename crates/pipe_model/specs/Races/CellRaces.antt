-- The accesses to one cell, and the races among them.
use Rattle.std.specs.Prelude.{◌≡◌, ℕ, List, [], ◌∷◌, ◌<◌, length, slice_index_or, ◌==◌, if◌then◌else◌, ◌⊎◌}
use Rattle.pipe_model.specs.declared.access.AccessKind.{AccessKind}
use Rattle.pipe_model.specs.declared.access.AccessKind.TheVariants.{Read, Write}
use Rattle.pipe_model.specs.declared.access.NodeAccess.{NodeAccess}
use Rattle.pipe_model.specs.declared.node.Node.{Node}
use Rattle.pipe_model.specs.declared.node.NodeId.{NodeId}
use Rattle.pipe_model.specs.Races.Columns.{at}
use Rattle.pipe_model.specs.Races.Dag.{AreParallel}

-- an access to a cell: its instance and its kind
pub record NotedAccess : Type 0 where
  pub who : NodeId
  pub kind : AccessKind

abbrev pub noted_access : NodeId → AccessKind → NotedAccess
noted_access who kind = record { who = who; kind = kind }

-- access n, counted from 0
abbrev pub access_at : List NotedAccess → ℕ → NotedAccess
access_at accesses n = slice_index_or accesses n (noted_access (at 0 0) Read)

-- the accesses to a cell, in order
abbrev pub accesses_to : ℕ → List NodeAccess → List NotedAccess
accesses_to cell [] = []
accesses_to cell (x ∷ xs) = if x.access.cell.0 == cell then noted_access x.node x.access.kind ∷ accesses_to cell xs else accesses_to cell xs

-- one of the two is a write
abbrev pub KindsConflict : AccessKind → AccessKind → Type 0
KindsConflict a b = (a ≡ Write) ⊎ (b ≡ Write)

-- access n races with the earlier access k: they conflict, and their instances are parallel
pub record RacesAt (columns : List (List Node)) (accesses : List NotedAccess) (n k : ℕ) : Type 0 where
  pub within : n < length accesses
  pub earlier : k < n
  pub conflict : KindsConflict (access_at accesses k).kind (access_at accesses n).kind
  pub parallel : AreParallel columns (access_at accesses k).who (access_at accesses n).who
