-- Races of the accesses to one cell.
use Rattle.std.specs.Prelude.{ℕ, List, map}
use Rattle.pipe_model.specs.declared.access.NodeAccess.{NodeAccess}
use Rattle.pipe_model.specs.declared.node.Node.{Node}
use Rattle.pipe_model.specs.Races.CellRaces.{NotedAccess, noted_access, KindsConflict}
use Rattle.pipe_model.specs.Races.Dag.{AreParallel}
use Rattle.pipe_model.specs.Races.FirstRaces.{RacesWithNone}

-- the accesses without cell and value
abbrev pub noted_all : List NodeAccess → List NotedAccess
noted_all accesses = map (λ a. noted_access a.node a.access.kind) accesses

-- no two of these accesses, all to one cell, race
abbrev pub CellHasNoRace : List (List Node) → List NotedAccess → Type 0
CellHasNoRace columns accesses = (later : ℕ) → RacesWithNone columns accesses later

-- the two accesses to one cell race
pub record AreRacing (columns : List (List Node)) (a b : NodeAccess) : Type 0 where
  pub conflict : KindsConflict a.access.kind b.access.kind
  pub parallel : AreParallel columns a.node b.node
