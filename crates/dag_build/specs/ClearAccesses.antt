-- Accesses of which no two race, found by the fronts of each cell's accesses.
use Rattle.std.specs.Prelude.{◌+◌, ◌++◌, ◌∷◌, ℕ, List, [], length, slice_index_or}
use Rattle.pipe_model.specs.declared.access.NodeAccess.{NodeAccess}
use Rattle.pipe_model.specs.declared.node.Node.{Node}
use Rattle.pipe_model.specs.Races.CellRaces.{NotedAccess, accesses_to}
use Rattle.pipe_model.specs.Races.FirstRaces.{RacesWithNone}
use Rattle.dag_build.specs.AccessFronts.{AreFronts}
use Rattle.dag_build.specs.declared.fronts.Fronts.{Fronts}
use Rattle.dag_build.specs.RacingAccesses.{CellHasNoRace}

-- the fronts of a cell without accesses
abbrev pub no_fronts : Fronts
no_fronts = record { column = 0; writes = 0; accesses = 0 }

-- another access to the cell races with none before it, and the fronts are those with it
pub record IsClearWith (columns : List (List Node)) (noted : List NotedAccess) (x : NotedAccess) (f : Fronts) : Type 0 where
  pub fronts : AreFronts columns (noted ++ x ∷ []) (length noted + 1) f
  pub clear : RacesWithNone columns (noted ++ x ∷ []) (length noted)

-- the table has for each cell the fronts of the accesses to it, of which no two race
pub record AreClear (columns : List (List Node)) (accesses : List NodeAccess) (table : List Fronts) : Type 0 where
  pub fronts : (c : ℕ) → AreFronts columns (accesses_to c accesses) (length (accesses_to c accesses)) (slice_index_or table c no_fronts)
  pub clear : (c : ℕ) → CellHasNoRace columns (accesses_to c accesses)
