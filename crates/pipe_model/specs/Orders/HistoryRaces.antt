-- What the access history of a cell must find: the first access that races with an earlier one.
use Rattle.std.specs.Prelude.{◌≡◌, ℕ, List, ◌<◌, Option, Some, None}
use Rattle.pipe_model.specs.declared.node.Node.{Node}
use Rattle.pipe_model.specs.declared.access.NodeAccess.{NodeAccess}
use Rattle.pipe_model.specs.declared.node.NodeId.{NodeId}
use Rattle.pipe_model.specs.Orders.TwoOrders.{down_place, right_place}
use Rattle.pipe_model.specs.Orders.AccessHistory.{FoundRace, found_race}
use Rattle.pipe_model.specs.Races.CellRaces.{NotedAccess, RacesAt, access_at, accesses_to}

-- the race is the first: its access races with the earlier one that it names, and no access before it races
pub record IsEarliestRace (columns : List (List Node)) (accesses : List NotedAccess) (race : FoundRace) : Type 0 where
  pub racy : (k : ℕ) × RacesAt columns accesses race.number k × (access_at accesses k ≡ race.earlier)
  pub first : (n k : ℕ) → n < race.number → RacesAt columns accesses n k → ⊥

-- nothing is found if there is no race, and otherwise the first race
abbrev pub IsRightVerdict : List (List Node) → List NotedAccess → Option FoundRace → Type 0
IsRightVerdict columns accesses None = (n k : ℕ) → RacesAt columns accesses n k → ⊥
IsRightVerdict columns accesses (Some race) = IsEarliestRace columns accesses race

-- what the history of a cell finds, with the two orders of these starts
abbrev pub found_race_of_cell : List (List Node) → List NodeId → List NodeAccess → ℕ → Option FoundRace
found_race_of_cell columns starts accesses cell = found_race (down_place starts) (right_place columns starts) (accesses_to cell accesses)
