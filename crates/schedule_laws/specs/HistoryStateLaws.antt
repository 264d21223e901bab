-- Laws of the access history of a cell as a state.
use Rattle.std.specs.Prelude.{◌≡◌, ◌++◌, ℕ, List, [], ◌∷◌, length, pos, Some}
use Rattle.pipe_model.specs.declared.access.AccessKind.TheVariants.{Read, Write}
use Rattle.pipe_model.specs.declared.node.Kind.TheVariants.{Zero, Continue}
use Rattle.pipe_model.specs.declared.node.Node.{Node}
use Rattle.pipe_model.specs.declared.node.NodeId.{NodeId}
use Rattle.pipe_model.specs.Orders.AccessHistory.{found_race}
use Rattle.pipe_model.specs.Pipelines.Behaviour.{node_of}
use Rattle.pipe_model.specs.Races.CellRaces.{NotedAccess, noted_access}
use Rattle.pipe_model.specs.Races.Columns.{at}
use Rattle.pipe_model.specs.Races.FirstRaces.{IsFirstRacingPair}
use Rattle.pipe_model.specs.Orders.HistoryStates.{history_after, noted}
use Rattle.pipe_model.specs.Orders.TwoOrders.{down_place, right_place}

-- the state after these accesses has found their first race, and the next access is one step
pub record IsHistoryState (down right : NodeId → ℕ) (accesses : List NotedAccess) : Type 0 where
  pub found : (history_after down right accesses).found ≡ found_race down right accesses
  pub count : (history_after down right accesses).count ≡ length accesses
  pub next : (x : NotedAccess) → history_after down right (accesses ++ x ∷ []) ≡ noted down right (history_after down right accesses) x

abbrev pub HistoriesAreStates : Type 0
HistoriesAreStates = (down right : NodeId → ℕ) (accesses : List NotedAccess) → IsHistoryState down right accesses

-- ---- an example in which the history and the explicit search name different accesses

-- stages 0, 1 and 2 in iteration 0, and stage 0 in iteration 1
abbrev pub twice_columns : List (List Node)
twice_columns = (node_of Zero (pos 0) ∷ node_of Continue (pos 1) ∷ node_of Continue (pos 2) ∷ []) ∷ (node_of Zero (pos 0) ∷ []) ∷ []

-- iteration 0 runs first
abbrev pub twice_starts : List NodeId
twice_starts = at 0 0 ∷ at 0 1 ∷ at 0 2 ∷ at 1 0 ∷ []

-- a cell is written in stage 1 and in stage 2 of iteration 0, and read in iteration 1
abbrev pub twice_accesses : List NotedAccess
twice_accesses = noted_access (at 0 1) Write ∷ noted_access (at 0 2) Write ∷ noted_access (at 1 0) Read ∷ []

-- both find the race at the read: the history names the last write, and the explicit search the first write
pub record SearchesNameDifferentAccesses : Type 0 where
  pub history : found_race (down_place twice_starts) (right_place twice_columns twice_starts) twice_accesses
      ≡ Some (record { number = 2; earlier = noted_access (at 0 2) Write })
  pub explicit : IsFirstRacingPair twice_columns twice_accesses 0 2
