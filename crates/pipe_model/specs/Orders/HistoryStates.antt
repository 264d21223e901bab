-- The access history of a cell as a state that is updated access by access.
use Rattle.std.specs.Prelude.{ℕ, suc, List, [], ◌∷◌, Option, Some, None}
use Rattle.pipe_model.specs.declared.node.NodeId.{NodeId}
use Rattle.pipe_model.specs.Orders.AccessHistory.{AccessHistory, FoundRace, check_access, empty_history, updated_history}
use Rattle.pipe_model.specs.Races.CellRaces.{NotedAccess}

-- the kept instances, the number of the next access, and the first race, if one was found
pub record HistoryState : Type 0 where
  pub kept : AccessHistory
  pub count : ℕ
  pub found : Option FoundRace

abbrev pub empty_state : HistoryState
empty_state = record { kept = empty_history; count = 0; found = None }

-- the race that was found before, or else the race of access n with an earlier one, if there is one
abbrev pub found_or : Option FoundRace → ℕ → Option NotedAccess → Option FoundRace
found_or (Some race) n earlier = Some race
found_or None n None = None
found_or None n (Some earlier) = Some (record { number = n; earlier = earlier })

-- one more access, for two orders of the instances: it is compared with the kept ones before it is kept itself
abbrev pub noted : (NodeId → ℕ) → (NodeId → ℕ) → HistoryState → NotedAccess → HistoryState
noted down right h x = record {
  kept = updated_history down right h.kept x.who x.kind;
  count = suc h.count;
  found = found_or h.found h.count (check_access down right h.kept x.who x.kind);
}

-- the state after more accesses
abbrev pub history_from : (NodeId → ℕ) → (NodeId → ℕ) → HistoryState → List NotedAccess → HistoryState
history_from down right h [] = h
history_from down right h (x ∷ xs) = history_from down right (noted down right h x) xs

-- the state after all accesses to a cell
abbrev pub history_after : (NodeId → ℕ) → (NodeId → ℕ) → List NotedAccess → HistoryState
history_after down right accesses = history_from down right empty_state accesses
