-- Races as defined by any two total orders of the instances, and the law that the history of a cell finds the first of them.
use Rattle.std.specs.Prelude.{ℕ, ◌≡◌, ◌<◌, ◌⊎◌, List, length}
use Rattle.std.specs.declared.option.Option.{Option}
use Rattle.std.specs.declared.option.Option.TheVariants.{None, Some}
use Rattle.pipe_model.specs.Orders.AccessHistory.{FoundRace, found_race}
use Rattle.pipe_model.specs.Races.CellRaces.{NotedAccess, access_at, KindsConflict}
use Rattle.pipe_model.specs.declared.node.NodeId.{NodeId}

-- y is x, or before x in both orders
abbrev pub IsOrdered : (NodeId → ℕ) → (NodeId → ℕ) → NodeId → NodeId → Type 0
IsOrdered down right y x = (y ≡ x) ⊎ ((down y < down x) × (right y < right x))

-- access n has an earlier conflicting access k of another instance that is not before it in both orders
pub record RacesInOrders (down right : NodeId → ℕ) (accesses : List NotedAccess) (n k : ℕ) : Type 0 where
  pub within : n < length accesses
  pub earlier : k < n
  pub conflict : KindsConflict (access_at accesses k).kind (access_at accesses n).kind
  pub apart : IsOrdered down right (access_at accesses k).who (access_at accesses n).who → ⊥

-- the orders distinguish the instances of the accesses
pub record AreOrders (down right : NodeId → ℕ) (accesses : List NotedAccess) : Type 0 where
  pub down_apart : (n k : ℕ) → n < length accesses → k < length accesses
      → down (access_at accesses n).who ≡ down (access_at accesses k).who
      → (access_at accesses n).who ≡ (access_at accesses k).who
  pub right_apart : (n k : ℕ) → n < length accesses → k < length accesses
      → right (access_at accesses n).who ≡ right (access_at accesses k).who
      → (access_at accesses n).who ≡ (access_at accesses k).who

-- the race is the first that the orders define
pub record IsFirstInOrders (down right : NodeId → ℕ) (accesses : List NotedAccess) (race : FoundRace) : Type 0 where
  pub racy : (k : ℕ) × RacesInOrders down right accesses race.number k × (access_at accesses k ≡ race.earlier)
  pub first : (n k : ℕ) → n < race.number → RacesInOrders down right accesses n k → ⊥

-- what is found is the first race that the orders define
abbrev pub IsRightInOrders : (NodeId → ℕ) → (NodeId → ℕ) → List NotedAccess → Option FoundRace → Type 0
IsRightInOrders down right accesses None = (n k : ℕ) → RacesInOrders down right accesses n k → ⊥
IsRightInOrders down right accesses (Some race) = IsFirstInOrders down right accesses race

-- the history finds the first race, for any two total orders of the instances
abbrev pub HistoriesOfOrders : Type 0
HistoriesOfOrders =
    (down right : NodeId → ℕ) (accesses : List NotedAccess) → AreOrders down right accesses
    → IsRightInOrders down right accesses (found_race down right accesses)
