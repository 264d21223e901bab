-- Accesses to a cell by instances that are in two lists, and their first race.
use Rattle.std.specs.Prelude.{◌≡◌, ℕ, List, Option, map, Contains}
use Rattle.access_history.specs.declared.cell_accesses.CellAccess.{CellAccess}
use Rattle.access_history.specs.declared.history.Found.{Found}
use Rattle.access_history.specs.declared.history.MarkedNode.{MarkedNode}
use Rattle.access_history.specs.KeptInstances.{AgreeOn, report_of_race}
use Rattle.pipe_model.specs.declared.node.NodeId.{NodeId}
use Rattle.pipe_model.specs.Orders.AccessHistory.{FoundRace}
use Rattle.pipe_model.specs.Races.CellRaces.{NotedAccess, noted_access}
use Rattle.run_laws.specs.OrderRaces.{IsRightInOrders}

-- the accesses without marks
abbrev pub noted_accesses : List CellAccess → List NotedAccess
noted_accesses accesses = map (λ a. noted_access a.who.node a.kind) accesses

-- the instance makes one of the accesses
pub record IsAmong (accesses : List CellAccess) (w : MarkedNode) : Type 0 where
  pub access : CellAccess
  pub listed : Contains accesses access
  pub same : access.who ≡ w

-- the orders agree with the lists on the instances of any two of the accesses
pub record AgreeOnAll (down_first right_first : List ℕ) (down right : NodeId → ℕ) (accesses : List CellAccess) : Type 0 where
  pub two : (a b : CellAccess) → Contains accesses a → Contains accesses b → AgreeOn down_first right_first down right a.who b.who

-- the report names the first race that the orders define; there is none if there is no race
pub record ReportsFirst (down right : NodeId → ℕ) (accesses : List NotedAccess) (report : Option Found) : Type 0 where
  pub found : Option FoundRace
  pub first : IsRightInOrders down right accesses found
  pub reported : report ≡ report_of_race accesses found
