-- What an access does to a shard.
use Rattle.std.specs.Prelude.{◌≡◌, ◌≢◌, ℕ, ℤ, List, [], ◌∷◌, ◌++◌, ◌+◌, ◌/◌, ◌^◌, ◌<◌, ◌≤◌, length, max, Option, Some, None}
use Rattle.pipe_model.specs.declared.access.Access.{Access}
use Rattle.pipe_model.specs.declared.access.AccessKind.{AccessKind}
use Rattle.pipe_model.specs.declared.node.NodeId.{NodeId}
use Rattle.pipe_model.specs.declared.ticket.Entry.{Entry}
use Rattle.pipe_model.specs.Orders.GrowingLists.{AreIn, KeepsOrder}
use Rattle.pipe_model.specs.Pipelines.Behaviour.{read_access, write_access}
use Rattle.pipe_model.specs.Pipelines.Store.{HasReply, InitialStore}
use Rattle.pipe_model.specs.Races.CellRaces.{NotedAccess, noted_access}
use Rattle.pipe_frame.specs.Ties.{SeenLists}
use Rattle.cell_store.specs.ShardState.{IsStateAfter, IsOfShard}
use Rattle.access_history.specs.declared.history.History.{History}
use Rattle.access_history.specs.declared.history.MarkedNode.{MarkedNode}
use Rattle.access_history.specs.KeptInstances.{AgreeOnKept, IsHistoryAfter, KeepsAmong, KeptAreIn}
use Rattle.access_history.specs.KnownOrder.{AgreeOnKnownKept}
use Rattle.hall_shards.specs.ShardValues.{ShardValue, down_list, right_list, history_at}

-- the access that is asked for: a read of cell c, or a write of a value to it
abbrev pub IsAsked : ℕ → Option ℤ → Access → Type 0
IsAsked c None a = (v : ℤ) × (a ≡ read_access c v)
IsAsked c (Some w) a = a ≡ write_access c w

-- the lists grow
pub record GrowLists (old new : SeenLists) : Type 0 where
  pub identities : (new.down ≡ old.down) × (new.right ≡ old.right)
  pub down : KeepsOrder (down_list old) (down_list new)
  pub right : KeepsOrder (right_list old) (right_list new)

-- an access to cell c can be made
pub record CanBegin (x : ShardValue) (c : ℕ) : Type 0 where
  pub there : c < x.cells.shard.cells
  pub own : IsOfShard x.cells.shard c
  pub slot : c / 16 < length x.histories
  pub kept : KeptAreIn (down_list x.lists) (right_list x.lists) (history_at x.histories (c / 16))

-- one more access is noted, by any orders that agree with the lists, and that have a kept instance before this one where it counts so
-- without a question: above it, or in the left column at an index of at most `joined`
abbrev pub IsNotedStep : MarkedNode → ℕ → AccessKind → SeenLists → History → History → Type 0
IsNotedStep who joined kind old h k = (down right : NodeId → ℕ) → AgreeOnKept (down_list old) (right_list old) down right who h
    → AgreeOnKnownKept (Some joined) down right who.node h
    → (accesses : List NotedAccess) → IsHistoryAfter down right accesses h → IsHistoryAfter down right
    (accesses ++ noted_access who.node kind ∷ []) k

-- one more access is noted in the history at a slot
pub record IsNoted (who : MarkedNode) (joined : ℕ) (kind : AccessKind) (slot : ℕ) (old new : SeenLists)
    (histories after : List History) : Type 0 where
  pub lists : GrowLists old new
  pub len : length after ≡ length histories
  pub others : (n : ℕ) → n ≢ slot → history_at after n ≡ history_at histories n
  pub each : KeepsAmong (history_at histories slot) who (history_at after slot)
  pub step : IsNotedStep who joined kind old (history_at histories slot) (history_at after slot)

-- the access is made, at this ticket
pub record IsAccessed (who : MarkedNode) (joined ticket : ℕ) (a : Access) (x y : ShardValue) : Type 0 where
  pub number : y.number ≡ x.number
  pub part : y.cells.shard ≡ x.cells.shard
  pub cells : (store : InitialStore) (before : List Access) → IsStateAfter store before x.cells
      → IsStateAfter store (before ++ a ∷ []) y.cells
  pub reply : (store : InitialStore) (before : List Access) → IsStateAfter store before x.cells → HasReply store before a
  pub log : y.log ≡ x.log ++ record { ticket = ticket; node = who.node; access = a } ∷ []
  pub last : y.last ≡ ticket
  pub noted : IsNoted who joined a.kind (a.cell.0 / 16) x.lists y.lists x.histories y.histories

-- the same, after the shard's passes have seen what the token's passes had seen
pub record IsMade (who : MarkedNode) (joined ticket : ℕ) (a : Access) (x y : ShardValue) : Type 0 where
  pub met : SeenLists
  pub grown : GrowLists x.lists met
  pub known : AreIn (down_list met) (right_list met) who.marks
  pub accessed : IsAccessed who joined ticket a (record x { lists = met }) y

-- the ticket of an access: one more than the greater of the shard's last ticket and the token's
abbrev pub next_ticket : ℕ → ℕ → ℕ
next_ticket last now = max last now + 1

-- the access that was asked for is made, with the next ticket, and is in the trace
pub record IsMadeNow (who : MarkedNode) (joined now c : ℕ) (write : Option ℤ) (x y : ShardValue) (old new : List Entry)
    (e : Entry) : Type 0 where
  pub asked : IsAsked c write e.access
  pub cell : e.access.cell.0 ≡ c
  pub made : IsMade who joined e.ticket e.access x y
  pub there : c < x.cells.shard.cells
  pub next : e.ticket ≡ next_ticket x.last now
  pub bound : e.ticket ≤ 2 ^ 62
  pub trace : new ≡ old ++ e ∷ []
