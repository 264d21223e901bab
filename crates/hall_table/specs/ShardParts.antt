-- The parts of a hall's rule that speak of a shard.
use Rattle.std.specs.Prelude.{◌≡◌, ℕ, List, [], ◌∷◌, ◌++◌, ◌+◌, ◌*◌, ◌%◌, ◌^◌, ◌<◌, ◌≤◌, length, Option, Some, AllPairs}
use Rattle.pipe_model.specs.declared.access.Access.{Access}
use Rattle.pipe_model.specs.declared.marks.Marks.{Marks}
use Rattle.pipe_model.specs.declared.node.NodeId.{NodeId}
use Rattle.pipe_model.specs.declared.ticket.ShardEntry.{ShardEntry}
use Rattle.pipe_model.specs.Language.Programs.{store_of}
use Rattle.pipe_model.specs.Language.SyntaxTree.{tree_of}
use Rattle.pipe_model.specs.Orders.GrowingLists.{AreIn}
use Rattle.pipe_model.specs.Orders.Starts.{starts_of, IsStarted}
use Rattle.pipe_model.specs.Pipelines.Store.{HasReply, InitialStore}
use Rattle.pipe_model.specs.Races.DeterminacyRaces.{Among}
use Rattle.pipe_frame.specs.Ties.{SeenLists}
use Rattle.cell_store.specs.ShardState.{IsStateAfter}
use Rattle.access_history.specs.declared.history.History.{History}
use Rattle.access_history.specs.declared.history.MarkedNode.{MarkedNode}
use Rattle.access_history.specs.KeptInstances.{AgreeOn, AllKept, IsHistoryAfter}
use Rattle.access_history.specs.KnownOrder.{AgreeOnKnown}
use Rattle.frame_book.specs.BookStates.{BookState, events_of}
use Rattle.hall_table.specs.SeatViews.{InstanceData}
use Rattle.hall_shards.specs.ShardValues.{ShardValue, down_list, right_list, history_at}
use Rattle.hall_table.specs.Logs.{of_node, of_shard, trace_by, accesses_of, noted_to}
use Rattle.hall_table.specs.BookParts.{joined_in, marks_in}

-- the instance of an entry, with its marks
abbrev pub who_of : (NodeId → Marks) → ShardEntry → MarkedNode
who_of marks e = record { node = e.node; marks = marks e.node }

-- two orders agree with the lists on any two instances of the log
abbrev pub AgreeOnLog : (NodeId → Marks) → SeenLists → List ShardEntry → (NodeId → ℕ) → (NodeId → ℕ) → Type 0
AgreeOnLog marks lists log down right = (e f : ShardEntry) → Among e log → Among f log
    → AgreeOn (down_list lists) (right_list lists) down right (who_of marks e) (who_of marks f)

-- of two instances of the log, the orders have one before the other where an access counts it so without a question to the lists
abbrev pub AgreeOnKnownLog : (NodeId → ℕ) → List ShardEntry → (NodeId → ℕ) → (NodeId → ℕ) → Type 0
AgreeOnKnownLog joined log down right = (e f : ShardEntry) → Among e log → Among f log → AgreeOnKnown
    (Some (joined e.node)) down right e.node f.node

-- a kept instance has made one of the accesses in the log
abbrev pub IsOfLog : (NodeId → Marks) → List ShardEntry → MarkedNode → Type 0
IsOfLog marks log w = (e : ShardEntry) × Among e log × (w ≡ who_of marks e)

-- the history of cell c has noted the accesses in the log, by any two orders that agree with the lists and with what is known without them
pub record IsCellHistory (marks : NodeId → Marks) (joined : NodeId → ℕ) (lists : SeenLists) (log : List ShardEntry) (c : ℕ)
    (h : History) : Type 0 where
  pub kept : AllKept (IsOfLog marks log) h
  pub after : (down right : NodeId → ℕ) → AgreeOnLog marks lists log down right → AgreeOnKnownLog joined log down right
      → IsHistoryAfter down right (noted_to c log) h

-- the ticket of the last entry, or 0
abbrev pub last_of : List ShardEntry → ℕ
last_of [] = 0
last_of (e ∷ []) = e.ticket
last_of (e ∷ (f ∷ es)) = last_of (f ∷ es)

-- a shard after the accesses of its log, and accesses before the run
pub record IsShardOf (before : List Access) (store : InitialStore) (marks : NodeId → Marks) (joined : NodeId → ℕ) (k : ℕ)
    (x : ShardValue) : Type 0 where
  pub number : x.number ≡ k
  pub part : (x.cells.shard.number ≡ k) × (x.cells.shard.shards ≡ 16)
  pub cells : IsStateAfter store (before ++ accesses_of x.log) x.cells
  pub own : (e : ShardEntry) → Among e x.log → e.access.cell.0 % 16 ≡ k
  pub there : (e : ShardEntry) → Among e x.log → e.access.cell.0 < x.cells.shard.cells
  pub replies : (front rest : List ShardEntry) (e : ShardEntry) → x.log ≡ front ++ e ∷ rest
      → HasReply store (before ++ accesses_of front) e.access
  pub rises : AllPairs (λ (a : ShardEntry) (b : ShardEntry). a.ticket < b.ticket) x.log
  pub last : x.last ≡ last_of x.log
  pub most : (e : ShardEntry) → Among e x.log → e.ticket ≤ x.last
  pub bound : x.last ≤ 2 ^ 62
  pub seen : (e : ShardEntry) → Among e x.log → AreIn (down_list x.lists) (right_list x.lists) (marks e.node)
  pub room : x.cells.shard.cells ≤ k + 16 * length x.histories
  pub histories : (slot : ℕ) → IsCellHistory marks joined x.lists x.log (k + 16 * slot) (history_at x.histories slot)

-- both lists have identities
abbrev pub HaveIdentities : SeenLists → Type 0
HaveIdentities l = ((d : ℕ) × (ds : List ℕ) × (l.down ≡ d ∷ ds)) × ((r : ℕ) × (rs : List ℕ) × (l.right ≡ r ∷ rs))

-- shard k beside the book and the seats: it has the entries of their traces, and no others
pub record HasShard (before : List Access) (b : BookState) (seats : ℕ → Option InstanceData) (k : ℕ) (x : ShardValue) : Type 0 where
  pub shard : IsShardOf before (store_of (tree_of b.program)) (marks_in b) (joined_in b) k x
  pub identities : (x.lists.down ≡ b.lists.down) × (x.lists.right ≡ b.lists.right)
  pub named : HaveIdentities x.lists
  pub traces : (i n : ℕ) → of_node i n x.log ≡ of_shard k (trace_by b (seats i) i n)
  pub started : (e : ShardEntry) → Among e x.log → IsStarted (starts_of (events_of b.log)) e.node
