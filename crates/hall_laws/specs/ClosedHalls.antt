-- A closed hall: what is known of its book and of the logs of its shards, as plain data. `before` is the list of accesses that were made
-- before the hall was opened, those of `init`.
use Rattle.std.specs.Prelude.{◌≡◌, ℕ, suc, List, [], ◌∷◌, ◌++◌, Bool, true, false, ◌==◌, ◌&&◌, ◌%◌, ◌<◌, length, map, filter, All}
use Rattle.pipe_model.specs.declared.access.Access.{Access}
use Rattle.pipe_model.specs.declared.node.NodeId.{NodeId}
use Rattle.pipe_model.specs.declared.ticket.Entry.{Entry}
use Rattle.pipe_model.specs.declared.ticket.ShardEntry.{ShardEntry}
use Rattle.pipe_model.specs.Language.Programs.{store_of}
use Rattle.pipe_model.specs.Language.SyntaxTree.{tree_of}
use Rattle.pipe_model.specs.Pipelines.Behaviour.{Performs}
use Rattle.pipe_model.specs.Pipelines.Store.{HasReply, InitialStore}
use Rattle.pipe_model.specs.Races.Columns.{nodes_at}
use Rattle.pipe_model.specs.Runs.Allowed.{IsRunning}
use Rattle.pipe_model.specs.Runs.ControlRun.{ControlRun}
use Rattle.pipe_model.specs.Runs.State.{own_columns}
use Rattle.pipe_model.specs.Runs.TicketOrder.{TicketsRiseInLogs}
use Rattle.frame_book.specs.BookStates.{BookState, IsOut, actions_at, events_of, item_or, last_ticket, made, pipeline_in, state_of}
use Rattle.run_record.specs.MergedLogs.{shard_at}

-- ---- the entries of an instance, in a shard and in its trace

abbrev pub is_same_node : NodeId → NodeId → Bool
is_same_node x y = (x.iteration == y.iteration) && (x.index == y.index)

-- an entry of a shard, as it is in the trace of its instance
abbrev pub entry_in_trace : ShardEntry → Entry
entry_in_trace e = record { ticket = e.ticket; access = e.access }

-- the entries of an instance in the log of a shard
abbrev pub entries_of_instance : NodeId → List ShardEntry → List Entry
entries_of_instance x log = map entry_in_trace (filter (λ (e : ShardEntry). is_same_node e.node x) log)

-- the entries of a trace whose cells are in shard k of `width` shards
abbrev pub entries_of_shard : ℕ → ℕ → List Entry → List Entry
entries_of_shard width k trace = filter (λ (t : Entry). t.access.cell.0 % width == k) trace

-- the trace of an instance in the book; empty while its token is out
abbrev pub trace_of : BookState → NodeId → List Entry
trace_of v x = item_or [] (item_or [] v.traces x.iteration) x.index

-- the token of the instance is out: the instance is the last of an iteration whose token is out
pub record IsOutInstance (v : BookState) (x : NodeId) : Type 0 where
  pub out : IsOut v x.iteration
  pub last : length (nodes_at (own_columns (state_of v)) x.iteration) ≡ suc x.index

abbrev pub NoTokenIsOut : BookState → Type 0
NoTokenIsOut v = (i : ℕ) → IsOut v i → ⊥

-- each shard has the accesses to its cells that are in the trace of an instance whose token is not out, in the same order and with the same
-- tickets, and no others of this instance
abbrev pub EntriesAreTraces : BookState → List (List ShardEntry) → Type 0
EntriesAreTraces v shards =
    (x : NodeId) (k : ℕ) → k < length shards → (IsOutInstance v x → ⊥)
    → entries_of_instance x (shard_at shards k) ≡ entries_of_shard (length shards) k (trace_of v x)

-- ---- the cells

-- each read has the value that its cell has after `before` and the accesses before it in the log
abbrev pub ReadsAreRight : InitialStore → List Access → List ShardEntry → Type 0
ReadsAreRight store before [] = Unit {0}
ReadsAreRight store before (e ∷ es) = HasReply store before e.access × ReadsAreRight store (before ++ e.access ∷ []) es

-- ---- all together

-- the facts that `Book::entries` ensures: the events of the book are a run of the control part, each iteration has done what its program
-- does, and if the run was not stopped, a token that is out belongs to a running instance
pub record IsSoundBook (v : BookState) : Type 0 where
  pub control : ControlRun v.limit (events_of v.log) (state_of v)
  pub performs : (i : ℕ) → Performs ((pipeline_in v).behaviour i) (actions_at v i)
  pub out : (state_of v).stopped ≡ false → (i : ℕ) → IsOut v i → IsRunning (state_of v) i

-- the logs of the shards, next to the book's log; accesses to cell c are in shard c modulo the number of shards
pub record HasShardLogs (v : BookState) (before : List Access) (shards : List (List ShardEntry)) : Type 0 where
  pub some : 0 < length shards
  pub traces : EntriesAreTraces v shards
  pub tickets : TicketsRiseInLogs v.log (shard_at shards) (made v.traces)
  pub reads : All (ReadsAreRight (store_of (tree_of v.program)) before) shards

-- if the run was stopped, the ticket of `Stop` is greater than all tickets of the shards
abbrev pub StopIsLast : BookState → List (List ShardEntry) → Type 0
StopIsLast v shards = (state_of v).stopped ≡ true → All (All (λ (e : ShardEntry). e.ticket < last_ticket v.log)) shards

pub record ClosedHall (v : BookState) (before : List Access) (shards : List (List ShardEntry)) : Type 0 where
  pub book : IsSoundBook v
  pub logs : HasShardLogs v before shards
  pub stop : StopIsLast v shards
