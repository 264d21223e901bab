-- What a run has recorded of a stage instance.
use Rattle.std.specs.Prelude.{◌≡◌, ◌++◌, ◌∷◌, [], List, length, map, drop, Bool, false}
use Rattle.cell_store.specs.ShardState.{IsStateAfter, ShardState}
use Rattle.pipe_model.specs.declared.access.Access.{Access}
use Rattle.pipe_model.specs.declared.access.NodeAccess.{NodeAccess}
use Rattle.pipe_model.specs.declared.node.NodeId.{NodeId}
use Rattle.pipe_model.specs.Pipelines.Store.{HasReply, InitialStore}
use Rattle.pipe_model.specs.Runs.State.{accesses_of}
use Rattle.serial_elision.specs.declared.log.Log.{Log}

-- accesses of an instance
abbrev pub placed : NodeId → List Access → List NodeAccess
placed node accesses = map (λ a. record { node = node; access = a }) accesses

-- each read has the value of its cell at the time of the read
abbrev pub HaveReplies : InitialStore → List Access → List Access → Type 0
HaveReplies store before [] = Unit {0}
HaveReplies store before (a ∷ rest) = HasReply store before a × HaveReplies store (before ++ a ∷ []) rest

-- one shard has all cells
pub record IsWhole (cells : ShardState) : Type 0 where
  pub shards : cells.shard.shards ≡ 1
  pub number : cells.shard.number ≡ 0

-- the accesses that were recorded since then
abbrev pub made_since : Log → Log → List Access
made_since log now = accesses_of (drop (length log.accesses) now.accesses)

-- an instance made these accesses since then, and each read had the value of its cell
pub record Adds (node : NodeId) (log : Log) (accesses : List Access) (now : Log) : Type 0 where
  pub accesses_are : now.accesses ≡ log.accesses ++ placed node accesses
  pub cells : (store : InitialStore) (before : List Access) → IsStateAfter store before log.cells
      → IsStateAfter store (before ++ accesses) now.cells
  pub replies : (store : InitialStore) (before : List Access) → IsStateAfter store before log.cells → HaveReplies store before accesses

-- what a recorder of an instance has, and whether memory ran out
pub record Recording : Type 0 where
  pub log : Log
  pub node : NodeId
  pub full : Bool

-- an instance began with this log, and what is recorded is what it has done since then
pub record IsRecordedFrom (log : Log) (node : NodeId) (r : Recording) : Type 0 where
  pub node_is : r.node ≡ node
  pub whole : IsWhole r.log.cells
  pub shard : r.log.cells.shard ≡ log.cells.shard
  pub adds : r.full ≡ false → Adds node log (made_since log r.log) r.log
