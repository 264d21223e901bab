-- The part of a store that one of several shards keeps: cell c is in the shard of number c % shards.
use Rattle.std.specs.Prelude.{◌≡◌, ◌≢◌, ◌<◌, ◌%◌, ◌/◌, ℕ, ℤ, pos, List, length, slice_index_or}
use Rattle.pipe_model.specs.declared.access.Access.{Access}
use Rattle.pipe_model.specs.Pipelines.Store.{InitialStore, output_of, value_after, written}

-- a shard of a program: its number, the number of shards, the number of cells in all shards, and how many numbers the program may emit
pub record Shard : Type 0 where
  pub number : ℕ
  pub shards : ℕ
  pub cells : ℕ
  pub output_limit : ℕ

-- the shard keeps cell c
abbrev pub IsOfShard : Shard → ℕ → Type 0
IsOfShard shard c = c % shard.shards ≡ shard.number

-- the shard keeps the output, which is cell 1
abbrev pub HasOutput : Shard → Type 0
HasOutput shard = IsOfShard shard 1

-- another shard keeps the output
abbrev pub HasNoOutput : Shard → Type 0
HasNoOutput shard = 1 % shard.shards ≢ shard.number

-- the values of the shard's cells, in rising order of the cells, and the emitted numbers that it keeps
pub record ShardState : Type 0 where
  pub shard : Shard
  pub values : List ℤ
  pub output : List ℤ

-- the value of cell c, which the shard keeps
abbrev pub value_in : ShardState → ℕ → ℤ
value_in state c = slice_index_or state.values (c / state.shard.shards) (pos 0)

-- the state of a shard after these accesses, which may be to cells of all shards
pub record IsStateAfter (store : InitialStore) (accesses : List Access) (state : ShardState) : Type 0 where
  pub cells : state.shard.cells ≡ length store.values
  pub limit : state.shard.output_limit ≡ store.output_limit
  pub values : (c : ℕ) → c < state.shard.cells → IsOfShard state.shard c → value_in state c ≡ value_after store accesses c
  pub output : HasOutput state.shard → state.output ≡ output_of store accesses

-- `after` writes to cell c what `here` writes to it, and to each other cell what `before` writes
abbrev pub IsWrittenAs : ℕ → List Access → List Access → List Access → Type 0
IsWrittenAs c here before after = (written c after ≡ written c here) × ((d : ℕ) → d ≢ c → written d after ≡ written d before)
