-- The cells of all shards after a run.
use Rattle.std.specs.Prelude.{◌≡◌, ◌<◌, ℕ, List}
use Rattle.cell_store.specs.ShardState.{IsStateAfter, Shard}
use Rattle.hall_calls.specs.Closing.{shard_in}
use Rattle.hall_shards.specs.ShardValues.{ShardValue}
use Rattle.pipe_model.specs.declared.access.Access.{Access}
use Rattle.pipe_model.specs.Pipelines.Store.{InitialStore}

-- shard k of 16 of the same cells
pub record IsPartOf (all : Shard) (k : ℕ) (part : Shard) : Type 0 where
  pub number : part.number ≡ k
  pub shards : part.shards ≡ 16
  pub cells : part.cells ≡ all.cells
  pub limit : part.output_limit ≡ all.output_limit

abbrev pub ArePartsOf : Shard → List ShardValue → Type 0
ArePartsOf all shards = (k : ℕ) → k < 16 → IsPartOf all k (shard_in shards k).cells.shard

-- each shard has its cells as they are after these accesses
abbrev pub HaveCellsAfter : InitialStore → List Access → List ShardValue → Type 0
HaveCellsAfter store accesses shards = (k : ℕ) → k < 16 → IsStateAfter store accesses (shard_in shards k).cells
