use Rattle.std.proofs.Common.{◌≡◌, [], take}
use Rattle.cell_store.specs.ShardState.{IsStateAfter}
use Rattle.pipe_model.specs.Pipelines.Store.{InitialStore}
use Rattle.hall_shards.proofs.shard_opening.replay_accesses.Given as goal

abbrev pub invariant-loop-access : goal.invariant-loop-access
invariant-loop-access l = record {
  shard : l.cells.shard ≡ l.initial.cells.shard;
  state : (store : InitialStore) → IsStateAfter store [] l.initial.cells → IsStateAfter store (take l.access-index l.accesses) l.cells;
}
