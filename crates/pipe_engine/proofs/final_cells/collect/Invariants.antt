use Rattle.std.proofs.Common.{◌≡◌, ◌++◌, List}
use Rattle.cell_store.specs.ShardState.{IsStateAfter}
use Rattle.pipe_engine.specs.FinalCells.{HaveCellsAfter}
use Rattle.pipe_engine.proofs.CollectedCells.{below}
use Rattle.pipe_model.specs.declared.access.Access.{Access}
use Rattle.pipe_model.specs.Pipelines.Store.{InitialStore}
use Rattle.pipe_engine.proofs.final_cells.collect.Given as goal

abbrev pub invariant-loop-cell : goal.invariant-loop-cell
invariant-loop-cell l = record {
  state : (store : InitialStore) (before run : List Access) → IsStateAfter store before l.fn.cells
      → HaveCellsAfter store (before ++ run) l.shards → IsStateAfter store (before ++ below l.cell run) l.cells;
  shard : l.cells.shard ≡ l.fn.cells.shard;
}
