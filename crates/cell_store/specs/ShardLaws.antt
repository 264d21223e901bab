-- Which accesses leave the state of a shard as it is.
use Rattle.std.specs.Prelude.{◌≡◌, ◌++◌, ◌∷◌, [], List}
use Rattle.pipe_model.specs.declared.access.Access.{Access}
use Rattle.pipe_model.specs.declared.access.AccessKind.TheVariants.{Read}
use Rattle.pipe_model.specs.Pipelines.Store.{InitialStore}
use Rattle.cell_store.specs.ShardState.{IsOfShard, IsStateAfter, ShardState}

-- an access that writes no cell of the shard leaves the shard's state as it is
abbrev pub OtherAccessesChangeNothing : Type 0
OtherAccessesChangeNothing = (store : InitialStore) (before : List Access) (a : Access) (state : ShardState)
    → (IsOfShard state.shard a.cell.0 → a.kind ≡ Read) → IsStateAfter store before state → IsStateAfter store (before ++ a ∷ []) state
