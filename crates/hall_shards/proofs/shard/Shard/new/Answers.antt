use Rattle.std.proofs.Common.{List, subst}
use Rattle.cell_store.specs.ShardState.{IsStateAfter}
use Rattle.pipe_model.specs.declared.access.Access.{Access}
use Rattle.pipe_model.specs.Language.Programs.{store_of}
use Rattle.pipe_model.specs.Language.SyntaxTree.{tree_of}
use Rattle.hall_shards.proofs.shard.Shard.new.Goals as goal

pub returns-clause-cells : goal.returns-clause-cells
returns-clause-cells c =
    let store = store_of (tree_of c.args.checked.now) in
    subst (λ (l : List Access). IsStateAfter store l c.replay_accesses.new.cells) c.as_slice.ensures
    (c.replay_accesses.ensures.state store c.in_ok-cells.ensures.state)
