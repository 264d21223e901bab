use Rattle.std.proofs.Common.{◌∙◌, List, subst, sym}
use Rattle.std.proofs.lemmas.List.{take_more}
use Rattle.pipe_model.specs.declared.access.Access.{Access}
use Rattle.cell_store.specs.ShardState.{IsStateAfter}
use Rattle.hall_shards.proofs.shard_opening.replay_accesses.Goals as goal

pub loop-access-preserved : goal.loop-access-preserved
loop-access-preserved c = record {
  shard = c.replay_access.ensures.shard ∙ c.loop-access.invariant.shard;
  state = λ store before. subst (λ (l : List Access). IsStateAfter store l c.replay_access.new.cells)
      (sym (take_more c.args.accesses.now c.loop-access.access-index _ c.loop-access-test.true))
      (c.replay_access.ensures.state store _ (c.loop-access.invariant.state store before));
}
