use Rattle.std.proofs.Common.{◌≡◌, ◌∙◌, subst, ap, refl}
use Rattle.hall_shards.specs.ShardValues.{ShardValue}
use Rattle.hall_shards.specs.Learning.{HasLearned}
use Rattle.hall_calls.specs.Closing.{no_shard, shard_in}
use Rattle.hall_shards.proofs.ListItems.{get_any}
use Rattle.hall_calls.proofs.close.learn_at.Goals as goal

pub learn-requires : goal.learn-requires
learn-requires g c =
    let old : c.index_mut.result.now ≡ shard_in c.args.shards.now.items c.args.k = c.index_mut.ensures.value
    ∙ get_any c.args.shards.now.items c.args.k c.index_mut.result.now no_shard c.requires.there in
    record {
      lists = (
        ap (λ (x : ShardValue). x.lists.down) old ∙ c.requires.lists.0,
        ap (λ (x : ShardValue). x.lists.right) old
            ∙ c.requires.lists.1,
      );
    }

pub returns-clause-learned : goal.returns-clause-learned
returns-clause-learned g c =
    let old : c.index_mut.result.now ≡ shard_in c.args.shards.now.items c.args.k = c.index_mut.ensures.value
    ∙ get_any c.args.shards.now.items c.args.k c.index_mut.result.now no_shard c.requires.there in
    (c.learn.new.self, refl, subst (λ (x : ShardValue). HasLearned c.args.book.now x c.learn.new.self) old c.learn.ensures.learned)
