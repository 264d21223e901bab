use Rattle.std.proofs.Common.{◌∙◌, ◌++◌, ◌∷◌, [], ap, map-id, rules, sym}
use Rattle.std.proofs.lemmas.Iterator.Adapters.{YieldsList-from_vec}
use Rattle.std.proofs.lemmas.Iterator.Consumers.{YieldsList-end}
use Rattle.std.proofs.lemmas.List.{map-append}
use Rattle.hall_headline.specs.HallEnds.{logs_of}
use Rattle.hall_shards.specs.ShardValues.{ShardValue}
use Rattle.pipe_engine.proofs.ending.logs_of.Goals as goal

pub loop-shard-preserved : goal.loop-shard-preserved
loop-shard-preserved c =
    c.in_ok-push.ensures.items
    ∙ ap (λ l. l ++ c.into_log.result ∷ []) c.loop-shard.invariant
    ∙ ap (λ x. logs_of c.loop-shard.yielded ++ x ∷ []) c.into_log.ensures
    ∙ sym (map-append (λ (x : ShardValue). x.log) c.loop-shard.yielded (c.in-Some.shard ∷ []))

-- each shard was yielded
pub returns : goal.returns
returns c =
    let end = YieldsList-end (YieldsList-from_vec {s = c.into_iter-shard-iterator.result} c.args.shards.items (search rules) (search rules))
    c.loop-shard.yielded c.loop-shard.shard-iterator c.loop-shard.yielded_by c.next.result c.next.new.self c.in-None.is
    c.next.ensures.steps in
    c.loop-shard.invariant ∙ ap logs_of (sym (map-id c.loop-shard.yielded) ∙ end.0)
