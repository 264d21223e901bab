use Rattle.std.proofs.Common.{◌∙◌, length, subst, sym, All}
use Rattle.std.proofs.lemmas.Iterator.Adapters.{YieldsList-from_vec}
use Rattle.std.proofs.lemmas.Iterator.Consumers.{YieldsList-turn}
use Rattle.std.proofs.lemmas.List.Elements.{All-push}
use Rattle.run_record.specs.MergedLogs.{ShardRises}
use Rattle.hall_tests.proofs.closing.logs_of.Goals as goal

-- the shard of this turn is the next of the list
pub loop-shard-preserved : goal.loop-shard-preserved
loop-shard-preserved c =
    let gives = c.into_iter-shard-iterator.ensures.into_iter_gives in
    let all = YieldsList-from_vec {s = c.into_iter-shard-iterator.result} c.args.shards.items gives.0 (gives.1 ∙ c.args.shards.ok.0) in
    let next = YieldsList-turn all c.loop-shard.yielded c.loop-shard.shard-iterator c.loop-shard.yielded_by c.next.result c.next.new.self
    c.in-Some.shard c.in-Some.is c.next.ensures.steps in
    let rises = subst (λ shard. ShardRises shard.log) (sym next.1) (c.requires (length c.loop-shard.yielded) c.in-Some.shard next.0) in
    subst (All ShardRises) (sym c.in_ok-push.ensures.items)
    (All-push ShardRises _ _ c.loop-shard.invariant (subst ShardRises (sym c.into_log.ensures) rises))
