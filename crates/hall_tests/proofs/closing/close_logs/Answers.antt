use Rattle.std.proofs.Common.{arith, subst}
use Rattle.std.proofs.lemmas.List.{get_or_default}
use Rattle.hall_calls.specs.Closing.{no_shard}
use Rattle.run_record.specs.MergedLogs.{ShardRises}
use Rattle.hall_tests.proofs.closing.close_logs.Goals as goal

pub logs_with-requires-clause-shards : goal.logs_with-requires-clause-shards
logs_with-requires-clause-shards g c = λ k d less.
    let count = c.in_ok-book.ensures.len in
    let shard = c.in_ok-book.ensures.ended.closed.has_shards k (omega (arith, less, count)) in
    subst (λ x. ShardRises x.log) (get_or_default c.in_ok-book.field-0.shards.items k no_shard d less) shard.shard.rises
