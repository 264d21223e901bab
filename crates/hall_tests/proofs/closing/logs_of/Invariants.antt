use Rattle.std.proofs.Common.{All}
use Rattle.run_record.specs.MergedLogs.{ShardRises}
use Rattle.hall_tests.proofs.closing.logs_of.Given as goal

abbrev pub invariant-loop-shard : goal.invariant-loop-shard
invariant-loop-shard l = All ShardRises l.logs.items
