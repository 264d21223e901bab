use Rattle.std.proofs.Common.{◌≡◌}
use Rattle.hall_headline.specs.HallEnds.{logs_of}
use Rattle.pipe_engine.proofs.ending.logs_of.Given as goal

abbrev pub invariant-loop-shard : goal.invariant-loop-shard
invariant-loop-shard l = l.logs.items ≡ logs_of l.yielded
