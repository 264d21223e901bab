-- A run has no more starts than events.
use Rattle.std.proofs.Common.{arith}
use Rattle.order_tests.proofs.OwnStarts.{few_starts}
use Rattle.order_tests.proofs.replay_rows.event_count.Goals as goal

pub returns : goal.returns
returns c = let bounded = few_starts c.args.log.now.events in omega (arith, bounded, c.len.ensures)
