-- At the beginning no instance is kept.
use Rattle.std.proofs.Common.{[]}
use Rattle.access_history.proofs.NotedAccesses.{noting_begins}
use Rattle.record_tests.proofs.history_rows.noted.Goals as goal

pub loop-n-init : goal.loop-n-init
loop-n-init c = (noting_begins _ _ [] _ c.requires).in_lists
