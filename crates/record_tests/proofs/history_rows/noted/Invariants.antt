-- The kept instances are in the lists.
use Rattle.access_history.specs.KeptInstances.{KeptAreIn}
use Rattle.record_tests.proofs.history_rows.noted.Given as goal

abbrev pub invariant-loop-n : goal.invariant-loop-n
invariant-loop-n l = KeptAreIn l.orders.down.now l.orders.right.now l.history
