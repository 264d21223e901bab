-- The events so far are a run.
use Rattle.order_tests.specs.Plays.{IsPlayed}
use Rattle.order_tests.specs.declared.plays.TheConstants.{MOST_ITERATIONS}
use Rattle.order_tests.proofs.plays.played.Given as goal

abbrev pub invariant-loop-m : goal.invariant-loop-m
invariant-loop-m l = IsPlayed MOST_ITERATIONS l.play.events l.play.columns.items l.play.statuses.items
