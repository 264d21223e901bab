-- Nothing has happened yet.
use Rattle.order_tests.specs.declared.plays.TheConstants.{MOST_ITERATIONS}
use Rattle.order_tests.proofs.PlayedEvents.{nothing_played}
use Rattle.order_tests.proofs.plays.played.Goals as goal

pub loop-m-init : goal.loop-m-init
loop-m-init c = nothing_played MOST_ITERATIONS c.new-3.result c.new.result.items c.new-2.result.items c.new-3.ensures c.new.ensures.items
    c.new-2.ensures.items
