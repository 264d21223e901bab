-- The elements are in the list.
use Rattle.order_2d.proofs.GrownLogs.{element_within}
use Rattle.order_2d.proofs.plain_orders.is_before.Goals as goal

pub before-requires-clause-first : goal.before-requires-clause-first
before-requires-clause-first c = element_within c.args.list.now.log c.args.x c.requires.log c.requires.first

pub before-requires-clause-second : goal.before-requires-clause-second
before-requires-clause-second c = element_within c.args.list.now.log c.args.y c.requires.log c.requires.second
