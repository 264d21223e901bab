-- The element is at this index.
use Rattle.record_tests.proofs.ListedElements.{has_at}
use Rattle.record_tests.proofs.listed_orders.is_in.Goals as goal

pub returns-then-x-element : goal.returns-then-x-element
returns-then-x-element c = has_at c.args.list.now c.args.element c.loop-x.x-index 0 c.loop-x-test.true c.if-x-element.true
