-- The first index at which the element is.
use Rattle.std.proofs.Common.{sym, arith}
use Rattle.record_tests.proofs.ListedElements.{place_at, place_nowhere}
use Rattle.record_tests.proofs.listed_orders.place_of.Goals as goal

pub returns-then-x-element : goal.returns-then-x-element
returns-then-x-element c = sym
    (place_at c.args.list.now c.args.element c.loop-i.i 0 c.loop-i-test.true c.if-x-element.true c.loop-i.invariant)

pub returns : goal.returns
returns c = sym (place_nowhere c.args.list.now c.args.element (λ j l. c.loop-i.invariant j (omega (arith, l, c.loop-i-test.false))))
