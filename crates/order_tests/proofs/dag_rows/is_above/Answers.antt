use Rattle.std.proofs.Common.{arith, below_more, rules}
use Rattle.order_tests.proofs.dag_rows.is_above.Goals as goal

pub loop-j-preserved : goal.loop-j-preserved
loop-j-preserved c = below_more _ _ c.loop-j.invariant (search rules)

pub returns : goal.returns
returns c = λ j below. c.loop-j.invariant j (omega (arith, below, c.loop-j-test.false))
