use Rattle.std.proofs.Common.{arith}
use Rattle.pipe_io.proofs.DigitValues.{prefix_too_wide}
use Rattle.pipe_io.proofs.decimal.number_up_to.Goals as goal

pub returns-then-next-from-clause-none : goal.returns-then-next-from-clause-none
returns-then-next-from-clause-none c =
    prefix_too_wide c.args.digits.now c.loop-digit.digit-index c.loop-digit.value c.args.most (omega arith) c.loop-digit.invariant.so_far
    (omega arith)
