use Rattle.std.proofs.Common.{arith}
use Rattle.pipe_lexer.proofs.Numerals.{front_too_wide}
use Rattle.pipe_lexer.proofs.number.number_value.Goals as goal

pub returns-then-value-clause-none : goal.returns-then-value-clause-none
returns-then-value-clause-none c =
    front_too_wide c.args.digits.now c.loop-digit.digit-index c.loop-digit.value (omega arith) c.loop-digit.invariant.so_far (omega arith)
