use Rattle.std.proofs.Common.{◌∙◌, ◌+◌, ap, sym, arith}
use Rattle.pipe_model.specs.Language.Lexis.{number_of}
use Rattle.record_parser.proofs.PlainDecimals.{value_is}
use Rattle.record_parser.proofs.SignedDecimals.{negative_is}
use Rattle.record_parser.proofs.numbers.negative_field.Goals as goal

pub returns-in_default-clause-none : goal.returns-in_default-clause-none
returns-in_default-clause-none c = λ z fits e.
    let n = negative_is z c.args.bytes.now fits e in
    c.in_default.ensures.none (n.0 + 1) n.1.1.0 n.1.1.1

pub returns-then-magnitude-eq0-clause-none : goal.returns-then-magnitude-eq0-clause-none
returns-then-magnitude-eq0-clause-none c = λ z fits e.
    let n = negative_is z c.args.bytes.now fits e in
    let within = n.1.1.0 in
    let zero_is = c.if-magnitude-eq0.true in
    let one = value_is (n.0 + 1) (omega (arith, within)) in
    let other = value_is c.in-Some.magnitude (omega (arith, zero_is)) in
    let same = ap number_of (sym n.1.1.1 ∙ c.in-Some.ensures.some) in
    omega (arith, one, other, same, zero_is)
