use Rattle.std.proofs.Common.{◌≡◌, ◌∙◌, ap, sym, arith, true, false}
use Rattle.std.specs.Fmt.{decimal}
use Rattle.pipe_model.specs.Language.Lexis.{number_of}
use Rattle.record_parser.specs.PlainDecimals.{is_plain_decimal}
use Rattle.record_parser.proofs.Options.{none_map, some_both}
use Rattle.record_parser.proofs.PlainDecimals.{plain_is_written, value_is, written_is_plain}
use Rattle.record_parser.proofs.numbers.natural_field.Goals as goal

pub returns-then-not-is_plain_decimal-clause-none : goal.returns-then-not-is_plain_decimal-clause-none
returns-then-not-is_plain_decimal-clause-none c = λ n l e.
    let fits = c.ranges.most.fits in
    let plain : is_plain_decimal c.args.bytes.now ≡ true = ap is_plain_decimal e ∙ written_is_plain n (omega (arith, l, fits)) in
    let other : is_plain_decimal c.args.bytes.now ≡ false = sym c.is_plain_decimal.ensures ∙ c.if-not-is_plain_decimal.true in
    let z : true ≡ false = sym plain ∙ other in
    cc

pub returns-clause-some : goal.returns-clause-some
returns-clause-some c =
    let fits = c.ranges.most.fits in
    let plain : is_plain_decimal c.args.bytes.now ≡ true = sym c.is_plain_decimal.ensures ∙ c.if-not-is_plain_decimal.false in
    some_both c.number_up_to.result c.number_up_to.ensures.some c.number_up_to.ensures.within (λ n e l.
    plain_is_written c.args.bytes.now plain (omega (arith, e, l, fits)) ∙ ap decimal (sym e))

pub returns-clause-none : goal.returns-clause-none
returns-clause-none c =
    let fits = c.ranges.most.fits in
    none_map c.number_up_to.result c.number_up_to.ensures.none (λ above n l e.
    let same = ap number_of e ∙ value_is n (omega (arith, l, fits)) in
    omega (arith, same, above, l))
