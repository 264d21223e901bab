use Rattle.std.specs.Fmt.{decimal, signed_decimal}
use Rattle.record_parser.specs.OutcomeForms.{slash}
use Rattle.record_parser.proofs.Divisions.{at_first, never_divided}
use Rattle.record_parser.proofs.FreeFields.{iteration_free, no_digit_slash}
use Rattle.record_parser.proofs.outcome_line.is_instance.Goals as goal

pub returns-in_default-clause-no : goal.returns-in_default-clause-no
returns-in_default-clause-no c = λ h. never_divided slash c.args.bytes.now (decimal h.iteration)
    (signed_decimal h.number) c.in_default.ensures.none h.is

pub returns-in_default-iteration_field-clause-no : goal.returns-in_default-iteration_field-clause-no
returns-in_default-iteration_field-clause-no c = λ h.
    let parts = at_first slash c.args.bytes.now c.in-Some.first.now c.in-Some.second.now (decimal h.iteration) (signed_decimal h.number)
    c.in-Some.ensures.parts c.in-Some.ensures.first h.is (iteration_free slash h.iteration h.within no_digit_slash) in
    c.in_default-iteration_field.ensures.none h.iteration h.within parts.0

pub returns-in_default-signed_field-clause-no : goal.returns-in_default-signed_field-clause-no
returns-in_default-signed_field-clause-no c = λ h.
    let parts = at_first slash c.args.bytes.now c.in-Some.first.now c.in-Some.second.now (decimal h.iteration) (signed_decimal h.number)
    c.in-Some.ensures.parts c.in-Some.ensures.first h.is (iteration_free slash h.iteration h.within no_digit_slash) in
    c.in_default-signed_field.ensures.none h.number h.fits parts.1
