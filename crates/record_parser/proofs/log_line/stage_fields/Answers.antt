use Rattle.std.specs.Fmt.{decimal, signed_decimal}
use Rattle.record_parser.specs.LogForms.{space}
use Rattle.record_parser.proofs.Divisions.{at_first, never_divided}
use Rattle.record_parser.proofs.FreeFields.{iteration_free, no_digit}
use Rattle.record_parser.proofs.log_line.stage_fields.Goals as goal

pub returns-in_default-clause-none : goal.returns-in_default-clause-none
returns-in_default-clause-none c = λ i n h. never_divided space c.args.bytes.now (decimal i)
    (signed_decimal n) c.in_default.ensures.none h.1.1

pub returns-in_default-iteration_field-clause-none : goal.returns-in_default-iteration_field-clause-none
returns-in_default-iteration_field-clause-none c = λ i n h.
    let parts = at_first space c.args.bytes.now c.in-Some.first.now c.in-Some.second.now (decimal i) (signed_decimal n)
    c.in-Some.ensures.parts c.in-Some.ensures.first h.1.1 (iteration_free space i h.0 no_digit) in
    c.in_default-iteration_field.ensures.none i h.0 parts.0

pub returns-in_default-signed_field-clause-none : goal.returns-in_default-signed_field-clause-none
returns-in_default-signed_field-clause-none c = λ i n h.
    let parts = at_first space c.args.bytes.now c.in-Some.first.now c.in-Some.second.now (decimal i) (signed_decimal n)
    c.in-Some.ensures.parts c.in-Some.ensures.first h.1.1 (iteration_free space i h.0 no_digit) in
    c.in_default-signed_field.ensures.none n h.1.0 parts.1
