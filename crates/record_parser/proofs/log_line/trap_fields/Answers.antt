use Rattle.std.specs.Fmt.{decimal}
use Rattle.pipe_model.specs.Texts.{trap_name}
use Rattle.record_parser.specs.LogForms.{space}
use Rattle.record_parser.proofs.Divisions.{at_first, never_divided}
use Rattle.record_parser.proofs.FreeFields.{iteration_free, no_digit}
use Rattle.record_parser.proofs.log_line.trap_fields.Goals as goal

pub returns-in_default-clause-none : goal.returns-in_default-clause-none
returns-in_default-clause-none c = λ i t h. never_divided space c.args.bytes.now (decimal i) (trap_name t) c.in_default.ensures.none h.1

pub returns-in_default-iteration_field-clause-none : goal.returns-in_default-iteration_field-clause-none
returns-in_default-iteration_field-clause-none c = λ i t h.
    let parts = at_first space c.args.bytes.now c.in-Some.first.now c.in-Some.second.now (decimal i) (trap_name t)
    c.in-Some.ensures.parts c.in-Some.ensures.first h.1 (iteration_free space i h.0 no_digit) in
    c.in_default-iteration_field.ensures.none i h.0 parts.0

pub returns-in_default-trap_field-clause-none : goal.returns-in_default-trap_field-clause-none
returns-in_default-trap_field-clause-none c = λ i t h.
    let parts = at_first space c.args.bytes.now c.in-Some.first.now c.in-Some.second.now (decimal i) (trap_name t)
    c.in-Some.ensures.parts c.in-Some.ensures.first h.1 (iteration_free space i h.0 no_digit) in
    c.in_default-trap_field.ensures.none t parts.1
