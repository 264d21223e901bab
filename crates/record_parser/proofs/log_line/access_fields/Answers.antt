use Rattle.std.proofs.Common.{◌∷◌, ◌++◌}
use Rattle.std.specs.Fmt.{decimal, signed_decimal}
use Rattle.race_report.specs.CellNames.{cell_name}
use Rattle.record_parser.specs.LogForms.{space}
use Rattle.record_parser.proofs.Divisions.{at_first, at_last, never_divided}
use Rattle.record_parser.proofs.FreeFields.{iteration_free, no_digit, no_sign, signed_free}
use Rattle.record_parser.proofs.log_line.access_fields.Goals as goal

pub returns-in_default-clause-none : goal.returns-in_default-clause-none
returns-in_default-clause-none c = λ i x v h.
    never_divided space c.args.bytes.now (decimal i) (cell_name c.args.cells.now x ++ space ∷ signed_decimal v) c.in_default.ensures.none
    h.1.1.1

pub returns-in_default-split_at_last-clause-none : goal.returns-in_default-split_at_last-clause-none
returns-in_default-split_at_last-clause-none c = λ i x v h.
    let others = cell_name c.args.cells.now x ++ space ∷ signed_decimal v in
    let parts = at_first space c.args.bytes.now c.in-Some.first.now c.in-Some.others.now (decimal i) others
    c.in-Some.ensures.parts c.in-Some.ensures.first h.1.1.1 (iteration_free space i h.0 no_digit) in
    never_divided space c.in-Some.others.now (cell_name c.args.cells.now x) (signed_decimal v) c.in_default-split_at_last.ensures.none
    parts.1

pub returns-in_default-iteration_field-clause-none : goal.returns-in_default-iteration_field-clause-none
returns-in_default-iteration_field-clause-none c = λ i x v h.
    let others = cell_name c.args.cells.now x ++ space ∷ signed_decimal v in
    let parts = at_first space c.args.bytes.now c.in-Some.first.now c.in-Some.others.now (decimal i) others
    c.in-Some.ensures.parts c.in-Some.ensures.first h.1.1.1 (iteration_free space i h.0 no_digit) in
    c.in_default-iteration_field.ensures.none i h.0 parts.0

pub returns-in_default-cell_field-clause-none : goal.returns-in_default-cell_field-clause-none
returns-in_default-cell_field-clause-none c = λ i x v h.
    let name = cell_name c.args.cells.now x in
    let parts = at_first space c.args.bytes.now c.in-Some.first.now c.in-Some.others.now (decimal i) (name ++ space ∷ signed_decimal v)
    c.in-Some.ensures.parts c.in-Some.ensures.first h.1.1.1 (iteration_free space i h.0 no_digit) in
    let more = at_last space c.in-Some.others.now c.in-Some-split_at_last.second.now c.in-Some-split_at_last.third.now name
    (signed_decimal v)
    c.in-Some-split_at_last.ensures.parts c.in-Some-split_at_last.ensures.last parts.1 (signed_free space v h.1.1.0 no_digit no_sign) in
    c.in_default-cell_field.ensures.none x h.1.0 more.0

pub returns-in_default-signed_field-clause-none : goal.returns-in_default-signed_field-clause-none
returns-in_default-signed_field-clause-none c = λ i x v h.
    let name = cell_name c.args.cells.now x in
    let parts = at_first space c.args.bytes.now c.in-Some.first.now c.in-Some.others.now (decimal i) (name ++ space ∷ signed_decimal v)
    c.in-Some.ensures.parts c.in-Some.ensures.first h.1.1.1 (iteration_free space i h.0 no_digit) in
    let more = at_last space c.in-Some.others.now c.in-Some-split_at_last.second.now c.in-Some-split_at_last.third.now name
    (signed_decimal v)
    c.in-Some-split_at_last.ensures.parts c.in-Some-split_at_last.ensures.last parts.1 (signed_free space v h.1.1.0 no_digit no_sign) in
    c.in_default-signed_field.ensures.none v h.1.1.0 more.1
