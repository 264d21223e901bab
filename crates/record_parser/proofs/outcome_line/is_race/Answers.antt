use Rattle.std.proofs.Common.{sym, subst}
use Rattle.race_report.specs.CellNames.{cell_name}
use Rattle.record_parser.specs.OutcomeForms.{EndsInAccess}
use Rattle.record_parser.proofs.FreeFields.{one_access}
use Rattle.record_parser.proofs.outcome_line.is_race.Goals as goal

pub returns-in_default-clause-no : goal.returns-in_default-clause-no
returns-in_default-clause-no c = λ h. c.in_default.ensures.none h.once h.later

pub returns-in_default-without_access-clause-no : goal.returns-in_default-without_access-clause-no
returns-in_default-without_access-clause-no c = λ h.
    let name = cell_name c.args.cells.now h.cell in
    let same = one_access c.args.bytes.now c.in-Some.once.now h.once c.in-Some.ensures.some h.later in
    c.in_default-without_access.ensures.none name (subst (λ o. EndsInAccess o name) (sym same) h.earlier)

pub returns-in_default-cell_field-clause-no : goal.returns-in_default-cell_field-clause-no
returns-in_default-cell_field-clause-no c = λ h.
    let name = cell_name c.args.cells.now h.cell in
    let same = one_access c.args.bytes.now c.in-Some.once.now h.once c.in-Some.ensures.some h.later in
    let other = one_access c.in-Some.once.now c.in-Some-without_access.name.now name c.in-Some-without_access.ensures.some
    (subst (λ o. EndsInAccess o name) (sym same) h.earlier) in
    c.in_default-cell_field.ensures.none h.cell h.within other
