use Rattle.std.proofs.Common.{◌∙◌, ◌++◌, ◌∷◌, ap, sym, subst, refl}
use Rattle.pipe_model.specs.Texts.{trap_name}
use Rattle.record_parser.specs.LogForms.{space}
use Rattle.record_parser.specs.OutcomeForms.{IsPlaceText}
use Rattle.record_parser.proofs.Divisions.{at_first, never_divided}
use Rattle.record_parser.proofs.FreeFields.{trap_free}
use Rattle.record_parser.proofs.Tests.{false_map, true_map}
use Rattle.record_parser.proofs.outcome_line.is_outcome_trap.Goals as goal

pub returns-in_default-clause-no : goal.returns-in_default-clause-no
returns-in_default-clause-no c = λ h. never_divided space c.args.bytes.now (trap_name h.trap) h.place c.in_default.ensures.none h.is

pub returns-in_default-trap_field-clause-no : goal.returns-in_default-trap_field-clause-no
returns-in_default-trap_field-clause-no c = λ h.
    let parts = at_first space c.args.bytes.now c.in-Some.trap.now c.in-Some.place.now (trap_name h.trap) h.place
    c.in-Some.ensures.parts c.in-Some.ensures.first h.is (trap_free space h.trap refl) in
    c.in_default-trap_field.ensures.none h.trap parts.0

pub returns-clause-yes : goal.returns-clause-yes
returns-clause-yes c = true_map c.is_place.result c.is_place.ensures.yes (λ h. record {
  trap = c.in-Some-trap_field._trap;
  place = c.in-Some.place.now;
  is_place = h;
  is = c.in-Some.ensures.parts ∙ ap (λ t. t ++ space ∷ c.in-Some.place.now) c.in-Some-trap_field.ensures.some;
})

pub returns-clause-no : goal.returns-clause-no
returns-clause-no c = false_map c.is_place.result c.is_place.ensures.no (λ no h.
    let parts = at_first space c.args.bytes.now c.in-Some.trap.now c.in-Some.place.now (trap_name h.trap) h.place
    c.in-Some.ensures.parts c.in-Some.ensures.first h.is (trap_free space h.trap refl) in
    no (subst IsPlaceText (sym parts.1) h.is_place))
