use Rattle.std.proofs.Common.{◌≡◌, ◌∙◌, ◌++◌, ◌∷◌, ap, sym, subst, refl, true, false}
use Rattle.std.specs.Prelude.{codes}
use Rattle.record_parser.specs.LogForms.{space}
use Rattle.record_parser.specs.OutcomeForms.{AtInstance, IsInstanceText}
use Rattle.record_parser.proofs.Divisions.{at_first, never_divided}
use Rattle.record_parser.proofs.FreeFields.{free_by_test}
use Rattle.record_parser.proofs.Tests.{false_map, true_map}
use Rattle.record_parser.proofs.outcome_line.is_at_instance.Goals as goal

pub returns-in_default-clause-no : goal.returns-in_default-clause-no
returns-in_default-clause-no c = λ instance h e. never_divided space c.args.bytes.now (codes "at") instance c.in_default.ensures.none e

pub returns-then-not-is_at-clause-no : goal.returns-then-not-is_at-clause-no
returns-then-not-is_at-clause-no c = λ instance h e.
    let parts = at_first space c.args.bytes.now c.in-Some.first.now c.in-Some.second.now (codes "at") instance c.in-Some.ensures.parts
    c.in-Some.ensures.first e
    (free_by_test space (codes "at") refl) in
    let z : true ≡ false = sym (c.is_at.ensures.1 parts.0) ∙ c.if-not-is_at.true in
    cc

pub returns-clause-yes : goal.returns-clause-yes
returns-clause-yes c = true_map c.is_instance.result c.is_instance.ensures.yes (λ h.
    AtInstance c.in-Some.second.now h (c.in-Some.ensures.parts ∙ ap (λ w. w ++ space ∷ c.in-Some.second.now)
    (c.is_at.ensures.0 c.if-not-is_at.false)))

pub returns-clause-no : goal.returns-clause-no
returns-clause-no c = false_map c.is_instance.result c.is_instance.ensures.no (λ no instance h e.
    let parts = at_first space c.args.bytes.now c.in-Some.first.now c.in-Some.second.now (codes "at") instance c.in-Some.ensures.parts
    c.in-Some.ensures.first e
    (free_by_test space (codes "at") refl) in
    no (subst IsInstanceText (sym parts.1) h))
