use Rattle.std.proofs.Common.{◌∷◌, ◌++◌, sym, subst, refl}
use Rattle.pipe_model.specs.Texts.{kind_text}
use Rattle.record_parser.specs.LogForms.{space}
use Rattle.record_parser.specs.OutcomeForms.{IsInstanceText}
use Rattle.record_parser.proofs.Divisions.{at_last, never_divided}
use Rattle.record_parser.proofs.FreeFields.{instance_free, kind_free}
use Rattle.record_parser.proofs.outcome_line.without_access.Goals as goal

pub returns-in_default-clause-none : goal.returns-in_default-clause-none
returns-in_default-clause-none c = λ before h.
    never_divided space c.args.bytes.now (before ++ space ∷ kind_text h.kind) h.instance c.in_default.ensures.none h.is

pub returns-then-not-is_instance-clause-none : goal.returns-then-not-is_instance-clause-none
returns-then-not-is_instance-clause-none c = λ before h.
    let parts = at_last space c.args.bytes.now c.in-Some.others.now c.in-Some.instance.now (before ++ space ∷ kind_text h.kind) h.instance
    c.in-Some.ensures.parts c.in-Some.ensures.last h.is (instance_free h.instance h.is_instance) in
    c.if-not-is_instance.ensures.no (subst IsInstanceText (sym parts.1) h.is_instance)

pub returns-in_default-split_at_last-clause-none : goal.returns-in_default-split_at_last-clause-none
returns-in_default-split_at_last-clause-none c = λ before h.
    let parts = at_last space c.args.bytes.now c.in-Some.others.now c.in-Some.instance.now (before ++ space ∷ kind_text h.kind) h.instance
    c.in-Some.ensures.parts c.in-Some.ensures.last h.is (instance_free h.instance h.is_instance) in
    never_divided space c.in-Some.others.now before (kind_text h.kind) c.in_default-split_at_last.ensures.none parts.0

pub returns-in_default-kind_field-clause-none : goal.returns-in_default-kind_field-clause-none
returns-in_default-kind_field-clause-none c = λ before h.
    let parts = at_last space c.args.bytes.now c.in-Some.others.now c.in-Some.instance.now (before ++ space ∷ kind_text h.kind) h.instance
    c.in-Some.ensures.parts c.in-Some.ensures.last h.is (instance_free h.instance h.is_instance) in
    let more = at_last space c.in-Some.others.now c.in-Some-split_at_last.before.now c.in-Some-split_at_last.kind.now before
    (kind_text h.kind)
    c.in-Some-split_at_last.ensures.parts c.in-Some-split_at_last.ensures.last parts.0 (kind_free space h.kind refl) in
    c.in_default-kind_field.ensures.none h.kind more.1
