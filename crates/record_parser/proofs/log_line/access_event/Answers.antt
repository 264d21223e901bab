use Rattle.std.proofs.Common.{◌≡◌, ℤ, ap, sym, subst}
use Rattle.std.proofs.lemmas.Int.{to_z-of_z}
use mir.Syntax.{w64}
use mir.Val.{of_z, to_z}
use Rattle.pipe_model.specs.declared.event.Event.TheVariants as events
use Rattle.record_parser.specs.declared.log_word.LogWord.TheVariants as words
use Rattle.record_parser.specs.LogForms.{Accesses, HasFields}
use Rattle.record_parser.proofs.log_line.access_event.Goals as goal

pub returns-clause-some : goal.returns-clause-some
returns-clause-some c =
    let h = c.in-Some.ensures.some in
    let value : to_z w64 (of_z w64 c.in-Some.f.value) ≡ c.in-Some.f.value = to_z-of_z w64 c.in-Some.f.value h.1.1.0 in
    subst (HasFields c.args.cells.now c.args.fields.now (words.Access c.args.kind))
    (sym (ap (λ (v : ℤ). events.Access c.in-Some.f.iteration (record { cell = c.in-Some.f.cell; kind = c.args.kind; value = v })) value))
    (Accesses c.args.kind c.in-Some.f.iteration c.in-Some.f.cell.0 c.in-Some.f.value h)
