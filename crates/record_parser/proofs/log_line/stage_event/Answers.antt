use Rattle.std.proofs.Common.{◌≡◌, ℤ, ap₂, sym, subst}
use Rattle.std.proofs.lemmas.Int.{to_z-of_z}
use mir.Syntax.{w64}
use mir.Val.{of_z, to_z}
use Rattle.pipe_model.specs.declared.event.Event.TheVariants as events
use Rattle.record_parser.specs.declared.log_word.LogWord.TheVariants as words
use Rattle.record_parser.specs.LogForms.{Advances, HasFields}
use Rattle.record_parser.proofs.log_line.stage_event.Goals as goal

pub returns-clause-some : goal.returns-clause-some
returns-clause-some c =
    let h = c.in-Some.ensures.some in
    let number : to_z w64 (of_z w64 c.in-Some.f.number) ≡ c.in-Some.f.number = to_z-of_z w64 c.in-Some.f.number h.1.0 in
    subst (HasFields c.args.cells.now c.args.fields.now (words.Stage c.args.kind))
    (sym (ap₂ (λ k (n : ℤ). events.Advance c.in-Some.f.iteration k n) c.kind.ensures number))
    (Advances c.args.kind c.in-Some.f.iteration c.in-Some.f.number h)
