use Rattle.std.proofs.Common.{◌≡◌, ap, sym, subst, ◌∙◌, Some, inl, inr, IsSome}
use Rattle.frame_rows.specs.RowsOfFrames.{IsFreeIn, IsFreeBy}
use Rattle.frame_rows.specs.IterationRows.{IterationRow}
use Rattle.frame_rows.proofs.FrameRows.{frame_of_row}
use Rattle.frame_rows.proofs.rows.goes_on.Goals as goal

pub returns-in-Running : goal.returns-in-Running
returns-in-Running g c = λ going fs h.
    let runs = sym c.status.ensures ∙ c.in-Running.is in
    let q = frame_of_row going fs c.args.rows.now c.args.iteration c.args.row.now h c.requires in (
      (λ x. inl (c.args.row.now, c.requires, runs, c.has_token.ensures.0 x)),
      (λ x. elim x [
        | inl y ↦ (let s : c.args.row.now ≡ y.0 = (let z : Some c.args.row.now ≡ Some y.0 = sym c.requires ∙ y.1 in cc) in
            c.has_token.ensures.1 (subst (λ (r : IterationRow _). IsSome r.token) (sym s) y.3))
        | inr f ↦ absurd (subst (IsFreeBy fs c.args.iteration) (sym q.matches.status ∙ runs) (subst (IsFreeIn fs c.args.iteration) q.is f))
      ]),
    )

pub returns-in_default : goal.returns-in_default
returns-in_default g c = λ going fs h. (
  (λ x. inr ((c.may_enter.ensures going fs h).0 x)),
  (λ x. elim x [
    | inl y ↦ (let s : c.args.row.now ≡ y.0 = (let z : Some c.args.row.now ≡ Some y.0 = sym c.requires ∙ y.1 in cc) in
        absurd (c.in_default.not-Running (c.status.ensures ∙ (ap (λ (r : IterationRow _). r.status) s ∙ y.2))))
    | inr f ↦ (c.may_enter.ensures going fs h).1 f
  ]),
)
