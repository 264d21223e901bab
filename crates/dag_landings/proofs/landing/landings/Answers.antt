-- Landing after landing.
use Rattle.std.proofs.Common.{◌≡◌, ◌∙◌, ◌∷◌, [], ℕ, List, sym, ap, subst, arith, inl, inr, length, get_or}
use Rattle.std.proofs.lemmas.Bool.{cases_lt}
use Rattle.std.proofs.lemmas.List.{get_or_append_left, get_or_push, length_push}
use Rattle.dag_landings.specs.Landings.{IsLanding}
use Rattle.dag_landings.proofs.landing.landings.Goals as goal

pub landing_from-place-requires-clause-none_before : goal.landing_from-place-requires-clause-none_before
landing_from-place-requires-clause-none_before c = c.loop-from.invariant.1

pub loop-from-preserved : goal.loop-from-preserved
loop-from-preserved c =
    let old = c.loop-from.invariant in
    let table : List ℕ = c.loop-from.table in
    let place : ℕ = c.landing_from-place.result in
    let is = c.landing_from-place.ensures in
    let new = c.in_ok-push.ensures.ok in
    let long : length table ≡ c.loop-from.from = old.2 in
    let longer = ap length new ∙ length_push table place in (
      is.within,
      λ k l j m e. is.least k l j (omega (arith, m)) e,
      omega (arith, longer, long),
      λ n l. elim (cases_lt n c.loop-from.from) [
        | inl less ↦ subst (IsLanding c.args.left.now c.args.right.now n)
            (sym (ap (λ t. get_or t n 0) new ∙ get_or_append_left table (place ∷ []) 0 n (omega (arith, less, long)))) (old.3 n less)
        | inr past ↦ (
            let here : c.loop-from.from ≡ n = omega (arith, l, past) in
            subst (IsLanding c.args.left.now c.args.right.now n)
            (sym (ap (λ t. get_or t n 0) new ∙ get_or_push table place 0 n (omega (arith, here, long))))
            (subst (λ m. IsLanding c.args.left.now c.args.right.now m place) here is))
      ],
    )
