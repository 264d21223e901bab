use Rattle.std.proofs.Common.{◌≡◌, ◌∙◌, ◌≤ℤ◌, ◌++◌, ◌∷◌, [], ℤ, ap, arith, get_or, negsuc, of_z, pos, refl, subst, sym, take, to_z, w64}
use Rattle.std.proofs.lemmas.Int.{ints, to_z-of_z}
use Rattle.std.proofs.lemmas.List.{map-append, take_all, take_more}
use lib.Dec.{T}
use lib.IntN.{nat_abs}
use lib.Signed.{non_neg}
use mir.Val.{Fits}
use Rattle.pipe_span.specs.Entries.{most_weight}
use Rattle.pipe_span.specs.WorkAndSpan.{weight_of_steps, weights_of}
use Rattle.pipe_span.proofs.heaviest.weights.Goals as goal

read_back : (z : ℤ) → pos 0 ≤ℤ z → z ≤ℤ pos most_weight → to_z w64 (of_z w64 z) ≡ z
read_back (pos n) least most = to_z-of_z w64 (pos n) (record { sfits = omega (arith, ints, most) })
read_back (negsuc n) least most = absurd (omega (arith, ints, least))

is_weight : (z : ℤ) → pos 0 ≤ℤ z → nat_abs z ≡ weight_of_steps z
is_weight (pos n) least = refl
is_weight (negsuc n) least = absurd (omega (arith, ints, least))

fits : (z : ℤ) → pos 0 ≤ℤ z → z ≤ℤ pos most_weight → T (non_neg z) × Fits w64 (nat_abs z)
fits (pos n) least most = (tt, omega (arith, ints, most))
fits (negsuc n) least most = absurd (omega (arith, ints, least))

pub overflow_cast-step : goal.overflow_cast-step
overflow_cast-step c =
    let i = c.loop-step.step-index in
    let step = get_or c.args.steps.now i (pos 0) in
    let least = c.requires.least i in
    let most = c.requires.most i in
    subst (λ z. T (non_neg z) × Fits w64 (nat_abs z)) (sym (read_back step least most)) (fits step least most)

pub loop-step-preserved : goal.loop-step-preserved
loop-step-preserved c =
    let steps = c.args.steps.now in
    let i = c.loop-step.step-index in
    let step = get_or steps i (pos 0) in
    let least = c.requires.least i in
    let weight : nat_abs (to_z w64 (of_z w64 step)) ≡ weight_of_steps step = ap nat_abs (read_back step least (c.requires.most i))
    ∙ is_weight step least in
    c.in_ok-push.ensures.items
    ∙ ap (λ l. l ++ nat_abs (to_z w64 (of_z w64 step)) ∷ []) c.loop-step.invariant
    ∙ ap (λ w. weights_of (take i steps) ++ w ∷ []) weight
    ∙ sym (map-append weight_of_steps (take i steps) (step ∷ []))
    ∙ ap weights_of (sym (take_more steps i (pos 0) c.loop-step-test.true))

pub returns : goal.returns
returns c = c.loop-step.invariant ∙ ap weights_of (take_all c.loop-step.step-index c.args.steps.now c.loop-step-test.false)
