-- No limit of a program that breaks no rule is out of its range.
use Rattle.std.proofs.Common.{◌≡◌, ◌≤ℤ◌, ℕ, ℤ, pos, Bool, true, false, not, ◌&&◌, Option, Some, None, if◌then◌else◌, int_lt, refl, arith}
use Rattle.pipe_model.specs.declared.bounds.TheConstants.{MOST_ITERATIONS, MOST_STAGES, MOST_INSTANCES, MOST_STEPS, MOST_EMITS}
use Rattle.std.proofs.Math.IntN.{◌*ℤ◌}
use Rattle.pipe_model.specs.declared.tree.Limits.{Limits}
use Rattle.pipe_model.specs.Language.CheckingRules.{is_between, first_limit_out}
use Rattle.stage_code.specs.LimitRanges.{HasRangesOfLimits}

-- a test that finds nothing passes, and so do those after it
passed : (out : Bool) (which : ℕ) (rest : Option ℕ) → (if out then Some which else rest) ≡ None → (out ≡ false) × (rest ≡ None)
passed false which rest h = (refl, h)
passed true which rest h = absurd (let e : Some which ≡ None = h in cc (e))

at_most : (a b : ℤ) → int_lt b a ≡ false → a ≤ℤ b
at_most a b h = grind (arith, h)

between : (low high z : ℤ) → not (is_between low high z) ≡ false → (low ≤ℤ z) × (z ≤ℤ high)
between low high z h = by (int_lt z low) (int_lt high z) h (λ e. at_most low z e) (λ e. at_most z high e)
  where
    by : (low_out high_out : Bool) → not (not low_out && not high_out) ≡ false → (low_out ≡ false → low ≤ℤ z)
        → (high_out ≡ false → z ≤ℤ high)
        → (low ≤ℤ z) × (z ≤ℤ high)
    by false false h a b = (a refl, b refl)
    by true high_out h a b = absurd (let e : true ≡ false = h in cc (e))
    by false true h a b = absurd (let e : true ≡ false = h in cc (e))

pub limits_in_range : (limits : Limits) → first_limit_out limits ≡ None → pos 0 ≤ℤ limits.emits → HasRangesOfLimits limits
limits_in_range limits h some =
    let iterations = passed (not (is_between (pos 1) MOST_ITERATIONS limits.iterations)) 1 _ h in
    let stages = passed (not (is_between (pos 1) MOST_STAGES limits.stages)) 2 _ iterations.1 in
    let instances = passed (int_lt MOST_INSTANCES (limits.iterations *ℤ limits.stages)) 3 _ stages.1 in
    let steps = passed (not (is_between (pos 1) MOST_STEPS limits.steps)) 4 _ instances.1 in
    let emits = passed (int_lt MOST_EMITS limits.emits) 5 None steps.1 in
    record {
      iterations = between (pos 1) MOST_ITERATIONS limits.iterations iterations.0;
      stages = between (pos 1) MOST_STAGES limits.stages stages.0;
      steps = between (pos 1) MOST_STEPS limits.steps steps.0;
      emits = (some, at_most limits.emits MOST_EMITS emits.0);
    }
