-- The limits of a program that breaks no rule.
use Rattle.std.proofs.Common.{◌≡◌, ◌≤◌, ◌*◌, ◌*ℤ◌, ℕ, ℤ, zero, suc, pos, negsuc, Bool, true, false, not}
use Rattle.std.proofs.Common.{Option, Some, None, refl, arith, int_lt}
use Rattle.std.proofs.Common.{if◌then◌else◌}
use Rattle.std.specs.Prelude.{◌≤ℤ◌}
use Rattle.std.proofs.lemmas.Bool.Decides.{nat_tests}
use Rattle.std.proofs.lemmas.Int.{ints}
use Rattle.pipe_model.specs.Language.CheckingRules.{Fault, fault_of, first_limit_out, is_between, limit_fault_or}
use Rattle.pipe_model.specs.Language.Programs.{natural}
use Rattle.pipe_model.specs.Language.SyntaxTree.{SyntaxTree}

pub passed : {A : Type 0} (ok : Bool) (v : A) (rest : Option A) → (if not ok then Some v else rest) ≡ None → (ok ≡ true) × (rest ≡ None)
passed true v rest h = (refl, h)
passed false v rest h = absurd (cc)

avoided : {A : Type 0} (bad : Bool) (v : A) (rest : Option A) → (if bad then Some v else rest) ≡ None → (bad ≡ false) × (rest ≡ None)
avoided true v rest h = absurd (cc)
avoided false v rest h = (refl, h)

pub no_limit_out : (o : Option ℕ) (rest : Option Fault) → limit_fault_or o rest ≡ None → o ≡ None
no_limit_out None rest h = refl
no_limit_out (Some which) rest h = absurd (cc)

-- what a book needs of the limits
pub record HasPlannedLimits (iterations stages : ℤ) : Type 0 where
  pub bounded : natural iterations * natural stages ≤ 262144
  pub some_iterations : pos 0 ≤ℤ iterations
  pub some_stages : pos 0 ≤ℤ stages
  pub one_stage : 1 ≤ natural stages

limits_planned : (iterations stages most more : ℤ) → is_between (pos 1) most iterations ≡ true → is_between (pos 1) more stages ≡ true
    → int_lt (pos 262144) (iterations *ℤ stages) ≡ false → HasPlannedLimits iterations stages
limits_planned (pos n) (pos (suc m)) most more a b c = record {
  bounded = grind (arith, nat_tests);
  some_iterations = grind (arith, ints);
  some_stages = grind (arith, ints);
  one_stage = omega arith;
}
limits_planned (pos n) (pos zero) most more a b c = absurd (cc)
limits_planned (pos n) (negsuc m) most more a b c = absurd (cc)
limits_planned (negsuc n) stages most more a b c = absurd (cc)

pub planned_limits : (tree : SyntaxTree) → fault_of tree ≡ None → HasPlannedLimits tree.limits.iterations tree.limits.stages
planned_limits tree h =
    let first = passed _ 1 _ (no_limit_out (first_limit_out tree.limits) _ h) in
    let second = passed _ 2 _ first.1 in
    let third = avoided (int_lt (pos 262144) (tree.limits.iterations *ℤ tree.limits.stages)) 3 _ second.1 in
    limits_planned tree.limits.iterations tree.limits.stages (pos 65536) (pos 4096) first.0 second.0 third.0
