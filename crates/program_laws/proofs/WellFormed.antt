-- Accepted programs are well-formed pipelines.
use Rattle.std.proofs.Common.{◌≡◌, ℕ, zero, suc, ℤ, pos, negsuc, Bool, true, false, not, List, [], Option, Some, None, refl, if◌then◌else◌}
use Rattle.std.specs.Ordering.{int_eq}
use Rattle.std.proofs.lemmas.Bool.Decides.{Decides-int_eq}
use Rattle.pipe_model.specs.declared.column.ColumnEnd.{ColumnEnd}
use Rattle.pipe_model.specs.declared.trap.Trap.TheVariants as traps
use Rattle.pipe_model.specs.Pipelines.Behaviour.{closes_at_once}
use Rattle.pipe_model.specs.Language.Evaluation.{Setting, first_environment, run_iteration}
use Rattle.pipe_model.specs.Language.CheckingRules.{BreaksNoRule, fault_of, is_between, first_limit_out}
use Rattle.pipe_model.specs.Language.Interaction.{Interaction, with_budget}
use Rattle.pipe_model.specs.Pipelines.Pipeline.{AlwaysClosesLoop, IsWellFormed}
use Rattle.pipe_model.specs.Language.Programs.{natural, pipeline_of, setting_of}
use Rattle.pipe_model.specs.Language.SyntaxTree.{Expression, Statements, SyntaxTree}
use Rattle.program_laws.proofs.PlannedLimits.{no_limit_out}
use Rattle.program_laws.proofs.LegalStages.{Rises, RisesReturn, RisesRaise, RisesStep, EndsRightly, either_by_zero, legal-with_budget}
use Rattle.program_laws.proofs.LegalStages.{rises-bind, rises-execute_all, straight-then}
use Rattle.program_laws.proofs.Straight.{IsStraight, Returns, Raises, Steps, Gets, Sets, straight-bind, straight-evaluate}
use Rattle.program_laws.proofs.Straight.{either_by_zero as straight_by_zero}

-- one of two trees after the test, if both rise
rises_either : (first : Bool) (n : ℤ) (b : Bool) (x y : Interaction ColumnEnd) → Rises EndsRightly first n x → Rises EndsRightly first n y
    → Rises EndsRightly first n (if b then x else y)
rises_either first n true x y s t = s
rises_either first n false x y s t = t

-- stage numbers rise from 0 in an iteration, and only its instance 0 ends with Closed
rises-run_iteration : (setting : Setting) (test : Expression) (body : Statements) → Rises EndsRightly true (pos 0)
    (run_iteration setting test body)
rises-run_iteration setting test body =
    straight-then (straight-evaluate setting [] test) (λ v h. RisesStep (either_by_zero v (RisesReturn (λ e. refl))
    (rises_either true (pos 0) (int_eq (pos setting.world.iteration) setting.world.iterations) _ _ (RisesRaise traps.IterLimit)
    (rises-bind (rises-execute_all setting body first_environment true (pos 0) refl) (λ f m env known. RisesReturn (λ e. cc (e)))))))

-- the end closes the loop
abbrev IsClosing : ColumnEnd → Type 0
IsClosing e = closes_at_once e ≡ true

-- a tree that names no stage and returns only ends that close the loop closes the loop
closes-with_budget : {d : Interaction ColumnEnd} (budget left : ℕ) → IsStraight IsClosing d → AlwaysClosesLoop (with_budget budget left d)
closes-with_budget budget left (Returns p) = p
closes-with_budget budget left (Raises t) = refl
closes-with_budget budget zero (Steps s) = refl
closes-with_budget budget (suc left) (Steps s) = closes-with_budget budget left s
closes-with_budget budget left (Gets c s) = λ v. closes-with_budget budget left (s v)
closes-with_budget budget left (Sets c v s) = closes-with_budget budget left s

-- the iteration after the last allowed one names no stage and closes the loop
closes-run_iteration : (setting : Setting) (test : Expression) (body : Statements) → pos setting.world.iteration ≡ setting.world.iterations
    → IsStraight IsClosing (run_iteration setting test body)
closes-run_iteration setting test body last =
    straight-bind (straight-evaluate setting [] test) (λ v h. Steps (straight_by_zero IsClosing v _ _ (Returns refl)
    (let t : int_eq (pos setting.world.iteration) setting.world.iterations ≡ true =
    (Decides-int_eq (pos setting.world.iteration) setting.world.iterations).1 last in
    rw t (Raises traps.IterLimit))))

-- a number between 1 and 65536 equals its natural number
natural_is : (z : ℤ) → is_between (pos 1) (pos 65536) z ≡ true → pos (natural z) ≡ z
natural_is (pos n) h = refl
natural_is (negsuc n) h = cc (h)

-- if no limit is out of its range, the test of the first limit passes
first_in_range : (ok : Bool) (rest : Option ℕ) → (if not ok then Some 1 else rest) ≡ None → ok ≡ true
first_in_range true rest h = refl
first_in_range false rest h = cc (h)

-- the iteration limit of a program without a fault is in its range
iterations_in_range : (tree : SyntaxTree) → fault_of tree ≡ None → is_between (pos 1) (pos 65536) tree.limits.iterations ≡ true
iterations_in_range tree h = first_in_range (is_between (pos 1) (pos 65536) tree.limits.iterations) _
    (no_limit_out (first_limit_out tree.limits) _ h)

-- an accepted program is a well-formed pipeline
pub accepted_is_well_formed : (tree : SyntaxTree) (input : List ℤ) → BreaksNoRule tree → IsWellFormed (pipeline_of tree input)
accepted_is_well_formed tree input a = record {
  legal = λ i. legal-with_budget (natural tree.limits.steps) (natural tree.limits.steps)
      (rises-run_iteration (setting_of tree input i) tree.test tree.body);
  closes =
      let last = natural_is tree.limits.iterations (iterations_in_range tree a.obeys) in
      closes-with_budget (natural tree.limits.steps) (natural tree.limits.steps)
      (closes-run_iteration (setting_of tree input (natural tree.limits.iterations)) tree.test tree.body last);
}
