-- A plan after an instance.
use Rattle.std.proofs.Common.{◌≡◌, ℕ, ℤ, List, [], ◌∷◌, ◌++◌, refl, ◌∙◌, ap}
use Rattle.pipe_model.specs.Language.Programs.{pipeline_of}
use Rattle.pipe_model.specs.Language.SyntaxTree.{SyntaxTree}
use Rattle.pipe_model.specs.Pipelines.Behaviour.{Behaviour}
use Rattle.pipe_frame.specs.Replies.{after_instance, after_instances}
use Rattle.book_tests.specs.declared.plan.Plan.{Plan}
use Rattle.book_tests.specs.PlanStates.{IsPlanAt, IsPlanOf, left_in}
use Rattle.book_tests.specs.declared.program.Source.{Source}
use Rattle.book_tests.specs.ScriptPrograms.{IsSmall, tree_of_source, waits_of}
use Rattle.book_tests.proofs.ScriptBehaviours.{iterations_are_known}

after_instances-push : (d : Behaviour) (replies : List (List ℤ)) (r : List ℤ) → after_instances d (replies ++ r ∷ []) ≡ after_instance
    (after_instances d replies) r
after_instances-push d [] r = refl
after_instances-push d (x ∷ replies) r = after_instances-push (after_instance d x) replies r

-- it is for the same programs
pub same_programs : (tree : SyntaxTree) (old new : Plan) → (new.turns ≡ old.turns) × (new.waits ≡ old.waits) × (new.stages ≡ old.stages)
    → IsPlanOf tree old → IsPlanOf tree new
same_programs tree old new same h input i =
    h input i ∙ rw (same.0, same.1, same.2) refl

-- it is at the next instance
pub plan_goes_on : (tree : SyntaxTree) (input : List ℤ) (old new : Plan) (i : ℕ) (replies : List (List ℤ)) (r : List ℤ)
    → (new.turns ≡ old.turns) × (new.waits ≡ old.waits) × (new.stages ≡ old.stages) → r ≡ [] → after_instance (left_in old) [] ≡ left_in new
    → IsPlanAt tree input old i replies → IsPlanAt tree input new i (replies ++ r ∷ [])
plan_goes_on tree input old new i replies r same none next h = (
  same_programs tree old new same h.0,
  after_instances-push ((pipeline_of tree input).behaviour i) replies r
      ∙ (ap (λ xs. after_instance (after_instances ((pipeline_of tree input).behaviour i) replies) xs) none
      ∙ (ap (λ d. after_instance d []) h.1 ∙ next)),
)

-- the plan of a source is one of its program
pub plan_of_source : (s : Source) → IsSmall s → (tree : SyntaxTree) → tree ≡ tree_of_source s → (m : Plan)
    → (m.turns ≡ s.turns) × (m.waits ≡ waits_of s.three) × (m.stages ≡ s.stages) → IsPlanOf tree m
plan_of_source s small tree is m same input i =
    rw (is) (iterations_are_known s small input i ∙ rw (same.0, same.1, same.2) refl)
