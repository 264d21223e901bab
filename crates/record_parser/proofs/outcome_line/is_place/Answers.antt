use Rattle.record_parser.specs.OutcomeForms.{AtInstance, InFinal, InInit, IsPlaceText}
use Rattle.std.proofs.Common.{List, ℕ, ◌≡◌, ◌++◌, ◌∷◌}
use Rattle.std.specs.Prelude.{codes}
use Rattle.record_parser.specs.LogForms.{space}
use Rattle.record_parser.specs.OutcomeForms.{IsInstanceText}
use Rattle.record_parser.proofs.Tests.{false_map}
use Rattle.record_parser.proofs.outcome_line.is_place.Goals as goal

no_place : (text : List ℕ) → (text ≡ codes "in init" → ⊥) → (text ≡ codes "in final" → ⊥)
    → ((instance : List ℕ) → IsInstanceText instance → text ≡ codes "at" ++ space ∷ instance → ⊥) → IsPlaceText text → ⊥
no_place text a b d (InInit e) = a e
no_place text a b d (InFinal e) = b e
no_place text a b d (AtInstance instance h e) = d instance h e

pub returns-clause-no : goal.returns-clause-no
returns-clause-no c = false_map c.is_at_instance.result c.is_at_instance.ensures.no (λ no h.
    no_place c.args.bytes.now c.if-is_in_part.ensures.no c.if-is_in_part.ensures.neither no h)
