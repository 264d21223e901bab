-- An expression with a binary operator has the marks of its left side, and then the marks of its right side.
use Rattle.std.proofs.Common.{◌≡◌, ◌∙◌, ℕ, Bool, true, false, ◌++◌, ◌==◌, refl, sym, ap, subst, Result, Ok, Err, if◌then◌else◌}
use Rattle.pipe_check.specs.declared.fault.CheckFault.{CheckFault}
use Rattle.pipe_check.specs.Passing.{PassesMarks}
use Rattle.pipe_check.proofs.Faults.{fails_first, passes_then}
use Rattle.pipe_model.specs.Language.Marks.{Scope, marks_of_expression}
use Rattle.pipe_model.specs.Language.SyntaxTree.{Expression, And, Or, Binary, binary_expression}

-- whichever of the three forms the expression has
marks_either : (scope : Scope) (code : ℕ) (a b : Expression) (first second : Bool)
    → marks_of_expression scope (if first then Or a b else (if second then And a b else Binary code a b)) ≡ marks_of_expression scope
    a ++ marks_of_expression scope b
marks_either scope code a b true second = refl
marks_either scope code a b false true = refl
marks_either scope code a b false false = refl

pub marks_joined : (scope : Scope) (code : ℕ) (a b : Expression)
    → marks_of_expression scope (binary_expression code a b) ≡ marks_of_expression scope a ++ marks_of_expression scope b
marks_joined scope code a b = marks_either scope code a b (code == 1) (code == 2)

-- the left side has a fault
pub left_refused : (scope : Scope) (code n : ℕ) (a b whole : Expression) (refusal : CheckFault) → whole ≡ binary_expression code a b
    → PassesMarks (Err refusal) n (marks_of_expression scope a) → PassesMarks (Err refusal) n (marks_of_expression scope whole)
left_refused scope code n a b whole refusal is h =
    subst (λ marks. PassesMarks (Err refusal) n marks) (sym (marks_joined scope code a b) ∙ ap (marks_of_expression scope) (sym is))
    (fails_first refusal n (marks_of_expression scope a) (marks_of_expression scope b) h)

-- the left side passes, and the right side decides
pub right_decides : (scope : Scope) (code n k : ℕ) (a b whole : Expression) (outcome : Result ℕ CheckFault)
    → whole ≡ binary_expression code a b
    → PassesMarks (Ok k) n (marks_of_expression scope a) → PassesMarks outcome k (marks_of_expression scope b)
    → PassesMarks outcome n (marks_of_expression scope whole)
right_decides scope code n k a b whole outcome is h g =
    subst (λ marks. PassesMarks outcome n marks) (sym (marks_joined scope code a b) ∙ ap (marks_of_expression scope) (sym is))
    (passes_then outcome n k (marks_of_expression scope a) (marks_of_expression scope b) h g)
