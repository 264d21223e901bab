-- The marks of an assignment to an element: its name, its index, and its value.
use Rattle.std.proofs.Common.{ℕ, List, [], ◌∷◌, ◌++◌, Result, Ok, Err}
use Rattle.pipe_check.specs.declared.fault.CheckFault.{CheckFault}
use Rattle.pipe_check.specs.Passing.{PassesMarks}
use Rattle.pipe_check.proofs.Faults.{fails_first, passes_then}
use Rattle.pipe_model.specs.Language.Marks.{Scope, mark_at, Indexed, marks_of_expression, marks_of_statement}
use Rattle.pipe_model.specs.Language.SyntaxTree.{Expression, AssignElement}

-- the index has a fault
pub index_refused : (scope : Scope) (n k : ℕ) (x : List ℕ) (i e : Expression) (refusal : CheckFault)
    → PassesMarks (Ok k) n (mark_at scope (Indexed x) ∷ [])
    → PassesMarks (Err refusal) k (marks_of_expression scope i) → PassesMarks (Err refusal) n
    (marks_of_statement scope (AssignElement x i e))
index_refused scope n k x i e refusal p q =
    passes_then (Err refusal) n k (mark_at scope (Indexed x) ∷ []) (marks_of_expression scope i ++ marks_of_expression scope e) p
    (fails_first refusal k (marks_of_expression scope i) (marks_of_expression scope e) q)

-- the name and the index pass, and the value decides
pub value_decides : (scope : Scope) (n k j : ℕ) (x : List ℕ) (i e : Expression) (outcome : Result ℕ CheckFault)
    → PassesMarks (Ok k) n (mark_at scope (Indexed x) ∷ [])
    → PassesMarks (Ok j) k (marks_of_expression scope i) → PassesMarks outcome j (marks_of_expression scope e)
    → PassesMarks outcome n (marks_of_statement scope (AssignElement x i e))
value_decides scope n k j x i e outcome p q r =
    passes_then outcome n k (mark_at scope (Indexed x) ∷ []) (marks_of_expression scope i ++ marks_of_expression scope e) p
    (passes_then outcome k j (marks_of_expression scope i) (marks_of_expression scope e) q r)
