-- The text of a statement, part by part.
use Rattle.std.proofs.Common.{◌≡◌, ℕ, ◌+◌, ◌<◌, List, [], ◌∷◌, ◌++◌, append_assoc, length, replicate, codes, ◌==◌}
use Rattle.std.proofs.Common.{true, false, Result, Ok, Err, OnOk, arith}
use Rattle.std.proofs.lemmas.Bool.Decides.{nat_tests}
use Rattle.std.proofs.lemmas.List.{append-nil}
use Rattle.pipe_model.specs.declared.tree.Stmt.{Stmt}
use Rattle.pipe_model.specs.Language.CanonicalText.{else_text, expression_text, line, statement_text, statements_text}
use Rattle.pipe_model.specs.Language.SyntaxTree.{Expression, If, While, Statements, statements_of}

-- a consequence of a fact about the value of `Ok` holds of it too
pub on_ok : {A E P Q : Type 0} (r : Result A E) → (P → Q) → OnOk r P → OnOk r Q
on_ok (Ok x) f h = f h
on_ok (Err e) f h = h

-- a loop: its opening line, its block, and the line that closes it
pub while_by_parts : (n : ℕ) (e : Expression) (body : Statements) (before opened filled closed : List ℕ)
    → opened ≡ before ++ (replicate n 32 ++ (codes "while (" ++ (expression_text e ++ codes ") {\n")))
    → filled ≡ opened ++ statements_text (n + 2) body → closed ≡ filled ++ line n (codes "}")
    → closed ≡ before ++ statement_text n (While e body)
while_by_parts n e body before opened filled closed a b c = rw (c, b, a) (simp append_assoc)

-- an `if`: the same, with an `else` part before the line that closes it
pub if_by_parts : (n : ℕ) (e : Expression) (then other : Statements) (before opened filled chosen closed : List ℕ)
    → opened ≡ before ++ (replicate n 32 ++ (codes "if (" ++ (expression_text e ++ codes ") {\n")))
    → filled ≡ opened ++ statements_text (n + 2) then
    → chosen ≡ filled ++ else_text n other (statements_text (n + 2) other)
    → closed ≡ chosen ++ line n (codes "}") → closed ≡ before ++ statement_text n (If e then other)
if_by_parts n e then other before opened filled chosen closed a b c d = rw (d, c, b, a) (simp append_assoc)

-- an `else` part that is not empty
pub else_by_parts : (n : ℕ) (other : List Stmt) (filled opened chosen : List ℕ) → 0 < length other
    → opened ≡ filled ++ line n (codes "} else {") → chosen ≡ opened ++ statements_text (n + 2) (statements_of other)
    → chosen ≡ filled ++ else_text n (statements_of other) (statements_text (n + 2) (statements_of other))
else_by_parts n [] filled opened chosen h a b = absurd (omega arith)
else_by_parts n (s ∷ ss) filled opened chosen h a b = rw (b, a) (simp append_assoc)

-- an `else` part that is empty
pub no_else : (n : ℕ) (other : List Stmt) (filled : List ℕ) → length other ≡ 0
    → filled ≡ filled ++ else_text n (statements_of other) (statements_text (n + 2) (statements_of other))
no_else n [] filled h = simp append-nil
no_else n (s ∷ ss) filled h = absurd (omega arith)

-- a list that is not found empty has an element
pub has_some : (xs : List Stmt) (n : ℕ) → n ≡ length xs → false ≡ (n == 0) → 0 < length xs
has_some xs n e h = grind (arith, nat_tests)

pub has_none : (xs : List Stmt) (n : ℕ) → n ≡ length xs → true ≡ (n == 0) → length xs ≡ 0
has_none xs n e h = grind (arith, nat_tests)
