-- The text of the parts of a program, part by part.
use Rattle.std.proofs.Common.{◌≡◌, ℕ, ◌<◌, List, [], ◌∷◌, ◌++◌, append_assoc, length, codes, arith}
use Rattle.std.specs.Fmt.{signed_decimal}
use Rattle.pipe_model.specs.declared.tree.Limits.{Limits}
use Rattle.pipe_model.specs.declared.tree.Stmt.{Stmt}
use Rattle.pipe_model.specs.Language.CanonicalText.{expression_text, limits_text, line, loop_text, part_text, statements_text}
use Rattle.pipe_model.specs.Language.SyntaxTree.{Expression, Statements, statements_of}

-- the line of limits, field by field
pub limits_by_parts : (limits : Limits) (before one two three four end : List ℕ)
    → one ≡ before ++ (codes "limits iterations " ++ signed_decimal limits.iterations) → two ≡ one
    ++ (codes ", stages " ++ signed_decimal limits.stages)
    → three ≡ two ++ (codes ", steps " ++ signed_decimal limits.steps) → four ≡ three ++ (codes ", emits " ++ signed_decimal limits.emits)
    → end ≡ four ++ codes ";\n" → end ≡ before ++ limits_text limits
limits_by_parts limits before one two three four end a b c d e = rw (e, d, c, b, a) (simp append_assoc)

-- the loop: its opening line, its block, and the line that closes it
pub loop_by_parts : (test : Expression) (body : Statements) (before opened filled end : List ℕ)
    → opened ≡ before ++ (codes "pipe_while (" ++ (expression_text test ++ codes ") {\n")) → filled ≡ opened ++ statements_text 2 body
    → end ≡ filled ++ line 0 (codes "}") → end ≡ before ++ loop_text test body
loop_by_parts test body before opened filled end a b c = rw (c, b, a) (simp append_assoc)

-- a part that is not empty
pub part_by_parts : (word : List ℕ) (block : List Stmt) (before named opened filled end : List ℕ) → 0 < length block
    → named ≡ before ++ word → opened ≡ named ++ codes " {\n" → filled ≡ opened ++ statements_text 2 (statements_of block)
    → end ≡ filled ++ line 0 (codes "}") → end ≡ before ++ part_text word (statements_of block)
part_by_parts word [] before named opened filled end h a b c d = absurd (omega arith)
part_by_parts word (s ∷ ss) before named opened filled end h a b c d = rw (d, c, b, a) (simp append_assoc)
