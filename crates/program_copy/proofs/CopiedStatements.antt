-- Copies of statements.
use Rattle.std.proofs.Common.{◌≡◌, List, [], ◌∷◌, map, refl, ap, ap₂, sym, ◌∙◌}
use Rattle.pipe_model.specs.declared.tree.Block.{Block}
use Rattle.pipe_model.specs.declared.tree.Expr.{Expr}
use Rattle.pipe_model.specs.declared.tree.Stmt.{Stmt}
use Rattle.pipe_model.specs.declared.tree.Stmt.TheVariants as stmts
use Rattle.pipe_model.specs.Language.SyntaxTree.{Statement, Statements, Empty, Then, If, While, expression_of, statement_of, statements_of}
use Rattle.pipe_model.proofs.NestedBlocks.{if_seen, while_seen}

-- statements in order, as one tree
abbrev pub in_order : List Statement → Statements
in_order [] = Empty
in_order (s ∷ ss) = Then s (in_order ss)

pub in_order_is : (ss : List Stmt) → in_order (map statement_of ss) ≡ statements_of ss
in_order_is [] = refl
in_order_is (s ∷ ss) = ap (Then (statement_of s)) (in_order_is ss)

-- statements with the same trees, one by one
pub same_statements : (xs ys : List Stmt) → map statement_of xs ≡ map statement_of ys → statements_of xs ≡ statements_of ys
same_statements xs ys same = sym (in_order_is xs) ∙ (ap in_order same ∙ in_order_is ys)

pub same_if : (e x : Expr) (a b c d : Block) → expression_of e ≡ expression_of x → statements_of a.statements.items ≡ statements_of
    c.statements.items
    → statements_of b.statements.items ≡ statements_of d.statements.items → statement_of (stmts.If e a b) ≡ statement_of (stmts.If x c d)
same_if e x a b c d same_test same_then same_else =
    if_seen e a b ∙ (ap (λ k. If k (statements_of a.statements.items) (statements_of b.statements.items)) same_test
    ∙ (ap₂ (λ k l. If (expression_of x) k l) same_then same_else ∙ sym (if_seen x c d)))

pub same_while : (e x : Expr) (a b : Block) → expression_of e ≡ expression_of x → statements_of a.statements.items ≡ statements_of
    b.statements.items
    → statement_of (stmts.While e a) ≡ statement_of (stmts.While x b)
same_while e x a b same_test same_body = while_seen e a ∙ (ap₂ (λ k l. While k l) same_test same_body ∙ sym (while_seen x b))
