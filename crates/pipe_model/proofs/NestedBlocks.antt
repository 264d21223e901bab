-- A nested block has the statements of its list.
use Rattle.std.proofs.Common.{◌≡◌, ap, ◌∙◌, refl}
use mathlib.Core.Former.{Count}
use Rattle.pipe_model.specs.declared.tree.Block.{Block}
use Rattle.pipe_model.specs.declared.tree.Expr.{Expr}
use Rattle.pipe_model.specs.declared.tree.Stmt.{Stmt, Row_of-Stmt, end_of-Stmt, more_of-Stmt, items-the_row-Stmt}
use Rattle.pipe_model.specs.declared.tree.Stmt.{items_hidden-the_row-Stmt-0}
use Rattle.pipe_model.specs.declared.tree.Stmt.TheVariants as stmts
use Rattle.pipe_model.specs.Language.SyntaxTree.{Then, If, While, expression_of, statement_of, statements_in, statements_of}

row_statements : {m : _} (row : Row_of-Stmt m) → statements_in row ≡ statements_of (items-the_row-Stmt _ row)
row_statements end_of-Stmt = refl
row_statements (more_of-Stmt s row) = ap (Then (statement_of s)) (row_statements row)

rows_seen : (b : Block) → {m : Count} (row : Row_of-Stmt m) → items-the_row-Stmt _ row ≡ b.statements.items
    → statements_in row ≡ statements_of b.statements.items
rows_seen b row h = row_statements row ∙ ap statements_of h

-- the row of a loop's body
abbrev body_in : Stmt → (n : Count) × Row_of-Stmt n
body_in (stmts.While' e s row) = (_, row)
body_in s = (_, end_of-Stmt)

-- a loop with its body
pub while_seen : (e : Expr) (b : Block) → statement_of (stmts.While e b) ≡ While (expression_of e) (statements_of b.statements.items)
while_seen e b = ap (While (expression_of e)) (rows_seen b (body_in (stmts.While e b)).1 (items_hidden-the_row-Stmt-0 b.statements))

-- the rows of the two parts of an `if`
abbrev then_in : Stmt → (n : Count) × Row_of-Stmt n
then_in (stmts.If' e s a t b) = (_, a)
then_in s = (_, end_of-Stmt)

abbrev else_in : Stmt → (n : Count) × Row_of-Stmt n
else_in (stmts.If' e s a t b) = (_, b)
else_in s = (_, end_of-Stmt)

-- an `if` with its two parts
pub if_seen : (e : Expr) (a b : Block)
    → statement_of (stmts.If e a b) ≡ If (expression_of e) (statements_of a.statements.items) (statements_of b.statements.items)
if_seen e a b =
    ap (λ x. If (expression_of e) x (statements_in (else_in (stmts.If e a b)).1))
    (rows_seen a (then_in (stmts.If e a b)).1 (items_hidden-the_row-Stmt-0 a.statements))
    ∙ ap (If (expression_of e) (statements_of a.statements.items))
    (rows_seen b (else_in (stmts.If e a b)).1 (items_hidden-the_row-Stmt-0 b.statements))
