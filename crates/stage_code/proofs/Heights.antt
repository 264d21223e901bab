-- How high the stack grows.
use Rattle.std.proofs.Common.{◌≡◌, ◌∙◌, ℕ, ◌+◌, ◌<◌, ◌≤◌, List, length, drop, get_or, sym, ap, arith}
use Rattle.std.proofs.lemmas.List.{at_drop_more}
use Rattle.pipe_model.specs.declared.tree.Stmt.{Stmt}
use Rattle.pipe_model.specs.Language.SyntaxTree.{Expression, Statement, If, While, Statements, statement_of, statements_of}
use Rattle.stage_code.specs.declared.code_bounds.TheConstants.{HIGHEST_STACK}
use Rattle.stage_code.specs.Heights.{greater, height_of, height_of_statement, height_of_statements}

pub greater_first : (a b : ℕ) → a ≤ greater a b
greater_first a b = grind arith

pub greater_second : (a b : ℕ) → b ≤ greater a b
greater_second a b = grind arith

-- the statement at an index of a list, and those after it
pub height_from : (ss : List Stmt) (i : ℕ) (s : Stmt) → i < length ss → s ≡ get_or ss i s
    → height_of_statements (statements_of (drop i ss)) ≡ greater (height_of_statement (statement_of s))
    (height_of_statements (statements_of (drop (i + 1) ss)))
height_from ss i s h e =
    at_drop_more (λ l. height_of_statements (statements_of l)) ss i s h
    ∙ ap (λ x. greater (height_of_statement (statement_of x)) (height_of_statements (statements_of (drop (i + 1) ss)))) (sym e)

pub statement_low : (ss : List Stmt) (i most all : ℕ) (s : Stmt) → i < length ss → s ≡ get_or ss i s
    → greater most (height_of_statements (statements_of (drop i ss))) ≡ all → all ≤ HIGHEST_STACK
    → height_of_statement (statement_of s) ≤ HIGHEST_STACK
statement_low ss i most all s h e is bounded =
    let rest = height_of_statements (statements_of (drop (i + 1) ss)) in
    let one = greater_first (height_of_statement (statement_of s)) rest in
    let two = greater_second most (greater (height_of_statement (statement_of s)) rest) in
    let from : greater most (greater (height_of_statement (statement_of s)) rest) ≡ all = ap (greater most) (sym (height_from ss i s h e))
    ∙ is in
    omega (arith, one, two, from, bounded)

pub if_low : (e : Expression) (a b : Statements) (whole : Statement) → whole ≡ If e a b → height_of_statement whole ≤ HIGHEST_STACK
    → (height_of_statements a ≤ HIGHEST_STACK) × (height_of_statements b ≤ HIGHEST_STACK)
if_low e a b whole is bounded =
    let all : height_of_statement whole ≡ greater (height_of e) (greater (height_of_statements a) (height_of_statements b)) =
    ap height_of_statement is in
    let one = greater_first (height_of_statements a) (height_of_statements b) in
    let two = greater_second (height_of_statements a) (height_of_statements b) in
    let three = greater_second (height_of e) (greater (height_of_statements a) (height_of_statements b)) in
    (omega (arith, all, one, three, bounded), omega (arith, all, two, three, bounded))

pub while_low : (e : Expression) (a : Statements) (whole : Statement) → whole ≡ While e a → height_of_statement whole ≤ HIGHEST_STACK
    → height_of_statements a ≤ HIGHEST_STACK
while_low e a whole is bounded =
    let all : height_of_statement whole ≡ greater (height_of e) (height_of_statements a) = ap height_of_statement is in
    let one = greater_second (height_of e) (height_of_statements a) in
    omega (arith, all, one, bounded)
