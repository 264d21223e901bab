-- Syntax trees as plain data, without the addresses and the spare capacity of the Rust values, and the functions from those to these.
use Rattle.std.specs.Prelude.{ℕ, ℤ, List, [], ◌∷◌, Option, Some, None, if◌then◌else◌, ◌==◌}
use Rattle.pipe_model.specs.declared.operator_codes.TheConstants as operator_codes
use Rattle.pipe_model.specs.declared.node.Kind.{Kind}
use Rattle.pipe_model.specs.declared.node.Kind.TheVariants as node_kinds
use Rattle.pipe_model.specs.declared.tree.Declaration.{Declaration}
use Rattle.pipe_model.specs.declared.tree.Expr.{Expr}
use Rattle.pipe_model.specs.declared.tree.Expr.TheVariants as exprs
use Rattle.pipe_model.specs.declared.tree.Limits.{Limits}
use Rattle.pipe_model.specs.declared.tree.Program.{Program}
use Rattle.pipe_model.specs.declared.tree.StageKind.{StageKind}
use Rattle.pipe_model.specs.declared.tree.StageKind.TheVariants as kinds
use Rattle.pipe_model.specs.declared.tree.Stmt.{Stmt, Row_of-Stmt, end_of-Stmt, more_of-Stmt}
use Rattle.pipe_model.specs.declared.tree.Stmt.TheVariants as stmts

-- an expression; `&&` and `||` are apart from the other binary operators, since they may leave their right side unevaluated
pub data Expression : Type 0 where
  Number : ℤ → Expression
  Name : List ℕ → Expression
  Element : List ℕ → Expression → Expression
  And : Expression → Expression → Expression
  Or : Expression → Expression → Expression
  Binary : ℕ → Expression → Expression → Expression
  Unary : ℕ → Expression → Expression
  More : Expression
  Take : Expression
  Iter : Expression

-- a statement, and statements in order
mutual
  pub data Statement : Type 0 where
    Let : List ℕ → Expression → Statement
    Assign : List ℕ → Expression → Statement
    AssignElement : List ℕ → Expression → Expression → Statement
    Emit : Expression → Statement
    If : Expression → Statements → Statements → Statement
    While : Expression → Statements → Statement
    Stage : StageKind → Expression → Statement
    NextStage : StageKind → Statement

  pub data Statements : Type 0 where
    Empty : Statements
    Then : Statement → Statements → Statements

-- the tree of a whole program
pub record SyntaxTree : Type 0 where
  pub limits : Limits
  pub cells : List Declaration
  pub init : Statements
  pub test : Expression
  pub body : Statements
  pub last : Statements

-- the kind of the stage instance that a statement begins
abbrev pub kind_of_stage : StageKind → Kind
kind_of_stage kinds.Wait = node_kinds.Wait
kind_of_stage kinds.Continue = node_kinds.Continue

-- two expressions with a binary operator between them, by its code
abbrev pub binary_expression : ℕ → Expression → Expression → Expression
binary_expression code a b = if code == operator_codes.OR then Or a b else (if code == operator_codes.AND then And a b else Binary code a b)

-- the plain data of an expression
abbrev pub expression_of : Expr → Expression
expression_of (exprs.Number n) = Number n
expression_of (exprs.Name x) = Name x
expression_of (exprs.Element' x p e) = Element x (expression_of e)
expression_of (exprs.Binary' code p a q b) = binary_expression code (expression_of a) (expression_of b)
expression_of (exprs.Unary' code p a) = Unary code (expression_of a)
expression_of exprs.More = More
expression_of exprs.Take = Take
expression_of exprs.Iter = Iter

-- a statement that names a next stage, with or without a number
abbrev pub stage_statement : StageKind → Option Expr → Statement
stage_statement kind None = NextStage kind
stage_statement kind (Some e) = Stage kind (expression_of e)

abbrev mutual
  -- the plain data of a statement
  pub statement_of : Stmt → Statement
  statement_of (stmts.Let x e) = Let x (expression_of e)
  statement_of (stmts.Assign x e) = Assign x (expression_of e)
  statement_of (stmts.AssignElement x i e) = AssignElement x (expression_of i) (expression_of e)
  statement_of (stmts.Emit e) = Emit (expression_of e)
  statement_of (stmts.If' e s a t b) = If (expression_of e) (statements_in a) (statements_in b)
  statement_of (stmts.While' e s a) = While (expression_of e) (statements_in a)
  statement_of (stmts.Wait e) = stage_statement kinds.Wait e
  statement_of (stmts.Continue e) = stage_statement kinds.Continue e

  -- the plain data of the statements of a nested block
  pub statements_in : {m : _} → Row_of-Stmt m → Statements
  statements_in end_of-Stmt = Empty
  statements_in (more_of-Stmt s rest) = Then (statement_of s) (statements_in rest)

-- a list of statements as plain data
abbrev pub statements_of : List Stmt → Statements
statements_of [] = Empty
statements_of (s ∷ ss) = Then (statement_of s) (statements_of ss)

-- the plain data of a program
abbrev pub tree_of : Program → SyntaxTree
tree_of p = record {
  limits = p.limits;
  cells = p.cells;
  init = statements_of p.init.statements.items;
  test = expression_of p.test;
  body = statements_of p.body.statements.items;
  last = statements_of p.last.statements.items;
}
