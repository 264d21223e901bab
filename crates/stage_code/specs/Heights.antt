-- How high the stack grows.
use Rattle.std.specs.Prelude.{ℕ, suc, if◌then◌else◌, nat_lt}
use Rattle.pipe_model.specs.Language.SyntaxTree.{Expression, Number, Name, Element, And, Or, Binary, Unary, More, Take, Iter, Statement}
use Rattle.pipe_model.specs.Language.SyntaxTree.{Let, Assign, AssignElement, Emit, If, While, Stage, NextStage, Statements, Empty, Then}
use Rattle.pipe_model.specs.Language.SyntaxTree.{SyntaxTree}

-- the greater of two numbers
abbrev pub greater : ℕ → ℕ → ℕ
greater a b = if nat_lt a b then b else a

-- how many numbers are on the stack at most while the expression is evaluated, its own value included
abbrev pub height_of : Expression → ℕ
height_of (Number n) = 1
height_of (Name x) = 1
height_of (Element x i) = height_of i
height_of (And a b) = greater (height_of a) (height_of b)
height_of (Or a b) = greater (height_of a) (height_of b)
height_of (Binary code a b) = greater (height_of a) (suc (height_of b))
height_of (Unary code a) = height_of a
height_of More = 1
height_of Take = 1
height_of Iter = 1

abbrev mutual
  -- how many numbers are on the stack at most while the statement runs
  pub height_of_statement : Statement → ℕ
  height_of_statement (Let x e) = height_of e
  height_of_statement (Assign x e) = height_of e
  height_of_statement (AssignElement x i e) = greater (height_of i) (suc (height_of e))
  height_of_statement (Emit e) = height_of e
  height_of_statement (If e a b) = greater (height_of e) (greater (height_of_statements a) (height_of_statements b))
  height_of_statement (While e a) = greater (height_of e) (height_of_statements a)
  height_of_statement (Stage kind e) = height_of e
  height_of_statement (NextStage kind) = 0

  -- how many while these statements run
  pub height_of_statements : Statements → ℕ
  height_of_statements Empty = 0
  height_of_statements (Then s ss) = greater (height_of_statement s) (height_of_statements ss)

-- how many while any part of the program runs
abbrev pub greatest_height : SyntaxTree → ℕ
greatest_height tree = greater (height_of_statements tree.init) (greater (height_of tree.test)
    (greater (height_of_statements tree.body) (height_of_statements tree.last)))
