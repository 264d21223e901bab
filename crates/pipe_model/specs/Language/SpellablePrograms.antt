-- What holds of every program that a source spells, whether it obeys the rules or not: its operators are those of the language,
-- no number of its declarations is negative where the grammar has no sign, and its size is bounded, since a source's length is.
use Rattle.std.specs.Prelude.{◌≡◌, ◌≤◌, ◌≤ℤ◌, ℕ, ℤ, pos, Bool, true, ◌&&◌, List, [], ◌∷◌, ◌++◌, length, sum_by, All, Option, Some, None}
use Rattle.std.specs.Prelude.{◌+◌, nat_le}
use Rattle.pipe_model.specs.declared.bounds.TheConstants.{LONGEST_EXPRESSION, LARGEST_PROGRAM}
use Rattle.pipe_model.specs.declared.operator_codes.TheConstants as operator_codes
use Rattle.pipe_model.specs.declared.tree.Declaration.{Declaration}
use Rattle.pipe_model.specs.Language.Marks.{marks_of}
use Rattle.pipe_model.specs.Language.SyntaxTree.{Expression, Number, Name, Element, And, Or, Binary, Unary, More, Take, Iter, Statement}
use Rattle.pipe_model.specs.Language.SyntaxTree.{Let, Assign, AssignElement, Emit, If, While, Stage, NextStage, Statements, Empty, Then}
use Rattle.pipe_model.specs.Language.SyntaxTree.{SyntaxTree}

abbrev pub node_count : Expression → ℕ
node_count (Number n) = 1
node_count (Name x) = 1
node_count (Element x i) = 1 + node_count i
node_count (And a b) = 1 + (node_count a + node_count b)
node_count (Or a b) = 1 + (node_count a + node_count b)
node_count (Binary code a b) = 1 + (node_count a + node_count b)
node_count (Unary code a) = 1 + node_count a
node_count More = 1
node_count Take = 1
node_count Iter = 1

-- each operator of the expression is one of the language's: 13 binary ones and 2 unary ones
abbrev pub has_known_operators : Expression → Bool
has_known_operators (Number n) = true
has_known_operators (Name x) = true
has_known_operators (Element x i) = has_known_operators i
has_known_operators (And a b) = has_known_operators a && has_known_operators b
has_known_operators (Or a b) = has_known_operators a && has_known_operators b
has_known_operators (Binary code a b) = (nat_le operator_codes.OR code && nat_le code operator_codes.REMAINDER) &&
    (has_known_operators a && has_known_operators b)
has_known_operators (Unary code a) = (nat_le operator_codes.NEGATIVE code && nat_le code operator_codes.NOT) && has_known_operators a
has_known_operators More = true
has_known_operators Take = true
has_known_operators Iter = true

abbrev mutual
  -- the expressions of a statement that are no part of another expression
  pub expressions_of_statement : Statement → List Expression
  expressions_of_statement (Let x e) = e ∷ []
  expressions_of_statement (Assign x e) = e ∷ []
  expressions_of_statement (AssignElement x i e) = i ∷ e ∷ []
  expressions_of_statement (Emit e) = e ∷ []
  expressions_of_statement (If e a b) = e ∷ (expressions_of_statements a ++ expressions_of_statements b)
  expressions_of_statement (While e a) = e ∷ expressions_of_statements a
  expressions_of_statement (Stage kind e) = e ∷ []
  expressions_of_statement (NextStage kind) = []

  -- those of statements in order
  pub expressions_of_statements : Statements → List Expression
  expressions_of_statements Empty = []
  expressions_of_statements (Then s ss) = expressions_of_statement s ++ expressions_of_statements ss

abbrev mutual
  -- 1, plus the number of statements in its blocks
  pub statement_count : Statement → ℕ
  statement_count (Let x e) = 1
  statement_count (Assign x e) = 1
  statement_count (AssignElement x i e) = 1
  statement_count (Emit e) = 1
  statement_count (If e a b) = 1 + (statement_counts a + statement_counts b)
  statement_count (While e a) = 1 + statement_counts a
  statement_count (Stage kind e) = 1
  statement_count (NextStage kind) = 1

  -- the number of these statements and of those in their blocks
  pub statement_counts : Statements → ℕ
  statement_counts Empty = 0
  statement_counts (Then s ss) = statement_count s + statement_counts ss

-- the expressions of a program that are no part of another expression
abbrev pub expressions_of : SyntaxTree → List Expression
expressions_of tree = expressions_of_statements tree.init
    ++ (tree.test ∷ (expressions_of_statements tree.body ++ expressions_of_statements tree.last))

-- the number of marks, nodes of expressions and statements of a program, added up
abbrev pub size_of : SyntaxTree → ℕ
size_of tree =
    length (marks_of tree) + (sum_by node_count (expressions_of tree)
    + (statement_counts tree.init + (statement_counts tree.body + statement_counts tree.last)))

-- the size of an array is not negative
abbrev pub HasNoNegativeSize : Option ℤ → Type 0
HasNoNegativeSize None = Unit {0}
HasNoNegativeSize (Some n) = pos 0 ≤ℤ n

-- what holds of a program that a source spells
pub record IsSpellable (tree : SyntaxTree) : Type 0 where
  pub operators : All (λ e. has_known_operators e ≡ true) (expressions_of tree)
  pub short : All (λ e. node_count e ≤ LONGEST_EXPRESSION) (expressions_of tree)
  pub sizes : All (λ (d : Declaration). HasNoNegativeSize d.size) tree.cells
  pub emits : pos 0 ≤ℤ tree.limits.emits
  pub bounded : size_of tree ≤ LARGEST_PROGRAM
