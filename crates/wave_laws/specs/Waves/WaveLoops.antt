-- Wave loops: the body of the loop is what is done at a point of a grid. The iterations are the columns, and the local `row` is the row.
use Rattle.std.specs.Prelude.{◌≡◌, ℕ, pos, List, false, codes}
use Rattle.std.specs.Str.{bytes_eq}
use Rattle.pipe_model.specs.Language.SyntaxTree.{Number, Statement, Let, Assign, AssignElement, Emit, If, While, Stage, NextStage}
use Rattle.pipe_model.specs.Language.SyntaxTree.{Statements, Empty, Then, SyntaxTree}

-- the name of the local that is the row
abbrev pub row : List ℕ
row = codes "row"

abbrev mutual
  -- the statement contains no stage statement
  pub HasNoStage : Statement → Type 0
  HasNoStage (Let x e) = Unit {0}
  HasNoStage (Assign x e) = Unit {0}
  HasNoStage (AssignElement x i e) = Unit {0}
  HasNoStage (Emit e) = Unit {0}
  HasNoStage (If e a b) = AllHaveNoStage a × AllHaveNoStage b
  HasNoStage (While e a) = AllHaveNoStage a
  HasNoStage (Stage kind e) = ⊥
  HasNoStage (NextStage kind) = ⊥

  pub AllHaveNoStage : Statements → Type 0
  AllHaveNoStage Empty = Unit {0}
  AllHaveNoStage (Then s ss) = HasNoStage s × AllHaveNoStage ss

abbrev mutual
  -- the statement contains no assignment to `row`
  pub KeepsRow : Statement → Type 0
  KeepsRow (Let x e) = Unit {0}
  KeepsRow (Assign x e) = bytes_eq row x ≡ false
  KeepsRow (AssignElement x i e) = Unit {0}
  KeepsRow (Emit e) = Unit {0}
  KeepsRow (If e a b) = AllKeepRow a × AllKeepRow b
  KeepsRow (While e a) = AllKeepRow a
  KeepsRow (Stage kind e) = Unit {0}
  KeepsRow (NextStage kind) = Unit {0}

  pub AllKeepRow : Statements → Type 0
  AllKeepRow Empty = Unit {0}
  AllKeepRow (Then s ss) = KeepsRow s × AllKeepRow ss

-- the statements after the first
abbrev pub rest_of : Statements → Statements
rest_of Empty = Empty
rest_of (Then s ss) = ss

-- `let row = 0;`
abbrev pub row_declaration : Statement
row_declaration = Let row (Number (pos 0))

-- the test of the loop is 1; its body begins with `let row = 0;`, has no stage statement, and sets the row nowhere else
pub record IsWave (tree : SyntaxTree) : Type 0 where
  pub test : tree.test ≡ Number (pos 1)
  pub body : tree.body ≡ Then row_declaration (rest_of tree.body)
  pub straight : AllHaveNoStage (rest_of tree.body)
  pub unset : AllKeepRow (rest_of tree.body)
