-- The marks of a program: the points of its text at which a checking rule can be broken, each with what is known there.
-- A mark is a name, the word `iter`, or the word of a stage statement. Marks are in the order of the text, numbered from 0.
use Rattle.std.specs.Prelude.{ℕ, ℤ, List, [], ◌∷◌, ◌++◌, Option}
use Rattle.pipe_model.specs.declared.region.Region.{Region}
use Rattle.pipe_model.specs.declared.region.Region.TheVariants as regions
use Rattle.pipe_model.specs.declared.tree.Declaration.{Declaration}
use Rattle.pipe_model.specs.Language.SyntaxTree.{Expression, Number, Name, Element, And, Or, Binary, Unary, More, Take, Iter, Statement}
use Rattle.pipe_model.specs.Language.SyntaxTree.{Let, Assign, AssignElement, Emit, If, While, Stage, NextStage, Statements, Empty, Then}
use Rattle.pipe_model.specs.Language.SyntaxTree.{SyntaxTree}

-- what is known at a point of the text
pub record Scope : Type 0 where
  pub region : Region
  pub cells : List Declaration  -- the cells declared so far, in order
  pub visible : List (List ℕ)  -- the locals in scope
  pub lets : List (List ℕ)  -- the name of each `let` of the region so far, whether its local is still in scope or not

-- what is at a mark
pub data Occurrence : Type 0 where
  DeclaredCell : List ℕ → Option ℤ → Occurrence  -- the name that a cell declares, with the size of an array
  DeclaredLocal : List ℕ → Occurrence  -- the name that a `let` declares
  Plain : List ℕ → Occurrence  -- a used name without an index
  Indexed : List ℕ → Occurrence  -- a used name with an index
  IterWord : Occurrence
  StageWord : Occurrence

pub record Mark : Type 0 where
  pub scope : Scope
  pub occurrence : Occurrence

abbrev pub mark_at : Scope → Occurrence → Mark
mark_at scope occurrence = record { scope = scope; occurrence = occurrence }

-- the scope at the beginning of a region, where no local is declared
abbrev pub opening : Region → List Declaration → Scope
opening region cells = record { region = region; cells = cells; visible = []; lets = [] }

-- the scope after a `let`, whose local is in scope
abbrev pub after_let : Scope → List ℕ → Scope
after_let scope x = record { region = scope.region; cells = scope.cells; visible = scope.visible ++ x ∷ []; lets = scope.lets ++ x ∷ [] }

-- the scope after a block that began in the outer scope and ended in the inner one: the locals of the block are out of scope
abbrev pub leave : (outer inner : Scope) → Scope
leave outer inner = record { region = inner.region; cells = inner.cells; visible = outer.visible; lets = inner.lets }

abbrev mutual
  pub after_statement : Scope → Statement → Scope
  after_statement scope (Let x e) = after_let scope x
  after_statement scope (Assign x e) = scope
  after_statement scope (AssignElement x i e) = scope
  after_statement scope (Emit e) = scope
  after_statement scope (If e a b) = leave scope (after_statements (leave scope (after_statements scope a)) b)
  after_statement scope (While e a) = leave scope (after_statements scope a)
  after_statement scope (Stage kind e) = scope
  after_statement scope (NextStage kind) = scope

  -- at the end of these statements, where their locals are still in scope
  pub after_statements : Scope → Statements → Scope
  after_statements scope Empty = scope
  after_statements scope (Then s ss) = after_statements (after_statement scope s) ss

-- after a block of these statements, where their locals are out of scope
abbrev pub after_block : Scope → Statements → Scope
after_block scope ss = leave scope (after_statements scope ss)

abbrev pub marks_of_expression : Scope → Expression → List Mark
marks_of_expression scope (Number n) = []
marks_of_expression scope (Name x) = mark_at scope (Plain x) ∷ []
marks_of_expression scope (Element x i) = mark_at scope (Indexed x) ∷ marks_of_expression scope i
marks_of_expression scope (And a b) = marks_of_expression scope a ++ marks_of_expression scope b
marks_of_expression scope (Or a b) = marks_of_expression scope a ++ marks_of_expression scope b
marks_of_expression scope (Binary code a b) = marks_of_expression scope a ++ marks_of_expression scope b
marks_of_expression scope (Unary code a) = marks_of_expression scope a
marks_of_expression scope More = []
marks_of_expression scope Take = []
marks_of_expression scope Iter = mark_at scope IterWord ∷ []

abbrev mutual
  pub marks_of_statement : Scope → Statement → List Mark
  marks_of_statement scope (Let x e) = mark_at scope (DeclaredLocal x) ∷ marks_of_expression scope e
  marks_of_statement scope (Assign x e) = mark_at scope (Plain x) ∷ marks_of_expression scope e
  marks_of_statement scope (AssignElement x i e) = mark_at scope (Indexed x) ∷ (marks_of_expression scope i ++ marks_of_expression scope e)
  marks_of_statement scope (Emit e) = marks_of_expression scope e
  marks_of_statement scope (If e a b) = marks_of_expression scope e
      ++ (marks_of_statements scope a ++ marks_of_statements (after_block scope a) b)
  marks_of_statement scope (While e a) = marks_of_expression scope e ++ marks_of_statements scope a
  marks_of_statement scope (Stage kind e) = mark_at scope StageWord ∷ marks_of_expression scope e
  marks_of_statement scope (NextStage kind) = mark_at scope StageWord ∷ []

  pub marks_of_statements : Scope → Statements → List Mark
  marks_of_statements scope Empty = []
  marks_of_statements scope (Then s ss) = marks_of_statement scope s ++ marks_of_statements (after_statement scope s) ss

-- the marks of declarations that follow the cells `before`
abbrev pub marks_of_cells : List Declaration → List Declaration → List Mark
marks_of_cells before [] = []
marks_of_cells before (d ∷ ds) = mark_at (opening regions.Cells before) (DeclaredCell d.name d.size) ∷ marks_of_cells (before ++ d ∷ []) ds

-- the marks of a program; the test of the loop sees no local, and each of the other parts sees its own alone
abbrev pub marks_of : SyntaxTree → List Mark
marks_of tree =
    marks_of_cells [] tree.cells
    ++ (marks_of_statements (opening regions.Init tree.cells) tree.init
    ++ (marks_of_expression (opening regions.Test tree.cells) tree.test
    ++ (marks_of_statements (opening regions.Body tree.cells) tree.body
    ++ marks_of_statements (opening regions.Last tree.cells) tree.last)))
