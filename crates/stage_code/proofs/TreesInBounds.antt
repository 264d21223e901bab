-- Trees whose code stays in bounds: names are known, and there is room for the stack, the slots and the cells. And code that is part of
-- other code.
use Rattle.std.specs.Prelude.{ℕ, suc, ◌+◌, ◌<◌, ◌≤◌, List, length, Option, Some, None}
use Rattle.pipe_model.specs.declared.bounds.TheConstants.{MOST_LOCALS}
use Rattle.pipe_model.specs.Language.Evaluation.{CellRange}
use Rattle.pipe_model.specs.Language.SyntaxTree.{Expression, Number, Name, Element, And, Or, Binary, Unary, More, Take, Iter, Statement}
use Rattle.pipe_model.specs.Language.SyntaxTree.{Let, Assign, AssignElement, Emit, If, While, Stage, NextStage, Statements, Empty, Then}
use Rattle.stage_code.specs.Instructions.{Bounds}
use Rattle.stage_code.specs.Slots.{slot_of, locals_after}

-- a name without an index has a slot, or its first cell is served
abbrev pub IsKnown : Bounds → Option ℕ → Option CellRange → Type 0
IsKnown b (Some slot) range = Unit {0}
IsKnown b None (Some range) = range.first + 1 ≤ b.cells
IsKnown b None None = ⊥

-- a name with an index has cells, and all are served
abbrev pub HasCells : Bounds → Option CellRange → Type 0
HasCells b None = ⊥
HasCells b (Some range) = range.first + range.size ≤ b.cells

-- an expression, evaluated with h numbers on the stack
abbrev pub StaysInBounds : Bounds → (List ℕ → Option CellRange) → List (List ℕ) → ℕ → Expression → Type 0
StaysInBounds b cells scope h (Number n) = h < b.depth
StaysInBounds b cells scope h (Name x) = (h < b.depth) × IsKnown b (slot_of scope x) (cells x)
StaysInBounds b cells scope h (Element x i) = (h < b.depth) × HasCells b (cells x) × StaysInBounds b cells scope h i
StaysInBounds b cells scope h (And l r) = (h < b.depth) × StaysInBounds b cells scope h l × StaysInBounds b cells scope h r
StaysInBounds b cells scope h (Or l r) = (h < b.depth) × StaysInBounds b cells scope h l × StaysInBounds b cells scope h r
StaysInBounds b cells scope h (Binary code l r) = (h < b.depth) × StaysInBounds b cells scope h l × StaysInBounds b cells scope (suc h) r
StaysInBounds b cells scope h (Unary code l) = (h < b.depth) × StaysInBounds b cells scope h l
StaysInBounds b cells scope h More = (h < b.depth) × (2 ≤ b.cells)
StaysInBounds b cells scope h Take = (h < b.depth) × (2 ≤ b.cells)
StaysInBounds b cells scope h Iter = h < b.depth

abbrev mutual
  -- a statement, with a slot for each local that it declares
  pub StatementStaysInBounds : Bounds → (List ℕ → Option CellRange) → List (List ℕ) → Statement → Type 0
  StatementStaysInBounds b cells scope (Let x e) = StaysInBounds b cells scope 0 e × (length scope < MOST_LOCALS)
  StatementStaysInBounds b cells scope (Assign x e) = StaysInBounds b cells scope 0 e × IsKnown b (slot_of scope x) (cells x)
  StatementStaysInBounds b cells scope (AssignElement x i e) = StaysInBounds b cells scope 0 i × StaysInBounds b cells scope 1 e
      × HasCells b (cells x)
  StatementStaysInBounds b cells scope (Emit e) = StaysInBounds b cells scope 0 e × (2 ≤ b.cells)
  StatementStaysInBounds b cells scope (If e l r) = StaysInBounds b cells scope 0 e × StatementsStayInBounds b cells scope l
      × StatementsStayInBounds b cells scope r
  StatementStaysInBounds b cells scope (While e l) = StaysInBounds b cells scope 0 e × StatementsStayInBounds b cells scope l
  StatementStaysInBounds b cells scope (Stage k e) = StaysInBounds b cells scope 0 e
  StatementStaysInBounds b cells scope (NextStage k) = Unit {0}

  -- statements in order
  pub StatementsStayInBounds : Bounds → (List ℕ → Option CellRange) → List (List ℕ) → Statements → Type 0
  StatementsStayInBounds b cells scope Empty = Unit {0}
  StatementsStayInBounds b cells scope (Then s ss) = StatementStaysInBounds b cells scope s
      × StatementsStayInBounds b cells (locals_after scope s) ss
