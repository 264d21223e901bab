-- The flat code that `lower` makes, as functions of the tree. Jump targets are indices into the whole code, so each function takes the
-- index of its first instruction. A name is looked up among the locals in scope, which have slots, and then among the declared cells.
use Rattle.std.specs.Prelude.{ℕ, pos, List, [], ◌∷◌, ◌++◌, Option, Some, None, ◌+◌, length}
use Rattle.pipe_model.specs.declared.tree.StageKind.{StageKind}
use Rattle.pipe_model.specs.declared.tree.StageKind.TheVariants as stage_kinds
use Rattle.stage_code.specs.FlatCode.{FlatCode}
use Rattle.pipe_model.specs.declared.tree.Limits.{Limits}
use Rattle.pipe_model.specs.Language.Evaluation.{CellRange}
use Rattle.pipe_model.specs.Language.Programs.{range_of}
use Rattle.pipe_model.specs.Language.SyntaxTree.{Expression, Number, Name, Element, And, Or, Binary, Unary, More, Take, Iter, Statement}
use Rattle.pipe_model.specs.Language.SyntaxTree.{Let, Assign, AssignElement, Emit, If, While, Stage, NextStage, Statements, Empty, Then}
use Rattle.pipe_model.specs.Language.SyntaxTree.{SyntaxTree}
use Rattle.stage_code.specs.Slots.{slot_of, locals_after}
use Rattle.stage_code.specs.Heights.{greatest_height}
use Rattle.stage_code.specs.declared.instr.Instr.{Instr}
use Rattle.stage_code.specs.declared.instr.Instr.TheVariants as instrs

-- a used name: a local, or else a cell. A program that breaks no rule has no other names; they count as 0, so that the code takes a step.
abbrev pub name_code : Option ℕ → Option CellRange → Instr
name_code (Some slot) range = instrs.Local slot
name_code None (Some range) = instrs.Read (record { 0 = range.first })
name_code None None = instrs.Push (pos 0)

-- an element of a declared array
abbrev pub element_code : Option CellRange → Instr
element_code (Some range) = instrs.ReadAt (record { 0 = range.first }) range.size
element_code None = instrs.End

-- the code of an expression
abbrev pub expression_code : (List ℕ → Option CellRange) → List (List ℕ) → ℕ → Expression → List Instr
expression_code cells scope at (Number n) = instrs.Push n ∷ []
expression_code cells scope at (Name x) = name_code (slot_of scope x) (cells x) ∷ []
expression_code cells scope at (Element x i) = expression_code cells scope at i ++ element_code (cells x) ∷ []
expression_code cells scope at (And a b) =
    let left = expression_code cells scope at a in
    let right = expression_code cells scope (at + length left + 1) b in
    left ++ instrs.AndTest (at + length left + 1 + length right + 1) ∷ (right ++ instrs.Truth ∷ [])
expression_code cells scope at (Or a b) =
    let left = expression_code cells scope at a in
    let right = expression_code cells scope (at + length left + 1) b in
    left ++ instrs.OrTest (at + length left + 1 + length right + 1) ∷ (right ++ instrs.Truth ∷ [])
expression_code cells scope at (Binary code a b) =
    let left = expression_code cells scope at a in
    left ++ (expression_code cells scope (at + length left) b ++ instrs.Binary code ∷ [])
expression_code cells scope at (Unary code a) = expression_code cells scope at a ++ instrs.Unary code ∷ []
expression_code cells scope at More = instrs.More ∷ []
expression_code cells scope at Take = instrs.Take ∷ []
expression_code cells scope at Iter = instrs.Iter ∷ []

-- an assignment to a local or a plain cell
abbrev pub assign_code : Option ℕ → Option CellRange → Instr
assign_code (Some slot) range = instrs.SetLocal slot
assign_code None (Some range) = instrs.Write (record { 0 = range.first })
assign_code None None = instrs.End

-- an assignment to an element of a declared array
abbrev pub assign_element_code : Option CellRange → Instr
assign_element_code (Some range) = instrs.WriteAt (record { 0 = range.first }) range.size
assign_element_code None = instrs.End

-- a stage statement with a number
abbrev pub stage_code : StageKind → Instr
stage_code stage_kinds.Wait = instrs.Wait
stage_code stage_kinds.Continue = instrs.Continue

-- a stage statement without a number
abbrev pub next_stage_code : StageKind → Instr
next_stage_code stage_kinds.Wait = instrs.WaitNext
next_stage_code stage_kinds.Continue = instrs.ContinueNext

abbrev mutual
  -- the code of a statement
  pub statement_code : (List ℕ → Option CellRange) → List (List ℕ) → ℕ → Statement → List Instr
  statement_code cells scope at (Let x e) = expression_code cells scope at e ++ instrs.SetLocal (length scope) ∷ []
  statement_code cells scope at (Assign x e) = expression_code cells scope at e ++ assign_code (slot_of scope x) (cells x) ∷ []
  statement_code cells scope at (AssignElement x i e) =
      let index = expression_code cells scope at i in
      index ++ (expression_code cells scope (at + length index) e ++ assign_element_code (cells x) ∷ [])
  statement_code cells scope at (Emit e) = expression_code cells scope at e ++ instrs.Emit ∷ []
  statement_code cells scope at (If e a b) =
      let test = expression_code cells scope at e in
      let body = statements_code cells scope (at + length test + 1) a in
      let other_at = at + length test + 1 + length body + 1 in
      let other = statements_code cells scope other_at b in
      test ++ instrs.Branch other_at ∷ (body ++ instrs.Jump (other_at + length other) ∷ other)
  statement_code cells scope at (While e a) =
      let test = expression_code cells scope at e in
      let body = statements_code cells scope (at + length test + 1) a in
      test ++ instrs.Branch (at + length test + 1 + length body + 1) ∷ (body ++ instrs.Jump at ∷ [])
  statement_code cells scope at (Stage kind e) = expression_code cells scope at e ++ stage_code kind ∷ []
  statement_code cells scope at (NextStage kind) = next_stage_code kind ∷ []

  -- the code of statements in order
  pub statements_code : (List ℕ → Option CellRange) → List (List ℕ) → ℕ → Statements → List Instr
  statements_code cells scope at Empty = []
  statements_code cells scope at (Then s ss) =
      let first = statement_code cells scope at s in
      first ++ statements_code cells (locals_after scope s) (at + length first) ss

-- the code of `init` or `final`
abbrev pub part_code : (List ℕ → Option CellRange) → ℕ → Statements → List Instr
part_code cells at ss = statements_code cells [] at ss ++ instrs.End ∷ []

-- the code of an iteration
abbrev pub iteration_code : (List ℕ → Option CellRange) → ℕ → Expression → Statements → List Instr
iteration_code cells at test body =
    let first = expression_code cells [] at test in
    first ++ instrs.LoopTest ∷ (statements_code cells [] (at + length first + 1) body ++ instrs.End ∷ [])

-- the parts one after the other
abbrev pub code_of_parts : List Instr → List Instr → List Instr → ℕ → Limits → FlatCode
code_of_parts init pipe last depth limits = record {
  instrs = init ++ (pipe ++ last);
  init = 0;
  pipe = length init;
  last = length init + length pipe;
  depth = depth;
  limits = limits;
}

-- the flat code of a program
abbrev pub flat_code : SyntaxTree → FlatCode
flat_code tree =
    let cells = range_of 2 tree.cells in
    let init = part_code cells 0 tree.init in
    let pipe = iteration_code cells (length init) tree.test tree.body in
    code_of_parts init pipe (part_code cells (length init + length pipe) tree.last) (greatest_height tree) tree.limits
