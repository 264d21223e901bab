-- Why a program is not a wave loop: the first of four faults.
use Rattle.std.specs.Prelude.{ℕ, ℤ, pos, Bool, true, false, not, ◌&&◌, Option, Some, None, [], ◌+◌, if◌then◌else◌, length, map}
use Rattle.std.specs.Ordering.{int_eq}
use Rattle.std.specs.Str.{bytes_eq}
use Rattle.pipe_model.specs.declared.region.Region.TheVariants as regions
use Rattle.pipe_model.specs.Language.Marks.{Mark, Occurrence, DeclaredCell, DeclaredLocal, Plain, Indexed, IterWord, StageWord, marks_of}
use Rattle.pipe_model.specs.Language.Marks.{marks_of_cells, marks_of_expression, marks_of_statements, opening}
use Rattle.pipe_model.specs.Language.SyntaxTree.{Expression, Number, Name, Element, And, Or, Binary, Unary, More, Take, Iter, Statement}
use Rattle.pipe_model.specs.Language.SyntaxTree.{Let, Assign, AssignElement, Emit, If, While, Stage, NextStage, Statements, Empty, Then}
use Rattle.pipe_model.specs.Language.SyntaxTree.{SyntaxTree}
use Rattle.wave_laws.specs.Waves.MarkFlags.{first_true, flags_of_statements}
use Rattle.wave_laws.specs.Waves.WaveLoops.{row}

-- a mark is given by its number
pub data WaveRefusal : Type 0 where
  BadTest : WaveRefusal
  NoRow : WaveRefusal
  HasStage : ℕ → WaveRefusal
  RowSet : ℕ → WaveRefusal

abbrev pub is_number : ℤ → Expression → Bool
is_number z (Number n) = int_eq n z
is_number z (Name x) = false
is_number z (Element x i) = false
is_number z (And a b) = false
is_number z (Or a b) = false
is_number z (Binary code a b) = false
is_number z (Unary code a) = false
is_number z More = false
is_number z Take = false
is_number z Iter = false

-- the statement is `let row = 0;`
abbrev pub declares_row : Statement → Bool
declares_row (Let x e) = bytes_eq row x && is_number (pos 0) e
declares_row (Assign x e) = false
declares_row (AssignElement x i e) = false
declares_row (Emit e) = false
declares_row (If e a b) = false
declares_row (While e a) = false
declares_row (Stage kind e) = false
declares_row (NextStage kind) = false

abbrev pub begins_with_row : Statements → Bool
begins_with_row Empty = false
begins_with_row (Then s ss) = declares_row s

abbrev pub is_stage_word : Occurrence → Bool
is_stage_word (DeclaredCell x size) = false
is_stage_word (DeclaredLocal x) = false
is_stage_word (Plain x) = false
is_stage_word (Indexed x) = false
is_stage_word IterWord = false
is_stage_word StageWord = true

-- the number of the first mark that is a stage statement
abbrev pub first_stage : SyntaxTree → Option ℕ
first_stage tree = first_true 0 (map (λ (m : Mark). is_stage_word m.occurrence) (marks_of tree))

-- the number of marks before the body
abbrev pub marks_before_body : SyntaxTree → ℕ
marks_before_body tree =
    length (marks_of_cells [] tree.cells)
    + (length (marks_of_statements (opening regions.Init tree.cells) tree.init)
    + length (marks_of_expression (opening regions.Test tree.cells) tree.test))

-- the number of the first mark in the body that is the target `row` of an assignment
abbrev pub first_row_set : SyntaxTree → Option ℕ
first_row_set tree = first_true (marks_before_body tree) (flags_of_statements false true tree.body)

abbrev pub row_fault : Option ℕ → Option WaveRefusal
row_fault None = None
row_fault (Some n) = Some (RowSet n)

abbrev pub stage_fault_or : Option ℕ → Option WaveRefusal → Option WaveRefusal
stage_fault_or None rest = rest
stage_fault_or (Some n) rest = Some (HasStage n)

-- the first fault of a program as a wave loop
abbrev pub wave_fault : SyntaxTree → Option WaveRefusal
wave_fault tree =
    if not (is_number (pos 1) tree.test) then Some BadTest
    else (if not (begins_with_row tree.body) then Some NoRow
    else stage_fault_or (first_stage tree) (row_fault (first_row_set tree)))
