-- The canonical text: the one text in which a program is printed, as a function of its tree.
-- There are round brackets exactly where the tree needs them, and each line is indented by two spaces for each block around it.
use Rattle.std.specs.Prelude.{ℕ, ◌+◌, ℤ, List, [], ◌∷◌, ◌++◌, Option, Some, None, nat_le, ◌==◌, if◌then◌else◌, codes, slice_index_or}
use Rattle.std.specs.Prelude.{replicate}
use Rattle.pipe_model.specs.declared.operator_codes.TheConstants as operator_codes
use Rattle.std.specs.Fmt.{signed_decimal}
use Rattle.std.specs.List.{flat_map}
use Rattle.pipe_model.specs.declared.tree.Declaration.{Declaration}
use Rattle.pipe_model.specs.declared.tree.Limits.{Limits}
use Rattle.pipe_model.specs.declared.tree.StageKind.{StageKind}
use Rattle.pipe_model.specs.declared.tree.StageKind.TheVariants as kinds
use Rattle.pipe_model.specs.Language.Lexis.{operators}
use Rattle.pipe_model.specs.Language.SyntaxTree.{Expression, Number, Name, Element, And, Or, Binary, Unary, More, Take, Iter, Statement}
use Rattle.pipe_model.specs.Language.SyntaxTree.{Let, Assign, AssignElement, Emit, If, While, Stage, NextStage, Statements, Empty, Then}
use Rattle.pipe_model.specs.Language.SyntaxTree.{SyntaxTree}
use Rattle.pipe_model.specs.Language.Grammar.{level_of, operand_level}

-- ---- expressions

-- the text of a binary operator by its code; empty if no operator has the code
abbrev pub operator_text : ℕ → List ℕ
operator_text code = slice_index_or ([] ∷ operators) code []

-- the text of a unary operator by its code
abbrev pub unary_text : ℕ → List ℕ
unary_text code = if code == operator_codes.NEGATIVE then codes "-" else codes "!"

-- the level of an expression: the level of its outermost operator if it is binary, and else the level of operands
abbrev pub level_in : Expression → ℕ
level_in (Or a b) = level_of operator_codes.OR
level_in (And a b) = level_of operator_codes.AND
level_in (Binary code a b) = level_of code
level_in (Number n) = operand_level
level_in (Name x) = operand_level
level_in (Element x i) = operand_level
level_in (Unary code a) = operand_level
level_in More = operand_level
level_in Take = operand_level
level_in Iter = operand_level

-- a text in a position that needs a level: in round brackets if its own level is lower
abbrev pub at_level : (needed own : ℕ) → List ℕ → List ℕ
at_level needed own text = if nat_le needed own then text else codes "(" ++ (text ++ codes ")")

-- a binary operator between two sides with these levels and texts; the right side needs a higher level
abbrev pub binary_text : (code left_level right_level : ℕ) → (left right : List ℕ) → List ℕ
binary_text code left_level right_level left right =
    at_level (level_of code) left_level left ++ (codes " "
    ++ (operator_text code ++ (codes " " ++ at_level (level_of code + 1) right_level right)))

abbrev pub expression_text : Expression → List ℕ
expression_text (Number n) = signed_decimal n
expression_text (Name x) = x
expression_text (Element x i) = x ++ (codes "[" ++ (expression_text i ++ codes "]"))
expression_text (Or a b) = binary_text operator_codes.OR (level_in a) (level_in b) (expression_text a) (expression_text b)
expression_text (And a b) = binary_text operator_codes.AND (level_in a) (level_in b) (expression_text a) (expression_text b)
expression_text (Binary code a b) = binary_text code (level_in a) (level_in b) (expression_text a) (expression_text b)
expression_text (Unary code a) = unary_text code ++ at_level operand_level (level_in a) (expression_text a)
expression_text More = codes "more()"
expression_text Take = codes "take()"
expression_text Iter = codes "iter()"

-- ---- statements

-- a line, indented by `indent` spaces
abbrev pub line : ℕ → List ℕ → List ℕ
line indent text = replicate indent 32 ++ (text ++ codes "\n")

-- the word of a statement that names a next stage
abbrev pub stage_word : StageKind → List ℕ
stage_word kinds.Wait = codes "pipe_wait"
stage_word kinds.Continue = codes "pipe_continue"

-- an else part after a block, if it is not empty: its opening line and the lines of its block
abbrev pub else_text : ℕ → Statements → List ℕ → List ℕ
else_text indent Empty block = []
else_text indent (Then s ss) block = line indent (codes "} else {") ++ block

abbrev mutual
  -- a statement, indented by `indent` spaces
  pub statement_text : ℕ → Statement → List ℕ
  statement_text indent (Let x e) = line indent (codes "let " ++ (x ++ (codes " = " ++ (expression_text e ++ codes ";"))))
  statement_text indent (Assign x e) = line indent (x ++ (codes " = " ++ (expression_text e ++ codes ";")))
  statement_text indent (AssignElement x i e) =
      line indent (x ++ (codes "[" ++ (expression_text i ++ (codes "] = " ++ (expression_text e ++ codes ";")))))
  statement_text indent (Emit e) = line indent (codes "emit " ++ (expression_text e ++ codes ";"))
  statement_text indent (If e a b) =
      line indent (codes "if (" ++ (expression_text e ++ codes ") {")) ++ (statements_text (indent + 2) a
      ++ (else_text indent b (statements_text (indent + 2) b) ++ line indent (codes "}")))
  statement_text indent (While e a) =
      line indent (codes "while (" ++ (expression_text e ++ codes ") {")) ++ (statements_text (indent + 2) a ++ line indent (codes "}"))
  statement_text indent (Stage kind e) = line indent (stage_word kind ++ (codes "(" ++ (expression_text e ++ codes ");")))
  statement_text indent (NextStage kind) = line indent (stage_word kind ++ codes "();")

  -- statements one after the other
  pub statements_text : ℕ → Statements → List ℕ
  statements_text indent Empty = []
  statements_text indent (Then s ss) = statement_text indent s ++ statements_text indent ss

-- ---- programs

abbrev pub limits_text : Limits → List ℕ
limits_text limits =
    line 0 (codes "limits iterations " ++ (signed_decimal limits.iterations ++ (codes ", stages " ++ (signed_decimal limits.stages
    ++ (codes ", steps " ++ (signed_decimal limits.steps ++ (codes ", emits " ++ (signed_decimal limits.emits ++ codes ";"))))))))

-- the size of an array, which may be missing
abbrev pub size_text : Option ℤ → List ℕ
size_text None = []
size_text (Some n) = codes "[" ++ (signed_decimal n ++ codes "]")

-- the line of a declared cell
abbrev pub cell_text : Declaration → List ℕ
cell_text d = line 0 (codes "cell " ++ (d.name ++ (size_text d.size ++ (codes " = " ++ (signed_decimal d.value ++ codes ";")))))

-- a part of the program, which is left out if it is empty: its word and its block
abbrev pub part_text : List ℕ → Statements → List ℕ
part_text word Empty = []
part_text word (Then s ss) = line 0 (word ++ codes " {") ++ (statements_text 2 (Then s ss) ++ line 0 (codes "}"))

abbrev pub loop_text : Expression → Statements → List ℕ
loop_text test body = line 0 (codes "pipe_while (" ++ (expression_text test ++ codes ") {"))
    ++ (statements_text 2 body ++ line 0 (codes "}"))

abbrev pub program_text : SyntaxTree → List ℕ
program_text tree =
    limits_text tree.limits ++ (flat_map cell_text tree.cells ++ (part_text (codes "init") tree.init
    ++ (loop_text tree.test tree.body ++ part_text (codes "final") tree.last)))
