-- The symbols of the canonical text: round brackets only where the tree needs them, and the pieces of a program.
use Rattle.std.specs.Prelude.{◌≡◌, ℕ, suc, ◌+◌, ◌≤◌, ◌<◌, ◌^◌, ℤ, pos, negsuc, List, [], ◌∷◌, ◌++◌, length, nat_le, ◌==◌, if◌then◌else◌}
use Rattle.std.specs.Prelude.{Option, Some, None, ◌⊎◌}
use Rattle.pipe_model.specs.declared.tree.StageKind.{StageKind}
use Rattle.pipe_model.specs.declared.tree.StageKind.TheVariants as kinds
use Rattle.pipe_model.specs.declared.symbol.Symbol.{Symbol}
use Rattle.pipe_model.specs.declared.symbol.Symbol.TheVariants as symbols
use Rattle.pipe_model.specs.declared.tree.Declaration.{Declaration}
use Rattle.pipe_model.specs.Language.CanonicalText.{level_in}
use Rattle.pipe_model.specs.Language.Lexis.{symbol_of}
use Rattle.pipe_model.specs.Language.SyntaxTree.{Expression, Number, Name, Element, And, Or, Binary, Unary, More, Take, Iter, Statement}
use Rattle.pipe_model.specs.Language.SyntaxTree.{Let, Assign, AssignElement, Emit, If, While, Stage, NextStage, Statements, Empty, Then}
use Rattle.pipe_model.specs.Language.SyntaxTree.{SyntaxTree}
use Rattle.pipe_model.specs.Language.Grammar.{level_of, operand_level, Piece, Single, FullExpression, limits_before}
use Rattle.pipe_model.specs.Language.Words.{word_cell, word_pipe_while, word_pipe_wait, word_pipe_continue, word_let, word_if, word_while}
use Rattle.pipe_model.specs.Language.Words.{word_emit, word_more, word_take, word_iter, minus, exclamation, open_round, close_round}
use Rattle.pipe_model.specs.Language.Words.{semicolon, equals, open_square, close_square, open_brace, close_brace}

-- ---- expressions

-- the symbol of a unary operator
abbrev pub unary_symbol : ℕ → Symbol
unary_symbol code = if code == 1 then minus else exclamation

-- symbols at a needed level: in round brackets if their own level is lower
abbrev pub symbols_at_level : (needed own : ℕ) → List Symbol → List Symbol
symbols_at_level needed own ts = if nat_le needed own then ts else open_round ∷ (ts ++ close_round ∷ [])

-- a binary operator between its operands
abbrev pub binary_symbols : (code left_level right_level : ℕ) → (left right : List Symbol) → List Symbol
binary_symbols code left_level right_level left right =
    symbols_at_level (level_of code) left_level left ++ symbols.Operator code ∷ symbols_at_level (level_of code + 1) right_level right

abbrev pub expression_symbols : Expression → List Symbol
expression_symbols (Number n) = symbols.Number n ∷ []
expression_symbols (Name x) = symbols.Name x ∷ []
expression_symbols (Element x i) = symbols.Name x ∷ open_square ∷ (expression_symbols i ++ close_square ∷ [])
expression_symbols (Or a b) = binary_symbols 1 (level_in a) (level_in b) (expression_symbols a) (expression_symbols b)
expression_symbols (And a b) = binary_symbols 2 (level_in a) (level_in b) (expression_symbols a) (expression_symbols b)
expression_symbols (Binary code a b) = binary_symbols code (level_in a) (level_in b) (expression_symbols a) (expression_symbols b)
expression_symbols (Unary code a) = unary_symbol code ∷ symbols_at_level operand_level (level_in a) (expression_symbols a)
expression_symbols More = word_more ∷ open_round ∷ close_round ∷ []
expression_symbols Take = word_take ∷ open_round ∷ close_round ∷ []
expression_symbols Iter = word_iter ∷ open_round ∷ close_round ∷ []

-- ---- statements

-- a block
abbrev pub block_pieces : List Piece → List Piece
block_pieces ps = Single open_brace ∷ (ps ++ Single close_brace ∷ [])

-- a part that is not empty: its word and its block
abbrev pub part_pieces : ℕ → Statements → List Piece → List Piece
part_pieces word Empty ps = []
part_pieces word (Then s ss) ps = Single (symbols.Word word) ∷ block_pieces ps

-- a statement that names a next stage, given the pieces of its number
abbrev pub stage_pieces : StageKind → List Piece → List Piece
stage_pieces kinds.Wait ps = Single word_pipe_wait ∷ Single open_round ∷ (ps ++ Single close_round ∷ Single semicolon ∷ [])
stage_pieces kinds.Continue ps = Single word_pipe_continue ∷ Single open_round ∷ (ps ++ Single close_round ∷ Single semicolon ∷ [])

abbrev mutual
  pub statement_pieces : Statement → List Piece
  statement_pieces (Let x e) =
      Single word_let ∷ Single (symbols.Name x) ∷ Single equals ∷ FullExpression (expression_symbols e) ∷ Single semicolon ∷ []
  statement_pieces (Assign x e) = Single (symbols.Name x) ∷ Single equals ∷ FullExpression (expression_symbols e) ∷ Single semicolon ∷ []
  statement_pieces (AssignElement x i e) =
      Single (symbols.Name x) ∷ Single open_square ∷ FullExpression (expression_symbols i) ∷ Single close_square ∷ Single equals
      ∷ FullExpression (expression_symbols e) ∷ Single semicolon ∷ []
  statement_pieces (Emit e) = Single word_emit ∷ FullExpression (expression_symbols e) ∷ Single semicolon ∷ []
  statement_pieces (If e a b) =
      Single word_if ∷ Single open_round ∷ FullExpression (expression_symbols e) ∷ Single close_round
      ∷ (block_pieces (statements_pieces a) ++ part_pieces 14 b (statements_pieces b))
  statement_pieces (While e a) =
      Single word_while ∷ Single open_round ∷ FullExpression (expression_symbols e) ∷ Single close_round ∷ block_pieces
      (statements_pieces a)
  statement_pieces (Stage kind e) = stage_pieces kind (FullExpression (expression_symbols e) ∷ [])
  statement_pieces (NextStage kind) = stage_pieces kind []

  pub statements_pieces : Statements → List Piece
  statements_pieces Empty = []
  statements_pieces (Then s ss) = statement_pieces s ++ statements_pieces ss

-- ---- programs

-- the size of an array, if there is one
abbrev pub size_pieces : Option ℤ → List Piece
size_pieces None = []
size_pieces (Some n) = Single open_square ∷ Single (symbols.Number n) ∷ Single close_square ∷ []

abbrev pub value_pieces : ℤ → List Piece
value_pieces (pos n) = Single (symbols.Number (pos n)) ∷ []
value_pieces (negsuc n) = Single minus ∷ Single (symbols.Number (pos (suc n))) ∷ []

-- declarations, followed by `more`
abbrev pub cells_pieces : List Declaration → List Piece
cells_pieces [] = []
cells_pieces (d ∷ ds) =
    Single word_cell ∷ Single (symbols.Name d.name) ∷ (size_pieces d.size ++ Single
    equals ∷ (value_pieces d.value ++ Single semicolon ∷ cells_pieces ds))

abbrev pub program_pieces : SyntaxTree → List Piece
program_pieces tree =
    limits_before tree.limits.iterations tree.limits.stages tree.limits.steps tree.limits.emits
    (cells_pieces tree.cells ++ (part_pieces 7 tree.init (statements_pieces tree.init) ++ Single word_pipe_while ∷ Single open_round
    ∷ FullExpression (expression_symbols tree.test) ∷ Single close_round
    ∷ (block_pieces (statements_pieces tree.body) ++ part_pieces 11 tree.last (statements_pieces tree.last))))

-- ---- what a text can write

-- the bytes are a name: no reserved word, and not too long
pub record IsName (x : List ℕ) : Type 0 where
  pub symbol : symbol_of x ≡ Some (symbols.Name x)
  pub short : length x ≤ 64

-- a number from 0 to the greatest `i64`
pub data IsNumeral : ℤ → Type 0 where
  Numeral : (n : ℕ) → n < 2 ^ 63 → IsNumeral (pos n)

-- a declared value: a numeral, or a numeral after a minus sign
pub data IsDeclaredValue : ℤ → Type 0 where
  Positive : (n : ℕ) → n < 2 ^ 63 → IsDeclaredValue (pos n)
  Negative : (n : ℕ) → suc n < 2 ^ 63 → IsDeclaredValue (negsuc n)

-- each name and number of the expression can be written, and each operator code is known
abbrev pub IsWritable : Expression → Type 0
IsWritable (Number n) = IsNumeral n
IsWritable (Name x) = IsName x
IsWritable (Element x i) = IsName x × IsWritable i
IsWritable (Or a b) = IsWritable a × IsWritable b
IsWritable (And a b) = IsWritable a × IsWritable b
IsWritable (Binary code a b) = (3 ≤ code) × (code ≤ 13) × IsWritable a × IsWritable b
IsWritable (Unary code a) = ((code ≡ 1) ⊎ (code ≡ 2)) × IsWritable a
IsWritable More = Unit {0}
IsWritable Take = Unit {0}
IsWritable Iter = Unit {0}

abbrev mutual
  -- the same for a statement
  pub IsWritableStatement : Statement → Type 0
  IsWritableStatement (Let x e) = IsName x × IsWritable e
  IsWritableStatement (Assign x e) = IsName x × IsWritable e
  IsWritableStatement (AssignElement x i e) = IsName x × IsWritable i × IsWritable e
  IsWritableStatement (Emit e) = IsWritable e
  IsWritableStatement (If e a b) = IsWritable e × AreWritable a × AreWritable b
  IsWritableStatement (While e a) = IsWritable e × AreWritable a
  IsWritableStatement (Stage kind e) = IsWritable e
  IsWritableStatement (NextStage kind) = Unit {0}

  -- the same for statements in order
  pub AreWritable : Statements → Type 0
  AreWritable Empty = Unit {0}
  AreWritable (Then s ss) = IsWritableStatement s × AreWritable ss

-- the same for the size of an array, if there is one
abbrev pub IsWritableSize : Option ℤ → Type 0
IsWritableSize None = Unit {0}
IsWritableSize (Some n) = IsNumeral n

-- the same for declarations
abbrev pub AreWritableCells : List Declaration → Type 0
AreWritableCells [] = Unit {0}
AreWritableCells (d ∷ ds) = IsName d.name × IsWritableSize d.size × IsDeclaredValue d.value × AreWritableCells ds

-- the same for a program
pub record IsWritableProgram (tree : SyntaxTree) : Type 0 where
  pub iterations : IsNumeral tree.limits.iterations
  pub stages : IsNumeral tree.limits.stages
  pub steps : IsNumeral tree.limits.steps
  pub emits : IsNumeral tree.limits.emits
  pub cells : AreWritableCells tree.cells
  pub init : AreWritable tree.init
  pub test : IsWritable tree.test
  pub body : AreWritable tree.body
  pub last : AreWritable tree.last
