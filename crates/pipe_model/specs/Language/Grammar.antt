-- The grammar of the whole language: which symbols derive which expression, and which pieces derive which statements and program,
-- one constructor for each line of the grammar. A piece is one symbol, or the symbols of a full expression: one that is not part of
-- another. The bounds on brackets and on full expressions are not part of the grammar; they are in Spelling.
use Rattle.std.specs.Prelude.{◌≡◌, ℕ, suc, ℤ, pos, List, [], ◌∷◌, ◌++◌, slice_index, Option, Some, None}
use Rattle.pipe_model.specs.declared.operator_codes.TheConstants as operator_codes
use Rattle.pipe_model.specs.declared.levels.TheConstants.{ANY_EXPRESSION, OPERAND}
use Rattle.std.proofs.Math.IntN.{neg_ℤ}
use Rattle.pipe_model.specs.declared.tree.StageKind.TheVariants as kinds
use Rattle.pipe_model.specs.declared.symbol.Symbol.{Symbol}
use Rattle.pipe_model.specs.declared.symbol.Symbol.TheVariants as symbols
use Rattle.pipe_model.specs.declared.tree.Declaration.{Declaration}
use Rattle.pipe_model.specs.Language.SyntaxTree.{Expression, Number, Name, Element, Unary, More, Take, Iter, binary_expression, Statement}
use Rattle.pipe_model.specs.Language.SyntaxTree.{Let, Assign, AssignElement, Emit, If, While, Stage, NextStage, Statements, Empty, Then}
use Rattle.pipe_model.specs.Language.SyntaxTree.{SyntaxTree}
use Rattle.pipe_model.specs.Language.Words.{word_limits, word_iterations, word_stages, word_steps, word_emits, word_cell, word_init}
use Rattle.pipe_model.specs.Language.Words.{word_pipe_while, word_pipe_wait, word_pipe_continue, word_final, word_let, word_if, word_else}
use Rattle.pipe_model.specs.Language.Words.{word_while, word_emit, word_more, word_take, word_iter, minus, exclamation, open_round}
use Rattle.pipe_model.specs.Language.Words.{close_round, comma, semicolon, equals, open_square, close_square, open_brace, close_brace}

-- the level of each binary operator by its code from 1 to 13; 0 if no operator has the code
abbrev pub level_of : ℕ → ℕ
level_of code = slice_index (0 ∷ 1 ∷ 2 ∷ 3 ∷ 3 ∷ 4 ∷ 4 ∷ 4 ∷ 4 ∷ 5 ∷ 5 ∷ 6 ∷ 6 ∷ 6 ∷ []) code

-- the level of an operand, which binds more tightly than each binary operator
abbrev pub operand_level : ℕ
operand_level = OPERAND

-- the level of any expression: the level of the operator that binds most loosely
abbrev pub any_expression : ℕ
any_expression = ANY_EXPRESSION

-- the symbols derive the expression at a level: an operand at the level of operands, and at a lower level expressions of the
-- next level with operators of this level between them, which are left-associative
pub data Derives : ℕ → List Symbol → Expression → Type 0 where
  Numeral : (n : ℤ) → Derives operand_level (symbols.Number n ∷ []) (Number n)
  Named : (name : List ℕ) → Derives operand_level (symbols.Name name ∷ []) (Name name)
  Indexed : {inside : List Symbol} {e : Expression} (name : List ℕ) → Derives any_expression inside e
      → Derives operand_level (symbols.Name name ∷ open_square ∷ (inside ++ close_square ∷ [])) (Element name e)
  CallsMore : Derives operand_level (word_more ∷ open_round ∷ close_round ∷ []) More
  CallsTake : Derives operand_level (word_take ∷ open_round ∷ close_round ∷ []) Take
  CallsIter : Derives operand_level (word_iter ∷ open_round ∷ close_round ∷ []) Iter
  Negative : {ts : List Symbol} {e : Expression} → Derives operand_level ts e → Derives operand_level (minus ∷ ts)
      (Unary operator_codes.NEGATIVE e)
  Not : {ts : List Symbol} {e : Expression} → Derives operand_level ts e → Derives operand_level (exclamation ∷ ts)
      (Unary operator_codes.NOT e)
  Bracketed : {inside : List Symbol} {e : Expression} → Derives any_expression inside e → Derives operand_level
      (open_round ∷ (inside ++ close_round ∷ [])) e
  Tighter : {level : ℕ} {ts : List Symbol} {e : Expression} → Derives (suc level) ts e → Derives level ts e
  Joined : {level : ℕ} {left right : List Symbol} {a b : Expression} (code : ℕ) → level_of code ≡ level
      → Derives level left a → Derives (suc level) right b → Derives level (left ++ symbols.Operator code ∷ right)
      (binary_expression code a b)

pub data Piece : Type 0 where
  Single : Symbol → Piece
  FullExpression : List Symbol → Piece

-- the symbols of pieces
abbrev pub flat : List Piece → List Symbol
flat [] = []
flat (Single t ∷ ps) = t ∷ flat ps
flat (FullExpression ts ∷ ps) = ts ++ flat ps

mutual
  pub data DerivesStatement : List Piece → Statement → Type 0 where
    LetIs : {ts : List Symbol} {e : Expression} (name : List ℕ) → Derives any_expression ts e
        → DerivesStatement (Single word_let ∷ Single (symbols.Name name) ∷ Single equals ∷ FullExpression ts ∷ Single semicolon ∷ [])
        (Let name e)
    AssignIs : {ts : List Symbol} {e : Expression} (name : List ℕ) → Derives any_expression ts e
        → DerivesStatement (Single (symbols.Name name) ∷ Single equals ∷ FullExpression ts ∷ Single semicolon ∷ []) (Assign name e)
    AssignElementIs : {us ts : List Symbol} {index e : Expression} (name : List ℕ) → Derives any_expression us index
        → Derives any_expression ts e
        → DerivesStatement
        (Single (symbols.Name name) ∷ Single open_square ∷ FullExpression us ∷ Single close_square ∷ Single equals ∷ FullExpression
        ts ∷ Single semicolon ∷ [])
        (AssignElement name index e)
    EmitIs : {ts : List Symbol} {e : Expression} → Derives any_expression ts e
        → DerivesStatement (Single word_emit ∷ FullExpression ts ∷ Single semicolon ∷ []) (Emit e)
    IfIs : {ts : List Symbol} {ps qs : List Piece} {e : Expression} {a b : Statements} → Derives any_expression ts e → DerivesBlock ps a
        → DerivesPart word_else qs b
        → DerivesStatement (Single word_if ∷ Single open_round ∷ FullExpression ts ∷ Single close_round ∷ (ps ++ qs)) (If e a b)
    WhileIs : {ts : List Symbol} {ps : List Piece} {e : Expression} {a : Statements} → Derives any_expression ts e → DerivesBlock ps a
        → DerivesStatement (Single word_while ∷ Single open_round ∷ FullExpression ts ∷ Single close_round ∷ ps) (While e a)
    WaitIs : {ts : List Symbol} {e : Expression} → Derives any_expression ts e
        → DerivesStatement (Single word_pipe_wait ∷ Single open_round ∷ FullExpression ts ∷ Single close_round ∷ Single semicolon ∷ [])
        (Stage kinds.Wait e)
    WaitNextIs : DerivesStatement (Single word_pipe_wait ∷ Single open_round ∷ Single close_round ∷ Single semicolon ∷ [])
        (NextStage kinds.Wait)
    ContinueIs : {ts : List Symbol} {e : Expression} → Derives any_expression ts e
        → DerivesStatement (Single word_pipe_continue ∷ Single open_round ∷ FullExpression ts ∷ Single close_round ∷ Single semicolon ∷ [])
        (Stage kinds.Continue e)
    ContinueNextIs : DerivesStatement (Single word_pipe_continue ∷ Single open_round ∷ Single close_round ∷ Single semicolon ∷ [])
        (NextStage kinds.Continue)

  -- statements one after the other
  pub data DerivesStatements : List Piece → Statements → Type 0 where
    NoStatement : DerivesStatements [] Empty
    OneMore : {ps qs : List Piece} {s : Statement} {ss : Statements} → DerivesStatement ps s → DerivesStatements qs ss
        → DerivesStatements (ps ++ qs) (Then s ss)

  -- statements in braces
  pub data DerivesBlock : List Piece → Statements → Type 0 where
    BlockIs : {ps : List Piece} {ss : Statements} → DerivesStatements ps ss → DerivesBlock
        (Single open_brace ∷ (ps ++ Single close_brace ∷ [])) ss

  -- a part that may be missing: its word, which is `else`, `init` or `final`, and a block
  pub data DerivesPart : Symbol → List Piece → Statements → Type 0 where
    NoPart : {word : Symbol} → DerivesPart word [] Empty
    PartIs : {word : Symbol} {ps : List Piece} {ss : Statements} → DerivesBlock ps ss → DerivesPart word (Single word ∷ ps) ss

-- the size of an array, which may be missing
pub data DerivesSize : List Piece → Option ℤ → Type 0 where
  NoSize : DerivesSize [] None
  SizeIs : (n : ℤ) → DerivesSize (Single open_square ∷ Single (symbols.Number n) ∷ Single close_square ∷ []) (Some n)

-- a declared value
pub data DerivesValue : List Piece → ℤ → Type 0 where
  ValueIs : (n : ℤ) → DerivesValue (Single (symbols.Number n) ∷ []) n
  NegativeValueIs : (n : ℕ) → DerivesValue (Single minus ∷ Single (symbols.Number (pos n)) ∷ []) (neg_ℤ (pos n))

-- the declaration of a cell
abbrev pub declaration : List ℕ → Option ℤ → ℤ → Declaration
declaration name size value = record { name = name; size = size; value = value }

-- declarations one after the other
pub data DerivesCells : List Piece → List Declaration → Type 0 where
  NoCell : DerivesCells [] []
  CellIs : {ps qs rs : List Piece} {size : Option ℤ} {value : ℤ} {ds : List Declaration} (name : List ℕ)
      → DerivesSize ps size → DerivesValue qs value → DerivesCells rs ds
      → DerivesCells (Single word_cell ∷ Single (symbols.Name name) ∷ (ps ++ Single equals ∷ (qs ++ Single semicolon ∷ rs)))
      (declaration name size value ∷ ds)

-- the line of limits, followed by these pieces
abbrev pub limits_before : (iterations stages steps emits : ℤ) → List Piece → List Piece
limits_before iterations stages steps emits ps =
    Single word_limits ∷ Single word_iterations ∷ Single (symbols.Number iterations) ∷ Single comma ∷ Single word_stages ∷ Single
    (symbols.Number stages)
    ∷ Single comma ∷ Single word_steps ∷ Single (symbols.Number steps) ∷ Single comma ∷ Single word_emits ∷ Single (symbols.Number emits)
    ∷ Single semicolon ∷ ps

-- a program: limits, cells, what runs before the loop, the loop with its test and body, and what runs after it
pub data DerivesProgram : List Piece → SyntaxTree → Type 0 where
  ProgramIs : {cs is bs ls : List Piece} {ts : List Symbol} {cells : List Declaration} {init body last : Statements} {test : Expression}
      (iterations stages steps emits : ℤ) → DerivesCells cs cells → DerivesPart word_init is init → Derives any_expression ts test
      → DerivesBlock bs body → DerivesPart word_final ls last
      → DerivesProgram
      (limits_before iterations stages steps emits
      (cs ++ (is ++ Single word_pipe_while ∷ Single open_round ∷ FullExpression ts ∷ Single close_round ∷ (bs ++ ls))))
      (record {
        limits = record { iterations = iterations; stages = stages; steps = steps; emits = emits };
        cells = cells;
        init = init;
        test = test;
        body = body;
        last = last;
      })
