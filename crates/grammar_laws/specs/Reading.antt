-- Reading by the whole grammar: which symbols a reader consumes and which it leaves. The grammar defines which pieces derive a tree;
-- this defines where each part ends, by the symbol that follows it. Both agree, by laws in proofs/.
use Rattle.std.specs.Prelude.{◌≡◌, ◌≢◌, ◌≤◌, ◌+◌, ℕ, suc, ℤ, pos, List, [], ◌∷◌, ◌++◌, length, Option, Some, None}
use Rattle.pipe_model.specs.declared.operator_codes.TheConstants as operator_codes
use Rattle.pipe_model.specs.declared.sign_bytes.TheConstants as signs
use Rattle.pipe_model.specs.declared.word_codes.TheConstants as words
use Rattle.std.proofs.Math.IntN.{neg_ℤ}
use Rattle.pipe_model.specs.declared.tree.StageKind.TheVariants as kinds
use Rattle.pipe_model.specs.declared.symbol.Symbol.{Symbol}
use Rattle.pipe_model.specs.declared.symbol.Symbol.TheVariants as symbols
use Rattle.pipe_model.specs.declared.tree.Declaration.{Declaration}
use Rattle.pipe_model.specs.Language.SyntaxTree.{Expression, Number, Name, Element, Unary, More, Take, Iter, binary_expression, Statement}
use Rattle.pipe_model.specs.Language.SyntaxTree.{Let, Assign, AssignElement, Emit, If, While, Stage, NextStage, Statements, Empty, Then}
use Rattle.pipe_model.specs.Language.SyntaxTree.{SyntaxTree}
use Rattle.pipe_model.specs.Language.Grammar.{any_expression, operand_level, level_of, declaration, flat, limits_before}
use Rattle.pipe_model.specs.Language.Words.{word_cell, word_pipe_while, word_pipe_wait, word_pipe_continue, word_let, word_if, word_while}
use Rattle.pipe_model.specs.Language.Words.{word_emit, word_more, word_take, word_iter, minus, exclamation, open_round, close_round}
use Rattle.pipe_model.specs.Language.Words.{semicolon, equals, open_square, close_square, open_brace, close_brace}

-- the level of the operator with which the symbols begin, 0 if there is none
abbrev pub next_level : List Symbol → ℕ
next_level [] = 0
next_level (symbols.Name name ∷ ts) = 0
next_level (symbols.Word k ∷ ts) = 0
next_level (symbols.Number n ∷ ts) = 0
next_level (symbols.Operator code ∷ ts) = level_of code
next_level (symbols.Sign b ∷ ts) = 0

-- the symbols do not begin with this sign
abbrev pub NoSign : ℕ → List Symbol → Type 0
NoSign sign [] = Unit {0}
NoSign sign (symbols.Name name ∷ ts) = Unit {0}
NoSign sign (symbols.Word k ∷ ts) = Unit {0}
NoSign sign (symbols.Number n ∷ ts) = Unit {0}
NoSign sign (symbols.Operator code ∷ ts) = Unit {0}
NoSign sign (symbols.Sign b ∷ ts) = b ≢ sign

-- the symbols do not begin with this word
abbrev pub NoWord : ℕ → List Symbol → Type 0
NoWord word [] = Unit {0}
NoWord word (symbols.Name name ∷ ts) = Unit {0}
NoWord word (symbols.Word k ∷ ts) = k ≢ word
NoWord word (symbols.Number n ∷ ts) = Unit {0}
NoWord word (symbols.Operator code ∷ ts) = Unit {0}
NoWord word (symbols.Sign b ∷ ts) = Unit {0}

mutual
  -- the symbols begin with an expression of the level, and the last list is left
  pub data Reads : ℕ → List Symbol → Expression → List Symbol → Type 0 where
    ReadsNumeral : (n : ℤ) (rest : List Symbol) → Reads operand_level (symbols.Number n ∷ rest) (Number n) rest
    ReadsName : (name : List ℕ) (rest : List Symbol) → NoSign signs.OPEN_SQUARE rest → Reads operand_level (symbols.Name name ∷ rest)
        (Name name) rest
    ReadsElement : {ts rest : List Symbol} {e : Expression} (name : List ℕ) → Reads any_expression ts e (close_square ∷ rest)
        → Reads operand_level (symbols.Name name ∷ open_square ∷ ts) (Element name e) rest
    ReadsMore : (rest : List Symbol) → Reads operand_level (word_more ∷ open_round ∷ close_round ∷ rest) More rest
    ReadsTake : (rest : List Symbol) → Reads operand_level (word_take ∷ open_round ∷ close_round ∷ rest) Take rest
    ReadsIter : (rest : List Symbol) → Reads operand_level (word_iter ∷ open_round ∷ close_round ∷ rest) Iter rest
    ReadsNegative : {ts rest : List Symbol} {e : Expression} → Reads operand_level ts e rest
        → Reads operand_level (minus ∷ ts) (Unary operator_codes.NEGATIVE e) rest
    ReadsNot : {ts rest : List Symbol} {e : Expression} → Reads operand_level ts e rest
        → Reads operand_level (exclamation ∷ ts) (Unary operator_codes.NOT e) rest
    ReadsBracketed : {ts rest : List Symbol} {e : Expression} → Reads any_expression ts e (close_round ∷ rest)
        → Reads operand_level (open_round ∷ ts) e rest
    ReadsChain : {level : ℕ} {ts mid rest : List Symbol} {a e : Expression} → Reads (suc level) ts a mid → Extends level a mid e rest
        → Reads level ts e rest

  -- operators of the level, each with its right operand, extend the expression as long as there are any
  pub data Extends : ℕ → Expression → List Symbol → Expression → List Symbol → Type 0 where
    Ends : {level : ℕ} {a : Expression} (ts : List Symbol) → next_level ts ≢ level → Extends level a ts a ts
    Joins : {level : ℕ} {a b e : Expression} {ts mid rest : List Symbol} (code : ℕ) → level_of code ≡ level → Reads (suc level) ts b mid
        → Extends level (binary_expression code a b) mid e rest → Extends level a (symbols.Operator code ∷ ts) e rest

-- a full expression of at most `longest` symbols
pub record ReadsFull (longest : ℕ) (ts : List Symbol) (e : Expression) (rest : List Symbol) : Type 0 where
  pub read : Reads any_expression ts e rest
  pub short : length ts ≤ length rest + longest

mutual
  -- a statement whose full expressions have at most `longest` symbols
  pub data ReadsStatement (longest : ℕ) : List Symbol → Statement → List Symbol → Type 0 where
    ReadsLet : {ts rest : List Symbol} {e : Expression} (name : List ℕ) → ReadsFull longest ts e (semicolon ∷ rest)
        → ReadsStatement longest (word_let ∷ symbols.Name name ∷ equals ∷ ts) (Let name e) rest
    ReadsAssign : {ts rest : List Symbol} {e : Expression} (name : List ℕ) → ReadsFull longest ts e (semicolon ∷ rest)
        → ReadsStatement longest (symbols.Name name ∷ equals ∷ ts) (Assign name e) rest
    ReadsAssignElement : {us ts rest : List Symbol} {index e : Expression} (name : List ℕ)
        → ReadsFull longest us index (close_square ∷ equals ∷ ts)
        → ReadsFull longest ts e (semicolon ∷ rest)
        → ReadsStatement longest (symbols.Name name ∷ open_square ∷ us) (AssignElement name index e) rest
    ReadsEmit : {ts rest : List Symbol} {e : Expression} → ReadsFull longest ts e (semicolon ∷ rest)
        → ReadsStatement longest (word_emit ∷ ts) (Emit e) rest
    ReadsIf : {ts us vs rest : List Symbol} {e : Expression} {a b : Statements} → ReadsFull longest ts e (close_round ∷ us)
        → ReadsBlock longest us a vs → ReadsPart longest words.ELSE vs b rest
        → ReadsStatement longest (word_if ∷ open_round ∷ ts) (If e a b) rest
    ReadsWhile : {ts us rest : List Symbol} {e : Expression} {a : Statements} → ReadsFull longest ts e (close_round ∷ us)
        → ReadsBlock longest us a rest
        → ReadsStatement longest (word_while ∷ open_round ∷ ts) (While e a) rest
    ReadsWait : {ts rest : List Symbol} {e : Expression} → ReadsFull longest ts e (close_round ∷ semicolon ∷ rest)
        → ReadsStatement longest (word_pipe_wait ∷ open_round ∷ ts) (Stage kinds.Wait e) rest
    ReadsWaitNext : (rest : List Symbol)
        → ReadsStatement longest (word_pipe_wait ∷ open_round ∷ close_round ∷ semicolon ∷ rest) (NextStage kinds.Wait) rest
    ReadsContinue : {ts rest : List Symbol} {e : Expression} → ReadsFull longest ts e (close_round ∷ semicolon ∷ rest)
        → ReadsStatement longest (word_pipe_continue ∷ open_round ∷ ts) (Stage kinds.Continue e) rest
    ReadsContinueNext : (rest : List Symbol)
        → ReadsStatement longest (word_pipe_continue ∷ open_round ∷ close_round ∷ semicolon ∷ rest) (NextStage kinds.Continue) rest

  -- statements and the brace that closes them
  pub data ReadsStatements (longest : ℕ) : List Symbol → Statements → List Symbol → Type 0 where
    ReadsClose : (rest : List Symbol) → ReadsStatements longest (close_brace ∷ rest) Empty rest
    ReadsOneMore : {ts mid rest : List Symbol} {s : Statement} {ss : Statements} → ReadsStatement longest ts s mid
        → ReadsStatements longest mid ss rest
        → ReadsStatements longest ts (Then s ss) rest

  -- statements in braces
  pub data ReadsBlock (longest : ℕ) : List Symbol → Statements → List Symbol → Type 0 where
    ReadsBraces : {ts rest : List Symbol} {ss : Statements} → ReadsStatements longest ts ss rest
        → ReadsBlock longest (open_brace ∷ ts) ss rest

  -- an optional part: its word and a block
  pub data ReadsPart (longest : ℕ) : ℕ → List Symbol → Statements → List Symbol → Type 0 where
    ReadsNoPart : {word : ℕ} (ts : List Symbol) → NoWord word ts → ReadsPart longest word ts Empty ts
    ReadsPartIs : {word : ℕ} {ts rest : List Symbol} {ss : Statements} → ReadsBlock longest ts ss rest
        → ReadsPart longest word (symbols.Word word ∷ ts) ss rest

-- the optional size of an array
pub data ReadsSize : List Symbol → Option ℤ → List Symbol → Type 0 where
  ReadsNoSize : (ts : List Symbol) → NoSign signs.OPEN_SQUARE ts → ReadsSize ts None ts
  ReadsSizeIs : (n : ℤ) (rest : List Symbol) → ReadsSize (open_square ∷ symbols.Number n ∷ close_square ∷ rest) (Some n) rest

-- a declared value
pub data ReadsValue : List Symbol → ℤ → List Symbol → Type 0 where
  ReadsValueIs : (n : ℤ) (rest : List Symbol) → ReadsValue (symbols.Number n ∷ rest) n rest
  ReadsNegativeValue : (n : ℕ) (rest : List Symbol) → ReadsValue (minus ∷ symbols.Number (pos n) ∷ rest) (neg_ℤ (pos n)) rest

-- the declaration of a cell, after its word
pub data ReadsCell : List Symbol → Declaration → List Symbol → Type 0 where
  ReadsCellIs : {ts us rest : List Symbol} {size : Option ℤ} {value : ℤ} (name : List ℕ) → ReadsSize ts size (equals ∷ us)
      → ReadsValue us value (semicolon ∷ rest) → ReadsCell (symbols.Name name ∷ ts) (declaration name size value) rest

-- declarations, up to the first symbol other than their word
pub data ReadsCells : List Symbol → List Declaration → List Symbol → Type 0 where
  ReadsNoCell : (ts : List Symbol) → NoWord words.CELL ts → ReadsCells ts [] ts
  ReadsCellThen : {ts mid rest : List Symbol} {d : Declaration} {ds : List Declaration} → ReadsCell ts d mid → ReadsCells mid ds rest
      → ReadsCells (word_cell ∷ ts) (d ∷ ds) rest

-- a program, with no symbols after it
pub data ReadsProgram (longest : ℕ) : List Symbol → SyntaxTree → Type 0 where
  ReadsAll : {cs is ts us vs : List Symbol} {cells : List Declaration} {init body last : Statements} {test : Expression}
      (iterations stages steps emits : ℤ)
      → ReadsCells cs cells is → ReadsPart longest words.INIT is init (word_pipe_while ∷ open_round ∷ ts)
      → ReadsFull longest ts test (close_round ∷ us)
      → ReadsBlock longest us body vs → ReadsPart longest words.FINAL vs last []
      → ReadsProgram longest (flat (limits_before iterations stages steps emits []) ++ cs)
      (record {
        limits = record { iterations = iterations; stages = stages; steps = steps; emits = emits };
        cells = cells;
        init = init;
        test = test;
        body = body;
        last = last;
      })
