-- A machine that reads programs one symbol at a time. Full expressions are read by the machine of expressions, and their symbols are
-- counted. The grammar defines programs; the machine defines at which symbol a reader must stop, and why. Laws in proofs/ relate the two.
use Rattle.std.specs.Prelude.{◌≡◌, ℕ, suc, List, [], ◌∷◌, ◌++◌, Bool, true, false, ◌==◌, Option, Some, None, ◌&&◌, ◌||◌, if◌then◌else◌}
use Rattle.std.specs.Prelude.{nat_le, ℤ, pos, negsuc, length}
use Rattle.pipe_model.specs.declared.operator_codes.TheConstants as operator_codes
use Rattle.pipe_model.specs.declared.sign_bytes.TheConstants as signs
use Rattle.pipe_model.specs.declared.word_codes.TheConstants as words
use Rattle.pipe_model.specs.declared.symbol.Symbol.{Symbol}
use Rattle.pipe_model.specs.declared.symbol.Symbol.TheVariants as symbols
use Rattle.grammar_laws.specs.ExpressionMachine as expression

-- a part that has to follow; `StageNumber`, `Statements`, `Part` (with its word), `Cells` and `Size` are optional
pub data Want : Type 0 where
  Sign : ℕ → Want
  Word : ℕ → Want
  AnyName : Want
  AnyNumber : Want
  Natural : Want  -- a number from 0 on
  FullExpression : Want
  StageNumber : Want
  Target : Want  -- the rest of an assignment, after the name
  Statements : Want
  Part : ℕ → Want
  Cells : Want
  Size : Want
  Value : Want

-- the effect of a symbol on a want: it begins the want, and the given wants remain; it begins a full expression;
-- it skips the want; or it is not allowed
pub data Move : Type 0 where
  Takes : List Want → Move
  Enters : Move
  Skips : Move
  Refuses : Move

-- statements in braces
abbrev pub block : List Want
block = Sign signs.OPEN_BRACE ∷ Statements ∷ Sign signs.CLOSE_BRACE ∷ []

-- the move for the word with which a statement begins
abbrev pub statement_move : ℕ → Move
statement_move word =
    if word == words.LET then Takes (AnyName ∷ Sign signs.EQUALS ∷ FullExpression ∷ Sign signs.SEMICOLON ∷ Statements ∷ [])
    else (if word == words.IF then Takes (Sign signs.OPEN_ROUND ∷ FullExpression ∷ Sign signs.CLOSE_ROUND ∷ Sign
    signs.OPEN_BRACE ∷ Statements
    ∷ Sign signs.CLOSE_BRACE ∷ Part words.ELSE ∷ Statements ∷ [])
    else (if word == words.WHILE then Takes (Sign signs.OPEN_ROUND ∷ FullExpression ∷ Sign signs.CLOSE_ROUND ∷ Sign
    signs.OPEN_BRACE ∷ Statements
    ∷ Sign signs.CLOSE_BRACE ∷ Statements ∷ [])
    else (if word == words.EMIT then Takes (FullExpression ∷ Sign signs.SEMICOLON ∷ Statements ∷ [])
    else (if (word == words.PIPE_WAIT) || (word == words.PIPE_CONTINUE) then Takes
    (Sign signs.OPEN_ROUND ∷ StageNumber ∷ Sign signs.CLOSE_ROUND ∷ Sign signs.SEMICOLON ∷ Statements ∷ []) else Skips))))

-- the move for a number where a number from 0 on is wanted
abbrev pub natural_move : ℤ → Move
natural_move (pos n) = Takes []
natural_move (negsuc n) = Refuses

-- the transition table
abbrev pub move : Want → Symbol → Move
move (Sign sign) (symbols.Sign b) = if b == sign then Takes [] else Refuses
move (Sign sign) (symbols.Name name) = Refuses
move (Sign sign) (symbols.Word k) = Refuses
move (Sign sign) (symbols.Number n) = Refuses
move (Sign sign) (symbols.Operator code) = Refuses
move (Word word) (symbols.Word k) = if k == word then Takes [] else Refuses
move (Word word) (symbols.Name name) = Refuses
move (Word word) (symbols.Number n) = Refuses
move (Word word) (symbols.Operator code) = Refuses
move (Word word) (symbols.Sign b) = Refuses
move AnyName (symbols.Name name) = Takes []
move AnyName (symbols.Word k) = Refuses
move AnyName (symbols.Number n) = Refuses
move AnyName (symbols.Operator code) = Refuses
move AnyName (symbols.Sign b) = Refuses
move AnyNumber (symbols.Number n) = Takes []
move AnyNumber (symbols.Name name) = Refuses
move AnyNumber (symbols.Word k) = Refuses
move AnyNumber (symbols.Operator code) = Refuses
move AnyNumber (symbols.Sign b) = Refuses
move Natural (symbols.Number n) = natural_move n
move Natural (symbols.Name name) = Refuses
move Natural (symbols.Word k) = Refuses
move Natural (symbols.Operator code) = Refuses
move Natural (symbols.Sign b) = Refuses
move FullExpression t = Enters
move StageNumber (symbols.Sign b) = if b == signs.CLOSE_ROUND then Skips else Enters
move StageNumber (symbols.Name name) = Enters
move StageNumber (symbols.Word k) = Enters
move StageNumber (symbols.Number n) = Enters
move StageNumber (symbols.Operator code) = Enters
move Target (symbols.Sign b) =
    if b == signs.EQUALS then Takes (FullExpression ∷ Sign signs.SEMICOLON ∷ [])
    else (if b == signs.OPEN_SQUARE then Takes (FullExpression ∷ Sign signs.CLOSE_SQUARE ∷ Sign signs.EQUALS ∷ FullExpression ∷ Sign
    signs.SEMICOLON ∷ []) else Refuses)
move Target (symbols.Name name) = Refuses
move Target (symbols.Word k) = Refuses
move Target (symbols.Number n) = Refuses
move Target (symbols.Operator code) = Refuses
move Statements (symbols.Name name) = Takes (Target ∷ Statements ∷ [])
move Statements (symbols.Word k) = statement_move k
move Statements (symbols.Number n) = Skips
move Statements (symbols.Operator code) = Skips
move Statements (symbols.Sign b) = Skips
move (Part word) (symbols.Word k) = if k == word then Takes block else Skips
move (Part word) (symbols.Name name) = Skips
move (Part word) (symbols.Number n) = Skips
move (Part word) (symbols.Operator code) = Skips
move (Part word) (symbols.Sign b) = Skips
move Cells (symbols.Word k) = if k == words.CELL then Takes
    (AnyName ∷ Size ∷ Sign signs.EQUALS ∷ Value ∷ Sign signs.SEMICOLON ∷ Cells ∷ []) else Skips
move Cells (symbols.Name name) = Skips
move Cells (symbols.Number n) = Skips
move Cells (symbols.Operator code) = Skips
move Cells (symbols.Sign b) = Skips
move Size (symbols.Sign b) = if b == signs.OPEN_SQUARE then Takes (AnyNumber ∷ Sign signs.CLOSE_SQUARE ∷ []) else Skips
move Size (symbols.Name name) = Skips
move Size (symbols.Word k) = Skips
move Size (symbols.Number n) = Skips
move Size (symbols.Operator code) = Skips
move Value (symbols.Number n) = Takes []
move Value (symbols.Operator code) = if code == operator_codes.MINUS then Takes (Natural ∷ []) else Refuses
move Value (symbols.Name name) = Refuses
move Value (symbols.Word k) = Refuses
move Value (symbols.Sign b) = Refuses

-- outside full expressions, with these wants; or inside one, after n of its symbols, with its wants and the program's
pub data MachineState : Type 0 where
  Outside : List Want → MachineState
  Inside : ℕ → List expression.Want → List Want → MachineState

-- the wants of a full expression
abbrev pub whole : List expression.Want
whole = expression.Operand ∷ expression.Tail ∷ []

-- the state after the first symbol of a full expression
abbrev pub entered : Option (List expression.Want) → List Want → Option MachineState
entered None wants = None
entered (Some inner) wants = Some (Inside 1 inner wants)

-- the state after a move
abbrev pub stepped : Move → Symbol → List Want → Option MachineState → Option MachineState
stepped (Takes more) t wants below = Some (Outside (more ++ wants))
stepped Enters t wants below = entered (expression.step whole t) wants
stepped Skips t wants below = below
stepped Refuses t wants below = None

-- the state after a symbol that does not continue a full expression
abbrev pub step : List Want → Symbol → Option MachineState
step [] t = None
step (want ∷ wants) t = stepped (move want t) t wants (step wants t)

-- the state after a symbol inside a full expression: the symbol continues it, or the expression may end before the symbol
abbrev pub continued : Option (List expression.Want) → Bool → ℕ → List Want → Option MachineState → Option MachineState
continued (Some inner) may_end n wants outside = Some (Inside (suc n) inner wants)
continued None true n wants outside = outside
continued None false n wants outside = None

-- the state after a symbol, if the symbol is allowed
abbrev pub next : MachineState → Symbol → Option MachineState
next (Outside wants) t = step wants t
next (Inside n inner wants) t = continued (expression.step inner t) (expression.may_end inner) n wants (step wants t)

abbrev pub and_run : Option MachineState → (MachineState → Option MachineState) → Option MachineState
and_run None go = None
and_run (Some s) go = go s

-- the state after symbols, if all are allowed
abbrev pub run : List Symbol → MachineState → Option MachineState
run [] s = Some s
run (t ∷ ts) s = and_run (next s t) (run ts)

-- all wants are optional
abbrev pub may_end : List Want → Bool
may_end [] = true
may_end (Sign sign ∷ wants) = false
may_end (Word word ∷ wants) = false
may_end (AnyName ∷ wants) = false
may_end (AnyNumber ∷ wants) = false
may_end (Natural ∷ wants) = false
may_end (FullExpression ∷ wants) = false
may_end (StageNumber ∷ wants) = may_end wants
may_end (Target ∷ wants) = false
may_end (Statements ∷ wants) = may_end wants
may_end (Part word ∷ wants) = may_end wants
may_end (Cells ∷ wants) = may_end wants
may_end (Size ∷ wants) = may_end wants
may_end (Value ∷ wants) = false

-- the symbols may end here
abbrev pub is_final : MachineState → Bool
is_final (Outside wants) = may_end wants
is_final (Inside n inner wants) = expression.may_end inner && may_end wants

-- the result for symbols: they are accepted; the first of the last n symbols is not allowed (n = 0: the symbols end too early);
-- or the first of the last n symbols makes a full expression too long
pub data Verdict : Type 0 where
  Accepted : Verdict
  Unexpected : ℕ → Verdict
  TooLong : ℕ → Verdict

-- continues only if the full expression has at most `longest` symbols so far
abbrev pub judged_in : ℕ → MachineState → ℕ → (MachineState → Verdict) → Verdict
judged_in longest (Outside wants) left go = go (Outside wants)
judged_in longest (Inside n inner wants) left go = if nat_le n longest then go (Inside n inner wants) else TooLong left

abbrev pub judged : ℕ → Option MachineState → ℕ → (MachineState → Verdict) → Verdict
judged longest None left go = Unexpected left
judged longest (Some s) left go = judged_in longest s left go

-- the verdict on symbols, if full expressions may have at most `longest` symbols
abbrev pub judge : ℕ → List Symbol → MachineState → Verdict
judge longest [] s = if is_final s then Accepted else Unexpected 0
judge longest (t ∷ ts) s = judged longest (next s t) (length (t ∷ ts)) (judge longest ts)

-- the wants of a program
abbrev pub program : List Want
program =
    Word words.LIMITS ∷ Word words.ITERATIONS ∷ AnyNumber ∷ Sign signs.COMMA ∷ Word words.STAGES ∷ AnyNumber ∷ Sign signs.COMMA ∷ Word
    words.STEPS ∷ AnyNumber ∷ Sign signs.COMMA ∷ Word words.EMITS ∷ AnyNumber ∷ Sign signs.SEMICOLON
    ∷ Cells ∷ Part words.INIT ∷ Word words.PIPE_WHILE ∷ Sign signs.OPEN_ROUND ∷ FullExpression ∷ Sign signs.CLOSE_ROUND ∷ Sign
    signs.OPEN_BRACE
    ∷ Statements ∷ Sign signs.CLOSE_BRACE ∷ Part words.FINAL ∷ []

-- the machine rejects symbols at these wants with this verdict, whatever wants follow
pub record IsRejected (longest : ℕ) (wants : List Want) (ts : List Symbol) (verdict : Verdict) : Type 0 where
  pub refused : (below : List Want) → judge longest ts (Outside (wants ++ below)) ≡ verdict
