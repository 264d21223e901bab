-- A machine that reads expressions one symbol at a time; its state is a list of wants, the parts that still have to follow. The grammar
-- defines expressions; the machine defines at which symbol a reader must stop. Laws in proofs/ relate the two.
use Rattle.std.specs.Prelude.{◌≡◌, ℕ, List, [], ◌∷◌, ◌++◌, Bool, true, false, ◌==◌, Option, Some, None, ◌||◌, if◌then◌else◌, nat_lt, length}
use Rattle.pipe_model.specs.declared.operator_codes.TheConstants as operator_codes
use Rattle.pipe_model.specs.declared.sign_bytes.TheConstants as signs
use Rattle.pipe_model.specs.declared.word_codes.TheConstants as words
use Rattle.pipe_model.specs.declared.symbol.Symbol.{Symbol}
use Rattle.pipe_model.specs.declared.symbol.Symbol.TheVariants as symbols
use Rattle.pipe_model.specs.Language.Grammar.{level_of}

-- a part that has to follow: this sign, an operand, an optional index, or operators, each with an operand, if any
pub data Want : Type 0 where
  Sign : ℕ → Want
  Operand : Want
  Index : Want
  Tail : Want

-- the effect of a symbol on a want: it begins the want, and the given wants remain; it skips the want; or it is not allowed
pub data Move : Type 0 where
  Takes : List Want → Move
  Skips : Move
  Refuses : Move

-- the code of a binary operator
abbrev pub is_operator : ℕ → Bool
is_operator code = nat_lt 0 (level_of code)

-- the word of `more`, `take` or `iter`
abbrev pub is_call : ℕ → Bool
is_call word = (word == words.MORE) || ((word == words.TAKE) || (word == words.ITER))

-- the transition table
abbrev pub move : Want → Symbol → Move
move (Sign sign) (symbols.Sign b) = if b == sign then Takes [] else Refuses
move (Sign sign) (symbols.Name name) = Refuses
move (Sign sign) (symbols.Word word) = Refuses
move (Sign sign) (symbols.Number n) = Refuses
move (Sign sign) (symbols.Operator code) = Refuses
move Operand (symbols.Number n) = Takes []
move Operand (symbols.Name name) = Takes (Index ∷ [])
move Operand (symbols.Word word) = if is_call word then Takes (Sign signs.OPEN_ROUND ∷ Sign signs.CLOSE_ROUND ∷ []) else Refuses
move Operand (symbols.Operator code) = if code == operator_codes.MINUS then Takes (Operand ∷ []) else Refuses
move Operand (symbols.Sign b) =
    if b == signs.OPEN_ROUND then Takes (Operand ∷ Tail ∷ Sign signs.CLOSE_ROUND ∷ [])
    else (if b == signs.EXCLAMATION then Takes (Operand ∷ []) else Refuses)
move Index (symbols.Sign b) = if b == signs.OPEN_SQUARE then Takes (Operand ∷ Tail ∷ Sign signs.CLOSE_SQUARE ∷ []) else Skips
move Index (symbols.Name name) = Skips
move Index (symbols.Word word) = Skips
move Index (symbols.Number n) = Skips
move Index (symbols.Operator code) = Skips
move Tail (symbols.Operator code) = if is_operator code then Takes (Operand ∷ Tail ∷ []) else Skips
move Tail (symbols.Name name) = Skips
move Tail (symbols.Word word) = Skips
move Tail (symbols.Number n) = Skips
move Tail (symbols.Sign b) = Skips

-- the wants after a move
abbrev pub stepped : Move → List Want → Option (List Want) → Option (List Want)
stepped (Takes more) wants below = Some (more ++ wants)
stepped Skips wants below = below
stepped Refuses wants below = None

-- the wants after a symbol, if the symbol is allowed
abbrev pub step : List Want → Symbol → Option (List Want)
step [] t = None
step (want ∷ wants) t = stepped (move want t) wants (step wants t)

abbrev pub and_run : Option (List Want) → (List Want → Option (List Want)) → Option (List Want)
and_run None go = None
and_run (Some wants) go = go wants

-- the wants after symbols, if all are allowed
abbrev pub run : List Symbol → List Want → Option (List Want)
run [] wants = Some wants
run (t ∷ ts) wants = and_run (step wants t) (run ts)

-- all wants are optional
abbrev pub may_end : List Want → Bool
may_end [] = true
may_end (Sign sign ∷ wants) = false
may_end (Operand ∷ wants) = false
may_end (Index ∷ wants) = may_end wants
may_end (Tail ∷ wants) = may_end wants

-- how a reading ends: it is done and leaves these symbols, or it is stuck with n symbols left; n = 0 if the symbols end too early
pub data Ending : Type 0 where
  Done : List Symbol → Ending
  Stuck : ℕ → Ending

-- the result at a symbol that is not allowed, given whether the reading may end there
abbrev pub ended : Bool → List Symbol → Ending
ended true ts = Done ts
ended false ts = Stuck (length ts)

abbrev pub ending_on : Option (List Want) → Ending → (List Want → Ending) → Ending
ending_on None here go = here
ending_on (Some wants) here go = go wants

-- the result of the longest reading of the wants
abbrev pub ending : List Symbol → List Want → Ending
ending [] wants = ended (may_end wants) []
ending (t ∷ ts) wants = ending_on (step wants t) (ended (may_end wants) (t ∷ ts)) (ending ts)

-- a reader of these wants gets stuck with `left` symbols left, whatever wants follow
pub record IsStuck (wants : List Want) (ts : List Symbol) (left : ℕ) : Type 0 where
  pub stuck : (below : List Want) → ending ts (wants ++ below) ≡ Stuck left
