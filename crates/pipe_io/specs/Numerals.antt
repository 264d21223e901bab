-- The number with which bytes begin, and what may be wrong there.
use Rattle.std.specs.Prelude.{◌≡◌, ℕ, ℤ, ◌<◌, ◌+◌, ◌==◌, Bool, true, false, List, [], ◌∷◌, length, drop}
use Rattle.pipe_model.specs.Language.Lexis.{is_blank}
use Rattle.pipe_io.specs.InputFile.{BeginsBareMinus, BeginsNothing, BeginsNumber, EndsNumber, FitsI64, minus}
use Rattle.pipe_io.specs.declared.bounds.TheConstants.{MOST_NUMBERS}
use Rattle.pipe_io.specs.declared.input_fault.InputFault.{InputFault}
use Rattle.pipe_io.specs.declared.input_fault.InputFault.TheVariants as faults
use Rattle.pipe_io.specs.declared.numerals.Flaw.{Flaw}
use Rattle.pipe_io.specs.declared.numerals.Flaw.TheVariants as flaws
use Rattle.pipe_io.specs.declared.numerals.Numeral.{Numeral}

-- the bytes after a `-`, or without one
abbrev pub with_sign : (is_negative : Bool) → List ℕ → List ℕ
with_sign true bytes = minus ∷ bytes
with_sign false bytes = bytes

-- there is a byte here that is neither a separator nor a `-`
abbrev pub BeginsPlain : List ℕ → Type 0
BeginsPlain [] = ⊥
BeginsPlain (b ∷ bs) = (is_blank b ≡ false) × ((b == minus) ≡ false)

-- the bytes begin with this number, within the bounds, and a separator or the end comes after it
pub record IsNumeralOf (bytes : List ℕ) (numeral : Numeral) : Type 0 where
  pub text : List ℕ
  pub measured : numeral.length ≡ length text
  pub some : 0 < numeral.length
  pub number : BeginsNumber bytes text (drop numeral.length bytes) numeral.value
  pub ends : EndsNumber (drop numeral.length bytes)
  pub narrow : FitsI64 numeral.value

-- why no number can be read at the beginning of the bytes, after `before` numbers
pub data IsFlaw (bytes : List ℕ) (before : ℕ) : Flaw → Type 0 where
  StrayByte : BeginsNothing bytes → IsFlaw bytes before (flaws.BadByte 0)
  BareMinus : BeginsBareMinus bytes → IsFlaw bytes before (flaws.BadByte 1)
  OneMore : (text following : List ℕ) (n : ℤ) → before ≡ MOST_NUMBERS → BeginsNumber bytes text following n
      → IsFlaw bytes before flaws.TooMany
  WideNumber : (text following : List ℕ) (n : ℤ) → before < MOST_NUMBERS → BeginsNumber bytes text following n → (FitsI64 n → ⊥)
      → IsFlaw bytes before flaws.TooWide
  CutNumber : (text following : List ℕ) (n : ℤ) → before < MOST_NUMBERS → BeginsNumber bytes text following n → FitsI64 n
      → (EndsNumber following → ⊥)
      → IsFlaw bytes before (flaws.BadByte (length text))

-- the offset of the fault after the first byte
abbrev pub offset_of : Flaw → ℕ
offset_of (flaws.BadByte offset) = offset
offset_of flaws.TooWide = 0
offset_of flaws.TooMany = 0

-- the fault of this flaw at this offset
abbrev pub fault_at : Flaw → ℕ → InputFault
fault_at (flaws.BadByte offset) place = faults.BadByte (place + offset)
fault_at flaws.TooWide place = faults.TooWide place
fault_at flaws.TooMany place = faults.TooMany place
