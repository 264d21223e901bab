-- The numbers of an input file, and the fault of a file that is not a list of numbers within the bounds.
use Rattle.std.specs.Prelude.{◌≡◌, ℕ, ℤ, pos, neg_ℤ, ◌≤ℤ◌, ◌^◌, ◌-◌, ◌+◌, ◌<◌, ◌≤◌, ◌==◌, Bool, true, false, List, [], ◌∷◌, ◌++◌, length}
use Rattle.std.specs.Prelude.{drop, All}
use Rattle.std.specs.Prelude.{Option, Some, None, if◌then◌else◌, option_map}
use Rattle.std.specs.List.{list_all}
use Rattle.pipe_model.specs.Language.Lexis.{is_blank, is_digit, number_of}
use Rattle.pipe_io.specs.declared.bounds.TheConstants.{LONGEST_INPUT, MOST_NUMBERS}
use Rattle.pipe_io.specs.declared.input_fault.InputFault.{InputFault}
use Rattle.pipe_io.specs.declared.input_fault.InputFault.TheVariants as faults

-- ---- numbers

-- the byte `-`
abbrev pub minus : ℕ
minus = 45

-- the number that one or more digits write
abbrev pub digits_value : List ℕ → Option ℕ
digits_value [] = None
digits_value (d ∷ ds) = if list_all is_digit (d ∷ ds) then Some (number_of (d ∷ ds)) else None

-- a number with its sign
abbrev pub signed : (is_negative : Bool) → ℕ → ℤ
signed true n = neg_ℤ (pos n)
signed false n = pos n

-- the number that a text is, if it is one: an optional `-`, and then digits
abbrev pub value_of : List ℕ → Option ℤ
value_of [] = None
value_of (b ∷ bs) = if b == minus then option_map (signed true) (digits_value bs) else option_map (signed false) (digits_value (b ∷ bs))

-- a number may end here: the file ends, or a separator is next
abbrev pub EndsNumber : List ℕ → Type 0
EndsNumber [] = Unit {0}
EndsNumber (b ∷ bs) = is_blank b ≡ true

-- the bytes are these numbers, among separators, and then `rest`
pub data ListsNumbers : List ℕ → List ℤ → List ℕ → Type 0 where
  EndsHere : (rest : List ℕ) → ListsNumbers rest [] rest
  Separator : {bytes rest : List ℕ} {numbers : List ℤ} (b : ℕ) → is_blank b ≡ true → ListsNumbers bytes numbers rest
      → ListsNumbers (b ∷ bytes) numbers rest
  Number : {bytes rest : List ℕ} {numbers : List ℤ} (text : List ℕ) (n : ℤ) → value_of text ≡ Some n → EndsNumber bytes
      → ListsNumbers bytes numbers rest → ListsNumbers (text ++ bytes) (n ∷ numbers) rest

-- the number is an `i64`
abbrev pub FitsI64 : ℤ → Type 0
FitsI64 n = (neg_ℤ (pos (2 ^ 63)) ≤ℤ n) × (n ≤ℤ pos (2 ^ 63 - 1))

-- the file is these numbers, within the bounds
pub record AreNumbersOf (bytes : List ℕ) (numbers : List ℤ) : Type 0 where
  pub short : length bytes ≤ LONGEST_INPUT
  pub listed : ListsNumbers bytes numbers []
  pub bounded : length numbers ≤ MOST_NUMBERS
  pub narrow : All FitsI64 numbers

-- ---- faults

-- the file is not too long, and up to exactly this offset it is these numbers within the bounds, among separators
pub record IsReached (bytes : List ℕ) (place : ℕ) (numbers : List ℤ) : Type 0 where
  pub short : length bytes ≤ LONGEST_INPUT
  pub within : place ≤ length bytes
  pub listed : ListsNumbers bytes numbers (drop place bytes)
  pub bounded : length numbers ≤ MOST_NUMBERS
  pub narrow : All FitsI64 numbers

-- the bytes begin with a digit
abbrev pub begins_digit : List ℕ → Bool
begins_digit [] = false
begins_digit (b ∷ bs) = is_digit b

-- the bytes begin with this number, which `text` writes with all its digits; `following` comes after it
pub record BeginsNumber (bytes text following : List ℕ) (n : ℤ) : Type 0 where
  pub parts : bytes ≡ text ++ following
  pub value : value_of text ≡ Some n
  pub whole : begins_digit following ≡ false

-- there is a byte here, and neither a separator nor a number begins with it
abbrev pub BeginsNothing : List ℕ → Type 0
BeginsNothing [] = ⊥
BeginsNothing (b ∷ bs) = (is_blank b ≡ false) × (is_digit b ≡ false) × ((b == minus) ≡ false)

-- there is a `-` here, and no digit after it
abbrev pub BeginsBareMinus : List ℕ → Type 0
BeginsBareMinus [] = ⊥
BeginsBareMinus (b ∷ bs) = ((b == minus) ≡ true) × (begins_digit bs ≡ false)

-- the file has this fault: it is too long, or else this is its first fault. A number after the last allowed one is too many whatever
-- its value. A number that is too wide counts before a bad byte after it
pub data HasFault (bytes : List ℕ) : InputFault → Type 0 where
  IsTooLong : LONGEST_INPUT < length bytes → HasFault bytes faults.TooLong
  HasStrayByte : (place : ℕ) (before : List ℤ) → IsReached bytes place before → BeginsNothing (drop place bytes)
      → HasFault bytes (faults.BadByte place)
  HasBareMinus : (place : ℕ) (before : List ℤ) → IsReached bytes place before → BeginsBareMinus (drop place bytes)
      → HasFault bytes (faults.BadByte (place + 1))
  HasTooMany : (place : ℕ) (before : List ℤ) (text following : List ℕ) (n : ℤ) → IsReached bytes place before → length before ≡ MOST_NUMBERS
      → BeginsNumber (drop place bytes) text following n → HasFault bytes (faults.TooMany place)
  HasWideNumber : (place : ℕ) (before : List ℤ) (text following : List ℕ) (n : ℤ) → IsReached bytes place before
      → length before < MOST_NUMBERS
      → BeginsNumber (drop place bytes) text following n → (FitsI64 n → ⊥) → HasFault bytes (faults.TooWide place)
  HasCutNumber : (place : ℕ) (before : List ℤ) (text following : List ℕ) (n : ℤ) → IsReached bytes place before
      → length before < MOST_NUMBERS
      → BeginsNumber (drop place bytes) text following n → FitsI64 n → (EndsNumber following → ⊥)
      → HasFault bytes (faults.BadByte (place + length text))

-- the file has the returned fault; `NoMemory` says nothing about the file
abbrev pub IsFaultOf : List ℕ → InputFault → Type 0
IsFaultOf bytes (faults.BadByte place) = HasFault bytes (faults.BadByte place)
IsFaultOf bytes (faults.TooWide place) = HasFault bytes (faults.TooWide place)
IsFaultOf bytes (faults.TooMany place) = HasFault bytes (faults.TooMany place)
IsFaultOf bytes faults.TooLong = HasFault bytes faults.TooLong
IsFaultOf bytes faults.NoMemory = Unit {0}
