-- Each input is a list of numbers, or it has a fault.
use Rattle.std.proofs.Common.{◌≡◌, ◌∙◌, sym, ℕ, ℤ, ◌<◌, ◌≤◌, ◌^◌, Bool, true, false, List, [], ◌∷◌, ◌++◌, length, length-drop, take, drop}
use Rattle.std.proofs.Common.{refl, zero, suc, arith, ◌⊎◌, inl, inr, cond, ◌==◌}
use Rattle.std.specs.List.{prefix_len}
use Rattle.std.proofs.lemmas.Bool.{cases_lt, false≢true}
use Rattle.std.proofs.lemmas.Bool.Decides.{nat_tests}
use Rattle.std.proofs.lemmas.Int.{ints}
use Rattle.pipe_model.specs.Language.Lexis.{is_blank, is_digit, number_of}
use Rattle.pipe_io.specs.declared.bounds.TheConstants.{LONGEST_INPUT, MOST_NUMBERS}
use Rattle.pipe_io.specs.declared.input_fault.InputFault.{InputFault}
use Rattle.pipe_io.specs.declared.numerals.Flaw.{Flaw}
use Rattle.pipe_io.specs.declared.numerals.Flaw.TheVariants as flaws
use Rattle.pipe_io.specs.declared.numerals.Numeral.{Numeral}
use Rattle.pipe_io.specs.InputFile.{AreNumbersOf, EndsNumber, FitsI64, HasFault, IsTooLong, minus, signed}
use Rattle.pipe_io.specs.Numerals.{BeginsPlain, IsFlaw, IsNumeralOf, with_sign}
use Rattle.pipe_io.proofs.NumeralLaws.{cut, no_number, numeral, one_more, wide}
use Rattle.pipe_io.proofs.ReadingLaws.{Reaches, at_end, at_flaw, at_start, past_number, past_separator}

-- ---- the number with which bytes begin

-- the bytes begin with a number and one more is allowed, or something is wrong there
abbrev NumeralOrFlaw : List ℕ → ℕ → Type 0
NumeralOrFlaw bytes before = ((numeral : Numeral) × IsNumeralOf bytes numeral × (before < MOST_NUMBERS)) ⊎
    ((flaw : Flaw) × IsFlaw bytes before flaw)

-- whether a number may end before these bytes is decided
ends_or_not : (bytes : List ℕ) → EndsNumber bytes ⊎ (EndsNumber bytes → ⊥)
ends_or_not [] = inl tt
ends_or_not (b ∷ bs) = by_test (is_blank b) refl
  where
    by_test : (t : Bool) → is_blank b ≡ t → (is_blank b ≡ true) ⊎ (is_blank b ≡ true → ⊥)
    by_test true e = inl e
    by_test false e = inr (λ h. false≢true (sym e ∙ h))

-- whether a number fits an `i64` is decided
fits_or_not : (is_negative : Bool) (n : ℕ) → FitsI64 (signed is_negative n) ⊎ (FitsI64 (signed is_negative n) → ⊥)
fits_or_not true n = elim (cases_lt (2 ^ 63) n) [
  | inl wide ↦ inr (λ fits. omega (arith, ints, wide, fits.0))
  | inr narrow ↦ inl (omega (arith, ints, narrow), omega (arith, ints, narrow))
]
fits_or_not false n = elim (cases_lt n (2 ^ 63)) [
  | inl narrow ↦ inl (omega (arith, ints, narrow), omega (arith, ints, narrow))
  | inr wide ↦ inr (λ fits. omega (arith, ints, wide, fits.1))
]

-- whether a byte is a separator is decided
blank_or_not : (b : ℕ) → (is_blank b ≡ true) ⊎ (is_blank b ≡ false)
blank_or_not b = by_test (is_blank b) refl
  where
    by_test : (t : Bool) → is_blank b ≡ t → (is_blank b ≡ true) ⊎ (is_blank b ≡ false)
    by_test true e = inl e
    by_test false e = inr e

-- the digits, after a `-` or without one, begin with a number, or something is wrong there
signed_or_flaw : (is_negative : Bool) (ds : List ℕ) (before : ℕ) → before ≤ MOST_NUMBERS → (is_negative ≡ false → BeginsPlain ds)
    → NumeralOrFlaw (with_sign is_negative ds) before
signed_or_flaw is_negative ds before bounded plain = by_count (cases_lt 0 (prefix_len is_digit ds))
  where
    by_end : 0 < prefix_len is_digit ds → before < MOST_NUMBERS
        → FitsI64 (signed is_negative (number_of (take (prefix_len is_digit ds) ds)))
        → EndsNumber (drop (prefix_len is_digit ds) ds) ⊎ (EndsNumber (drop (prefix_len is_digit ds) ds) → ⊥)
        → NumeralOrFlaw (with_sign is_negative ds) before
    by_end some room fits (inl ends) = inl (
      _,
      numeral is_negative ds (cond is_negative 1 0)
          (prefix_len is_digit ds) _ refl some refl refl fits ends,
      room,
    )
    by_end some room fits (inr never) = inr (
      _,
      cut is_negative ds before (cond is_negative 1 0)
          (prefix_len is_digit ds) _ refl some room refl refl fits never,
    )

    by_value : 0 < prefix_len is_digit ds → before < MOST_NUMBERS
        → FitsI64 (signed is_negative (number_of (take (prefix_len is_digit ds) ds)))
        ⊎ (FitsI64 (signed is_negative (number_of (take (prefix_len is_digit ds) ds))) → ⊥)
        → NumeralOrFlaw (with_sign is_negative ds) before
    by_value some room (inl fits) = by_end some room fits (ends_or_not (drop (prefix_len is_digit ds) ds))
    by_value some room (inr never) = inr (_, wide is_negative ds before (prefix_len is_digit ds) refl some room never)

    by_room : 0 < prefix_len is_digit ds → (before < MOST_NUMBERS) ⊎ (MOST_NUMBERS ≤ before)
        → NumeralOrFlaw (with_sign is_negative ds) before
    by_room some (inl room) = by_value some room (fits_or_not is_negative (number_of (take (prefix_len is_digit ds) ds)))
    by_room some (inr full) = inr (_, one_more is_negative ds before (prefix_len is_digit ds) refl some (omega (arith, full, bounded)))

    by_count : (0 < prefix_len is_digit ds) ⊎ (prefix_len is_digit ds ≤ 0) → NumeralOrFlaw (with_sign is_negative ds) before
    by_count (inl some) = by_room some (cases_lt before MOST_NUMBERS)
    by_count (inr none) = inr (
      _,
      no_number is_negative ds before (cond is_negative 1 0) (prefix_len is_digit ds) refl
          (omega (arith, none)) refl plain,
    )

-- so do all bytes whose first one is no separator
numeral_or_flaw : (b : ℕ) (following : List ℕ) (before : ℕ) → before ≤ MOST_NUMBERS → is_blank b ≡ false
    → NumeralOrFlaw (b ∷ following) before
numeral_or_flaw b following before bounded no_blank = by_sign (b == minus) refl
  where
    by_sign : (t : Bool) → (b == minus) ≡ t → NumeralOrFlaw (b ∷ following) before
    by_sign true e =
        let same : b ≡ minus = grind (arith, nat_tests, e) in
        rw same (signed_or_flaw true following before bounded (λ h. absurd (false≢true (sym h))))
    by_sign false e = signed_or_flaw false (b ∷ following) before bounded (λ h. (no_blank, e))

-- ---- whole inputs

-- the input is a list of numbers, or it has a fault
abbrev NumbersOrFault : List ℕ → Type 0
NumbersOrFault bytes = ((numbers : List ℤ) × AreNumbersOf bytes numbers) ⊎ ((fault : InputFault) × HasFault bytes fault)

-- a flaw after the numbers found so far is a fault of the input
flaw_is_fault : (bytes rest : List ℕ) (found : List ℤ) (flaw : Flaw) → Reaches bytes found rest → IsFlaw rest (length found) flaw
    → (fault : InputFault) × HasFault bytes fault
flaw_is_fault bytes rest found (flaws.BadByte offset) r f = (_, at_flaw bytes rest found (flaws.BadByte offset) _ r f refl)
flaw_is_fault bytes rest found flaws.TooWide r f = (_, at_flaw bytes rest found flaws.TooWide _ r f refl)
flaw_is_fault bytes rest found flaws.TooMany r f = (_, at_flaw bytes rest found flaws.TooMany _ r f refl)

-- if at most `bound` bytes are left, the input is numbers or has a fault
goes_on : (bound : ℕ) (bytes : List ℕ) (found : List ℤ) (rest : List ℕ) → length rest ≤ bound → Reaches bytes found rest
    → NumbersOrFault bytes
goes_on bound bytes found [] h r = inl (found, at_end bytes found r)
goes_on zero bytes found (b ∷ following) h r = absurd (omega arith)
goes_on (suc bound) bytes found (b ∷ following) h r = elim (blank_or_not b) [
  | inl blank ↦ goes_on bound bytes found following (omega (arith, h)) (past_separator bytes (b ∷ following) following found b r refl blank)
  | inr no_blank ↦ elim (numeral_or_flaw b following (length found) r.bounded no_blank) [
    | inl p ↦ (
        let some = p.1.some in
        goes_on bound bytes (found ++ p.0.value ∷ []) (drop p.0.length (b ∷ following))
        (omega (arith, h, some, length-drop p.0.length (b ∷ following)))
        (past_number bytes (b ∷ following) found p.0 r p.1 p.2))
    | inr f ↦ inr (flaw_is_fault bytes (b ∷ following) found f.0 r f.1)
  ]
]

pub numbers_or_fault : (bytes : List ℕ) → NumbersOrFault bytes
numbers_or_fault bytes = elim (cases_lt LONGEST_INPUT (length bytes)) [
  | inl long ↦ inr (_, IsTooLong long)
  | inr short ↦ goes_on (length bytes) bytes [] bytes (omega arith) (at_start bytes short)
]
