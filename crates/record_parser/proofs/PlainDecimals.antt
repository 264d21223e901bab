-- Digits without a leading zero are what `decimal` writes of their value.
use Rattle.std.proofs.Common.{◌≡◌, ◌∙◌, ap, sym, subst, refl, arith, rules, ℕ, zero, suc, ◌+◌, ◌-◌, ◌*◌, ◌<◌, ◌^◌, List, [], ◌∷◌, Bool}
use Rattle.std.proofs.Common.{true, false, length, get_or, fold}
use Rattle.std.specs.Prelude.{◌&&◌, ◌||◌, not, ◌==◌}
use Rattle.std.specs.Fmt.{decimal}
use Rattle.std.specs.List.{list_all}
use Rattle.std.proofs.lemmas.Fmt.{decimal_nonempty, digits_decimal, digits_value-decimal, decimal-digits_value, first_decimal}
use Rattle.std.proofs.lemmas.Fmt.{decimal_digit}
use Rattle.std.proofs.lemmas.Str.Parse.{IsNumeralModel, IsDigitsTest, FoldsDigits, numerals_by_fold}
use Rattle.pipe_model.specs.Language.Lexis.{is_digit, number_of}
use Rattle.grammar_laws.proofs.AcceptedPrograms.{both}
use Rattle.record_parser.specs.PlainDecimals.{is_plain_decimal}

abbrev read_on : ℕ → List ℕ → ℕ
read_on n ds = fold (λ n d. 10 * n + (d - 48)) n ds

digits_test : IsDigitsTest (λ ds. list_all is_digit ds ≡ true)
digits_test = search rules

folds : FoldsDigits read_on
folds = search rules

pub own : IsNumeralModel (λ ds. list_all is_digit ds ≡ true) number_of
own = numerals_by_fold _ digits_test read_on folds

and_made : (a b : Bool) → a ≡ true → b ≡ true → (a && b) ≡ true
and_made a b e f = rw (e, f) refl

-- a leading zero is the only digit
lead : (b : ℕ) (bs : List ℕ) → (not (b == 48) || (length bs == 0)) ≡ true → b ≡ 48 → length bs ≡ 0
lead b bs e zero_first =
    let f : (length bs == 0) ≡ true = subst (λ x. (not (x == 48) || (length bs == 0)) ≡ true) zero_first e in
    grind (arith, f)

-- such digits are what `decimal` writes
pub plain_is_written : (ds : List ℕ) → is_plain_decimal ds ≡ true → number_of ds < 2 ^ 64 → ds ≡ decimal (number_of ds)
plain_is_written [] e small = absurd (cc)
plain_is_written (b ∷ bs) e small =
    let parts = both (list_all is_digit (b ∷ bs)) (not (b == 48) || (length bs == 0)) e in
    sym (decimal-digits_value own (b ∷ bs) parts.0 (omega arith) (λ z. (let l = lead b bs parts.1 z in omega (arith, l))) small)

first_is : (n b : ℕ) (bs : List ℕ) → n < 2 ^ 64 → decimal n ≡ b ∷ bs → (not (b == 48) || (length bs == 0)) ≡ true
first_is zero b bs small e =
    let one : (48 ∷ []) ≡ b ∷ bs = sym (decimal_digit 0 (omega arith)) ∙ e in
    let l : length bs ≡ 0 = (let a = ap length one in omega (arith, a)) in
    let f : (length bs == 0) ≡ true = grind (arith, l) in
    rw f (or_true (not (b == 48)))
  where
    or_true : (x : Bool) → (x || true) ≡ true
    or_true true = refl
    or_true false = refl
first_is (suc n) b bs small e =
    let above = first_decimal (suc n) (omega arith) small in
    let first : get_or (decimal (suc n)) 0 0 ≡ b = ap (λ ds. get_or ds 0 0) e in
    let other : (b == 48) ≡ false = grind (arith, above, first) in
    rw other refl

-- what `decimal` writes are such digits
pub written_is_plain : (n : ℕ) → n < 2 ^ 64 → is_plain_decimal (decimal n) ≡ true
written_is_plain n small = by (decimal n) refl
  where
    by : (ds : List ℕ) → decimal n ≡ ds → is_plain_decimal ds ≡ true
    by [] e = absurd (let s = decimal_nonempty n small in let l = ap length e in omega (arith, s, l))
    by (b ∷ bs) e = and_made (list_all is_digit (b ∷ bs)) (not (b == 48) || (length bs == 0))
        (subst (λ ds. list_all is_digit ds ≡ true) e (digits_decimal own n small)) (first_is n b bs small e)

pub value_is : (n : ℕ) → n < 2 ^ 64 → number_of (decimal n) ≡ n
value_is n small = digits_value-decimal own n small
