-- The number with which bytes begin.
use Rattle.std.proofs.Common.{◌≡◌, ◌∙◌, ap, sym, refl, ℕ, ℤ, ◌+◌, ◌<◌, ◌≤◌, ◌==◌, Bool, true, false, cond, List, [], ◌∷◌, ◌++◌, length}
use Rattle.std.proofs.Common.{take, drop, length-take-le, Some, suc, arith}
use Rattle.std.specs.List.{list_all, prefix_len}
use Rattle.std.proofs.lemmas.Bool.{and_parts}
use Rattle.std.proofs.lemmas.Bool.Decides.{nat_tests}
use Rattle.std.proofs.lemmas.List.{take-append-drop}
use Rattle.std.proofs.lemmas.List.Sums.{prefix_len-le-length}
use Rattle.pipe_model.specs.Language.Lexis.{is_digit, number_of}
use Rattle.pipe_io.specs.declared.numerals.Flaw.TheVariants as flaws
use Rattle.pipe_io.specs.declared.bounds.TheConstants.{MOST_NUMBERS}
use Rattle.pipe_io.specs.InputFile.{BeginsNothing, BeginsNumber, FitsI64, EndsNumber, begins_digit, digits_value, signed, value_of, minus}
use Rattle.pipe_io.specs.Numerals.{BeginsPlain, CutNumber, IsFlaw, IsNumeralOf, OneMore, WideNumber, BareMinus, StrayByte, with_sign}
use Rattle.pipe_io.proofs.CountedPrefixes.{prefix_passes, rest_fails}

-- digits have a value
digits_is : (ds : List ℕ) → 0 < length ds → list_all is_digit ds ≡ true → digits_value ds ≡ Some (number_of ds)
digits_is [] some all = absurd (omega arith)
digits_is (d ∷ ds) some all = rw all refl

-- so do digits with a sign or without one
pub value_is : (b : Bool) (ds : List ℕ) → 0 < length ds → list_all is_digit ds ≡ true → value_of (with_sign b ds) ≡ Some
    (signed b (number_of ds))
value_is true ds some all = rw (digits_is ds some all) refl
value_is false [] some all = absurd (omega arith)
value_is false (d ∷ ds) some all =
    let digit : is_digit d ≡ true = (and_parts (is_digit d) (list_all is_digit ds) all).0 in
    let bare : (d == minus) ≡ false = grind (arith, nat_tests, digit) in
    rw (bare, all) refl

-- no digit comes after all digits
no_digit : (ds rest : List ℕ) → drop (prefix_len is_digit ds) ds ≡ rest → begins_digit rest ≡ false
no_digit ds [] e = refl
no_digit ds (c ∷ more) e = rest_fails is_digit ds c more e

-- the bytes begin with the number of the counted digits
pub begins : (b : Bool) (ds : List ℕ) (m : ℕ) → m ≡ prefix_len is_digit ds → 0 < m
    → BeginsNumber (with_sign b ds) (with_sign b (take m ds)) (drop m ds) (signed b (number_of (take m ds)))
begins b ds m counted some =
    let within : m ≤ length ds = rw counted (prefix_len-le-length is_digit ds) in
    let long : length (take m ds) ≡ m = length-take-le m ds within in
    record {
      parts = by_sign b;
      value = value_is b (take m ds) (omega (arith, long, some)) (rw counted (prefix_passes is_digit ds));
      whole = no_digit ds (drop m ds) (ap (λ x. drop x ds) (sym counted));
    }
  where
    by_sign : (b : Bool) → with_sign b ds ≡ with_sign b (take m ds) ++ drop m ds
    by_sign true = ap (λ x. minus ∷ x) (sym (take-append-drop m ds))
    by_sign false = sym (take-append-drop m ds)

-- if no digit is counted, the bytes begin with none
none_counted : (ds : List ℕ) → prefix_len is_digit ds ≡ 0 → begins_digit ds ≡ false
none_counted ds none = no_digit ds ds (ap (λ n. drop n ds) none)

-- if no digit is counted, there is a bare `-` or a stray byte
pub no_number : (b : Bool) (ds : List ℕ) (before sign m : ℕ) → m ≡ prefix_len is_digit ds → m ≡ 0 → sign ≡ cond b 1 0
    → (b ≡ false → BeginsPlain ds) → IsFlaw (with_sign b ds) before (flaws.BadByte sign)
no_number true ds before sign m counted none s bare = rw s (BareMinus (refl, none_counted ds (sym counted ∙ none)))
no_number false ds before sign m counted none s bare = rw s (StrayByte (by_first ds (bare refl) (none_counted ds (sym counted ∙ none))))
  where
    by_first : (ds : List ℕ) → BeginsPlain ds → begins_digit ds ≡ false → BeginsNothing ds
    by_first [] h d = h
    by_first (c ∷ cs) h d = (h.0, d, h.1)

-- the length of a number with its sign
signed_length : (b : Bool) (ds : List ℕ) (sign m : ℕ) → m ≡ prefix_len is_digit ds → sign ≡ cond b 1 0
    → sign + m ≡ length (with_sign b (take m ds))
signed_length true ds sign m counted s = let long : length (take m ds) ≡ m =
    length-take-le m ds (rw counted (prefix_len-le-length is_digit ds)) in omega (arith, long, s)
signed_length false ds sign m counted s = let long : length (take m ds) ≡ m =
    length-take-le m ds (rw counted (prefix_len-le-length is_digit ds)) in omega (arith, long, s)

-- the bytes after it
after_sign : (b : Bool) (ds : List ℕ) (sign m : ℕ) → sign ≡ cond b 1 0 → drop (sign + m) (with_sign b ds) ≡ drop m ds
after_sign true ds sign m s = let next : 1 + m ≡ suc m = omega arith in rw (s, next) refl
after_sign false ds sign m s = let none : 0 + m ≡ m = omega arith in rw (s, none) refl

-- a number too many
pub one_more : (b : Bool) (ds : List ℕ) (before m : ℕ) → m ≡ prefix_len is_digit ds → 0 < m → before ≡ MOST_NUMBERS
    → IsFlaw (with_sign b ds) before flaws.TooMany
one_more b ds before m counted some full = OneMore _ _ _ full (begins b ds m counted some)

-- a number that is too wide
pub wide : (b : Bool) (ds : List ℕ) (before m : ℕ) → m ≡ prefix_len is_digit ds → 0 < m → before < MOST_NUMBERS
    → (FitsI64 (signed b (number_of (take m ds))) → ⊥) → IsFlaw (with_sign b ds) before flaws.TooWide
wide b ds before m counted some bounded never = WideNumber _ _ _ bounded (begins b ds m counted some) never

-- a number that a bad byte follows
pub cut : (b : Bool) (ds : List ℕ) (before sign m : ℕ) (v : ℤ) → m ≡ prefix_len is_digit ds → 0 < m → before < MOST_NUMBERS
    → sign ≡ cond b 1 0
    → v ≡ signed b (number_of (take m ds)) → FitsI64 v
    → (EndsNumber (drop m ds) → ⊥) → IsFlaw (with_sign b ds) before (flaws.BadByte (sign + m))
cut b ds before sign m v counted some bounded s value fits never =
    rw (signed_length b ds sign m counted s) (CutNumber _ _ _ bounded (begins b ds m counted some) (rw value at fits) never)

-- a number that a separator or the end follows
pub numeral : (b : Bool) (ds : List ℕ) (sign m : ℕ) (v : ℤ) → m ≡ prefix_len is_digit ds → 0 < m → sign ≡ cond b 1 0
    → v ≡ signed b (number_of (take m ds)) → FitsI64 v
    → EndsNumber (drop m ds) → IsNumeralOf (with_sign b ds) (record { value = v; length = sign + m })
numeral b ds sign m v counted some s value fits ends = record {
  text = with_sign b (take m ds);
  measured = signed_length b ds sign m counted s;
  some = omega (arith, some);
  number = rw (after_sign b ds sign m s, value) (begins b ds m counted some);
  ends = rw (after_sign b ds sign m s) ends;
  narrow = fits;
}
