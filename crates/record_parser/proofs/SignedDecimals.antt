-- Numbers with a sign, in plain decimal.
use Rattle.std.proofs.Common.{◌≡◌, ◌∙◌, ap, sym, refl, arith, ℕ, ℤ, pos, negsuc, suc, ◌+◌, ◌<◌, ◌≤◌, ◌^◌, List, ◌∷◌, get_or, FitsSigned}
use Rattle.std.specs.Fmt.{decimal, signed_decimal}
use Rattle.std.proofs.lemmas.Fmt.{decimal_nonempty, digits_decimal}
use Rattle.std.proofs.lemmas.Str.Parse.{not_in_digits}
use mir.Syntax.{w64}
use Rattle.record_parser.proofs.Divisions.{tail_is}
use Rattle.record_parser.proofs.PlainDecimals.{own}

-- no number below 2^64 begins with `-`
pub no_minus : (n : ℕ) (bs : List ℕ) → n < 2 ^ 64 → 45 ∷ bs ≡ decimal n → ⊥
no_minus n bs small e =
    not_in_digits own (decimal n) 45 (digits_decimal own n small) (λ r. let low = r.0 in omega (arith, low)) 0 (decimal_nonempty n small)
    (ap (λ ds. get_or ds 0 0) (sym e))

-- the number after a `-` is not above 2^63, and is not 0
pub negative_is : (z : ℤ) (bs : List ℕ) → FitsSigned w64 z → 45 ∷ bs ≡ signed_decimal z → (n : ℕ)
    × ((z ≡ negsuc n) × ((n + 1 ≤ 9223372036854775808) × (bs ≡ decimal (n + 1))))
negative_is (pos n) bs fits e = absurd (no_minus n bs (let small = fits.sfits in omega (arith, small)) e)
negative_is (negsuc n) bs fits e = (
  n,
  (
    refl,
    (
      (let small = fits.sfits in omega (arith, small)),
      tail_is e
          ∙ ap decimal (let s : suc n ≡ n + 1 = omega arith in s),
    ),
  ),
)
