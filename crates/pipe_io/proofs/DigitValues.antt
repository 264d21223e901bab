-- The numbers that digits write.
use Rattle.std.proofs.Common.{◌≡◌, ◌∙◌, ℕ, ◌+◌, ◌-◌, ◌*◌, ◌<◌, ◌≤◌, List, [], ◌∷◌, length, get_or, take, drop, fold, sym, ap, arith}
use Rattle.std.proofs.lemmas.List.{take-append-drop}
use Rattle.std.proofs.lemmas.List.Sums.{fold-append, fold_more}
use Rattle.pipe_model.specs.Language.Lexis.{number_of}

-- the number with one more digit
abbrev with_digit : ℕ → ℕ → ℕ
with_digit n d = 10 * n + (d - 48)

-- more digits write no smaller number
fold_grows : (a : ℕ) (ys : List ℕ) → a ≤ fold with_digit a ys
fold_grows a [] = omega arith
fold_grows a (y ∷ ys) = let h = fold_grows (with_digit a y) ys in omega (arith, h)

-- a prefix of digits writes no greater number
pub number_of_prefix : (xs : List ℕ) (n : ℕ) → number_of (take n xs) ≤ number_of xs
number_of_prefix xs n =
    let whole : number_of xs ≡ fold with_digit (number_of (take n xs)) (drop n xs) = ap number_of (sym (take-append-drop n xs))
    ∙ fold-append with_digit 0 (take n xs) (drop n xs) in
    rw whole (fold_grows (number_of (take n xs)) (drop n xs))

-- if a prefix writes a number above a bound, so do all digits
pub prefix_too_wide : (xs : List ℕ) (i v most : ℕ) → i < length xs → v ≡ number_of (take i xs) → most < 10 * v + (get_or xs i 0 - 48)
    → most < number_of xs
prefix_too_wide xs i v most within so_far wide =
    let prefix : number_of (take (i + 1) xs) ≡ 10 * v + (get_or xs i 0 - 48) = fold_more with_digit 0 xs i 0 within
    ∙ ap (λ n. with_digit n (get_or xs i 0)) (sym so_far) in
    let below = number_of_prefix xs (i + 1) in
    omega (arith, prefix, below, wide)
