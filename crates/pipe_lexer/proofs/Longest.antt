-- The longest token with which bytes begin: words, names and numbers.
use Rattle.std.proofs.Common.{◌≡◌, ◌≢◌, ◌∙◌, ℕ, ◌+◌, Bool, true, false, List, [], ◌∷◌, ◌++◌, take, drop, Some, None, refl, ap, sym, suc}
use Rattle.std.proofs.Common.{pos, arith, cond}
use Rattle.std.specs.List.{list_all, prefix_len}
use Rattle.std.proofs.lemmas.List.Folds.{list_all-append}
use Rattle.pipe_model.specs.declared.symbol.Symbol.{Symbol}
use Rattle.pipe_model.specs.declared.symbol.Symbol.TheVariants as symbols
use Rattle.pipe_model.specs.Language.Lexis.{is_letter, is_digit, is_name_byte, number_of, punctuation_symbol, symbol_of, word_symbol}
use Rattle.pipe_model.specs.Language.Lexis.{IsLongest}

-- a byte that passes, before a prefix that passes
one_more_passes : (p : ℕ → Bool) (x n : ℕ) (xs : List ℕ) → p x ≡ true → list_all p (take n xs) ≡ true
    → list_all p (take (1 + n) (x ∷ xs)) ≡ true
one_more_passes p x n xs here rest = let e : 1 + n ≡ suc n = omega arith in rw (e, here) rest

-- all bytes of the counted prefix pass
pub front_passes : (p : ℕ → Bool) (xs : List ℕ) → list_all p (take (prefix_len p xs) xs) ≡ true
front_passes p [] = refl
front_passes p (x ∷ xs) = by_first (p x) refl (front_passes p xs)
  where
    by_first : (b : Bool) → p x ≡ b → list_all p (take (prefix_len p xs) xs) ≡ true → list_all p
        (take (cond (p x) (1 + prefix_len p xs) 0) (x ∷ xs)) ≡ true
    by_first true e ih = rw e (one_more_passes p x (prefix_len p xs) xs e ih)
    by_first false e ih = rw e refl

-- the first byte after it fails
pub rest_fails : (p : ℕ → Bool) (xs : List ℕ) (c : ℕ) (more : List ℕ) → drop (prefix_len p xs) xs ≡ c ∷ more → p c ≡ false
rest_fails p [] c more e = cc (e)
rest_fails p (x ∷ xs) c more e = by_first (p x) refl (rest_fails p xs c more) e
  where
    by_first : (b : Bool) → p x ≡ b → (drop (prefix_len p xs) xs ≡ c ∷ more → p c ≡ false)
        → drop (cond (p x) (1 + prefix_len p xs) 0) (x ∷ xs) ≡ c ∷ more → p c ≡ false
    by_first true t ih h = let s : 1 + prefix_len p xs ≡ suc (prefix_len p xs) = omega arith in ih (rw (t, s) at h)
    by_first false f ih h = let g : x ∷ xs ≡ c ∷ more = rw f at h in let same : x ≡ c = cc (g) in ap p (sym same) ∙ f

-- a longer prefix fails
longer_fails : (p : ℕ → Bool) (xs : List ℕ) (c : ℕ) (more after : List ℕ) → drop (prefix_len p xs) xs ≡ (c ∷ more) ++ after
    → list_all p (take (prefix_len p xs) xs ++ c ∷ more) ≡ false
longer_fails p xs c more after e = rw (
  list_all-append p (take (prefix_len p xs) xs) (c ∷ more),
  front_passes p xs,
  rest_fails p xs c
      (more ++ after) e,
) refl

-- ---- words and names

-- a letter, with the letters, digits and `_` after it, is a word or a name
pub word_is : (b : ℕ) (bs : List ℕ) → is_letter b ≡ true
    → symbol_of (b ∷ take (prefix_len is_name_byte bs) bs) ≡ Some (word_symbol (b ∷ take (prefix_len is_name_byte bs) bs))
word_is b bs letter = rw (letter, front_passes is_name_byte bs) refl

-- and no longer prefix is one
pub word_is_longest : (b : ℕ) (bs : List ℕ) → is_letter b ≡ true → IsLongest (b ∷ take (prefix_len is_name_byte bs) bs)
    (drop (prefix_len is_name_byte bs) bs)
word_is_longest b bs letter = record { longest = no_longer }
  where
    no_longer : (more after : List ℕ) (s : Symbol) → drop (prefix_len is_name_byte bs) bs ≡ more ++ after → more ≢ []
        → symbol_of ((b ∷ take (prefix_len is_name_byte bs) bs) ++ more) ≡ Some s → ⊥
    no_longer [] after s e some t = some refl
    no_longer (c ∷ more) after s e some t = let none : None ≡ Some s = rw (letter, longer_fails is_name_byte bs c more after e) at t in
        cc (none)

-- ---- numbers

-- a digit, with the digits after it, is a number
pub number_is : (b : ℕ) (bs : List ℕ) → is_letter b ≡ false → is_digit b ≡ true
    → symbol_of (b ∷ take (prefix_len is_digit bs) bs) ≡ Some (symbols.Number (pos (number_of (b ∷ take (prefix_len is_digit bs) bs))))
number_is b bs letter digit = rw (letter, digit, front_passes is_digit bs) refl

-- and no longer prefix is one
pub number_is_longest : (b : ℕ) (bs : List ℕ) → is_letter b ≡ false → is_digit b ≡ true
    → IsLongest (b ∷ take (prefix_len is_digit bs) bs) (drop (prefix_len is_digit bs) bs)
number_is_longest b bs letter digit = record { longest = no_longer }
  where
    no_longer : (more after : List ℕ) (s : Symbol) → drop (prefix_len is_digit bs) bs ≡ more ++ after → more ≢ []
        → symbol_of ((b ∷ take (prefix_len is_digit bs) bs) ++ more) ≡ Some s → ⊥
    no_longer [] after s e some t = some refl
    no_longer (c ∷ more) after s e some t = let none : None ≡ Some s = rw (letter, digit, longer_fails is_digit bs c more after e) at t in
        cc (none)

-- ---- punctuation

-- if bytes begin with neither a letter nor a digit, their symbol is an operator or a sign
pub as_punctuation : (b : ℕ) (bs : List ℕ) → is_letter b ≡ false → is_digit b ≡ false → symbol_of (b ∷ bs) ≡ punctuation_symbol (b ∷ bs)
as_punctuation b bs letter digit = rw (letter, digit) refl
