-- The longest prefix of a list whose items pass a test.
use Rattle.std.proofs.Common.{◌≡◌, ◌∙◌, ℕ, ◌+◌, Bool, true, false, List, [], ◌∷◌, take, drop, refl, ap, sym, suc, arith, cond}
use Rattle.std.specs.List.{list_all, prefix_len}

-- an item that passes, before a prefix that passes
one_more_passes : (p : ℕ → Bool) (x n : ℕ) (xs : List ℕ) → p x ≡ true → list_all p (take n xs) ≡ true
    → list_all p (take (1 + n) (x ∷ xs)) ≡ true
one_more_passes p x n xs here rest = let e : 1 + n ≡ suc n = omega arith in rw (e, here) rest

-- all items of the counted prefix pass
pub prefix_passes : (p : ℕ → Bool) (xs : List ℕ) → list_all p (take (prefix_len p xs) xs) ≡ true
prefix_passes p [] = refl
prefix_passes p (x ∷ xs) = by_first (p x) refl (prefix_passes p xs)
  where
    by_first : (b : Bool) → p x ≡ b → list_all p (take (prefix_len p xs) xs) ≡ true → list_all p
        (take (cond (p x) (1 + prefix_len p xs) 0) (x ∷ xs)) ≡ true
    by_first true e ih = rw e (one_more_passes p x (prefix_len p xs) xs e ih)
    by_first false e ih = rw e refl

-- the first item after it fails
pub rest_fails : (p : ℕ → Bool) (xs : List ℕ) (c : ℕ) (more : List ℕ) → drop (prefix_len p xs) xs ≡ c ∷ more → p c ≡ false
rest_fails p [] c more e = cc (e)
rest_fails p (x ∷ xs) c more e = by_first (p x) refl (rest_fails p xs c more) e
  where
    by_first : (b : Bool) → p x ≡ b → (drop (prefix_len p xs) xs ≡ c ∷ more → p c ≡ false)
        → drop (cond (p x) (1 + prefix_len p xs) 0) (x ∷ xs) ≡ c ∷ more → p c ≡ false
    by_first true t ih h = let s : 1 + prefix_len p xs ≡ suc (prefix_len p xs) = omega arith in ih (rw (t, s) at h)
    by_first false f ih h = let g : x ∷ xs ≡ c ∷ more = rw f at h in let same : x ≡ c = cc (g) in ap p (sym same) ∙ f
