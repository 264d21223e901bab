-- Bytes, divided at an index as slices divide them.
use Rattle.std.proofs.Common.{◌≡◌, ◌∙◌, ◌+◌, ◌-◌, ◌<◌, ◌++◌, ◌∷◌, [], ℕ, zero, suc, List, ap, arith, drop, get_or, length, subst, sym, take}
use Rattle.std.proofs.lemmas.List.{length-drop, take_all}

divided : (xs : List ℕ) (k b : ℕ) → k < length xs → get_or xs k 0 ≡ b → xs ≡ take k xs ++ b ∷ drop (suc k) xs
divided [] k b l e = absurd (omega (arith, l))
divided (x ∷ xs) zero b l e = ap (λ y. y ∷ xs) e
divided (x ∷ xs) (suc k) b l e = ap (λ ys. x ∷ ys) (divided xs k b (omega (arith, l)) e)

pub split_at : (xs : List ℕ) (k b : ℕ) → k < length xs → get_or xs k 0 ≡ b
    → xs ≡ take k xs ++ b ∷ take (length xs - (k + 1)) (drop (k + 1) xs)
split_at xs k b l e =
    let next : suc k ≡ k + 1 = omega arith in
    subst (λ n. xs ≡ take k xs ++ b ∷ drop n xs) next (divided xs k b l e)
    ∙ ap (λ rest. take k xs ++ b ∷ rest)
    (sym (take_all (length xs - (k + 1)) (drop (k + 1) xs) (omega (arith, length-drop (k + 1) xs))))
