-- Items of lists.
use Rattle.std.proofs.Common.{◌≡◌, ℕ, zero, suc, get_or, ◌<◌, List, [], ◌∷◌, length, refl, ap, arith, ◌≢◌, set}

-- at an index of the list, `get_or` does not use its default
pub get_any : {A : Type 0} (xs : List A) (i : ℕ) (d e : A) → i < length xs → get_or xs i d ≡ get_or xs i e
get_any [] i d e l = absurd (omega (arith, l))
get_any (x ∷ xs) zero d e l = refl
get_any (x ∷ xs) (suc i) d e l = get_any xs i d e (omega (arith, l))

-- an item at another index is as before
pub set_other : {A : Type 0} (xs : List A) (i j : ℕ) (x d : A) → j ≢ i → get_or (set xs i x) j d ≡ get_or xs j d
set_other [] i j x d ne = refl
set_other (y ∷ xs) zero zero x d ne = absurd (ne refl)
set_other (y ∷ xs) zero (suc j) x d ne = refl
set_other (y ∷ xs) (suc i) zero x d ne = refl
set_other (y ∷ xs) (suc i) (suc j) x d ne = set_other xs i j x d (λ e. ne (ap suc e))
