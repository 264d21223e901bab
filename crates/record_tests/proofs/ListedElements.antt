-- Where an element is in a list.
use Rattle.std.proofs.Common.{◌≡◌, refl, ℕ, zero, suc, List, [], ◌∷◌, ◌<◌, length, get_or, true, inl, inr, eq-eqb, ne_eqb, arith}
use Rattle.std.proofs.lemmas.Bool.{cases_eq}
use Rattle.pipe_model.specs.Orders.OrderList.{has, place}

pub has_at : (xs : List ℕ) (x k d : ℕ) → k < length xs → get_or xs k d ≡ x → has x xs ≡ true
has_at [] x k d within e = absurd (omega arith)
has_at (y ∷ ys) x zero d within e = rw (eq-eqb y x e) refl
has_at (y ∷ ys) x (suc k) d within e = elim (cases_eq y x) [
  | inl same ↦ rw (eq-eqb y x same) refl
  | inr apart ↦ rw (ne_eqb y x apart) (has_at ys x k d (omega arith) e)
]

pub place_at : (xs : List ℕ) (x k d : ℕ) → k < length xs → get_or xs k d ≡ x
    → ((j : ℕ) → j < k → get_or xs j 0 ≡ x → ⊥) → place x xs ≡ k
place_at [] x k d within e first = absurd (omega arith)
place_at (y ∷ ys) x zero d within e first = rw (eq-eqb y x e) refl
place_at (y ∷ ys) x (suc k) d within e first =
    rw (ne_eqb y x (first 0 (omega arith)))
    (let p = place_at ys x k d (omega arith) e (λ j l. first (suc j) (omega arith)) in omega (arith, p))

pub place_nowhere : (xs : List ℕ) (x : ℕ) → ((j : ℕ) → j < length xs → get_or xs j 0 ≡ x → ⊥) → place x xs ≡ length xs
place_nowhere [] x none = refl
place_nowhere (y ∷ ys) x none =
    rw (ne_eqb y x (none 0 (omega arith)))
    (let p = place_nowhere ys x (λ j l. none (suc j) (omega arith)) in omega (arith, p))
