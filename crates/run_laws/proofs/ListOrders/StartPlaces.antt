-- How starts are numbered, and which elements they take.
use Rattle.std.proofs.Common.{ap, ap₂, ◌≢◌, ◌⊎◌, ℕ, ◌≡◌, ◌<◌, ◌+◌, ◌*◌, ◌≤◌, suc, arith, sym, ◌∙◌}
use mathlib.Core.Path.{subst₂}
use Rattle.run_laws.proofs.ListOrders.ListPlaces.{MovesPlaces}

-- `number` is the number of the start of (i, j), and `element` the element that it takes; there are n starts
pub record IsCounted (number element : ℕ → ℕ → ℕ) (n : ℕ) : Type 0 where
  pub same : (i j k l : ℕ) → number i j < n → number i j ≡ number k l → (i ≡ k) × (j ≡ l)
  pub below : (i j : ℕ) → number i j < n → element i j < 1 + 2 * number i j
  pub once : (i j k l : ℕ) → number i j < n → number k l < n → element i j ≡ element k l → (i ≡ k) × (j ≡ l)
  pub rises : (i j k : ℕ) → j ≤ k → number i k < n → number i j ≤ number i k
  pub heads : (i k : ℕ) → i ≤ k → number k 0 < n → number i 0 ≤ number k 0

-- different elements have different indices
pub record Apart (m : ℕ) (pos : ℕ → ℕ) : Type 0 where
  pub apart : (a b : ℕ) → a < 1 + 2 * m → b < 1 + 2 * m → pos a ≡ pos b → a ≡ b

-- what holds of (x, y) holds of every instance with its number
pub at_newest : (number element : ℕ → ℕ → ℕ) (m x y : ℕ) → IsCounted number element (suc m) → number x y ≡ m
    → (P : ℕ → ℕ → Type 0) → P x y → (i j : ℕ) → number i j ≡ m → P i j
at_newest number element m x y counted at P p i j e =
    let s = counted.same x y i j (omega arith) (at ∙ sym e) in
    subst₂ P s.0 s.1 p

-- how start number m, which takes t, changes the indices: the new instance is where t was, and its two placeholders
-- are right after it; every older instance and placeholder stays or moves by two; and no older instance was
-- where t was
pub record MovesInstances (number element : ℕ → ℕ → ℕ) (m t : ℕ) (pos pos' : ℕ → ℕ) : Type 0 where
  pub new_element : (i j : ℕ) → number i j ≡ m → pos' (element i j) ≡ pos t
  pub new_one : (i j : ℕ) → number i j ≡ m → pos' (1 + 2 * number i j) ≡ pos t + 1
  pub new_two : (i j : ℕ) → number i j ≡ m → pos' (2 + 2 * number i j) ≡ pos t + 2
  pub old_element : (i j : ℕ) → number i j < m
      → ((pos (element i j) ≤ pos t) × (pos' (element i j) ≡ pos (element i j)))
      ⊎ ((pos t < pos (element i j)) × (pos' (element i j) ≡ pos (element i j) + 2))
  pub old_one : (i j : ℕ) → number i j < m
      → ((pos (1 + 2 * number i j) ≤ pos t) × (pos' (1 + 2 * number i j) ≡ pos (1 + 2 * number i j)))
      ⊎ ((pos t < pos (1 + 2 * number i j)) × (pos' (1 + 2 * number i j) ≡ pos (1 + 2 * number i j) + 2))
  pub old_two : (i j : ℕ) → number i j < m
      → ((pos (2 + 2 * number i j) ≤ pos t) × (pos' (2 + 2 * number i j) ≡ pos (2 + 2 * number i j)))
      ⊎ ((pos t < pos (2 + 2 * number i j)) × (pos' (2 + 2 * number i j) ≡ pos (2 + 2 * number i j) + 2))
  pub apart : (i j : ℕ) → number i j < m → pos (element i j) ≢ pos t

-- two insertions after t change them so
pub moves_instances : (number element : ℕ → ℕ → ℕ) (m t : ℕ) (pos pos' : ℕ → ℕ) → IsCounted number element (suc m)
    → (i : ℕ) × (j : ℕ) × (number i j ≡ m) → ((i j : ℕ) → number i j ≡ m → element i j ≡ t) → MovesPlaces pos pos' t m
    → MovesInstances number element m t pos pos'
moves_instances number element m t pos pos' counted new takes moves = record {
  new_element = λ i j e. (
      let h : element i j ≡ t = takes i j e in
      let at = moves.each t moves.old in
      let q : pos' (element i j) ≡ pos' t = ap pos' h in
      omega (arith, at));
  new_one = λ i j e. ap (λ k. pos' (1 + 2 * k)) e ∙ moves.at_one;
  new_two = λ i j e. ap (λ k. pos' (2 + 2 * k)) e ∙ moves.at_two;
  old_element = λ i j l. (let b = counted.below i j (omega arith) in moves.each (element i j) (omega (arith, b)));
  old_one = λ i j l. moves.each (1 + 2 * number i j) (omega arith);
  old_two = λ i j l. moves.each (2 + 2 * number i j) (omega arith);
  apart = λ i j l q. (
      let below = counted.below i j (omega arith) in
      let taken : element i j ≡ t = moves.apart (element i j) t (omega (arith, below)) moves.old q in
      let s = counted.once i j new.0 new.1 (omega arith) (omega (arith, new.2))
      (taken ∙ sym (takes new.0 new.1 new.2)) in
      let same : number i j ≡ number new.0 new.1 = ap₂ number s.0 s.1 in
      let at = new.2 in
      omega (arith, same, at));
}
