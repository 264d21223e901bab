-- The indices of the elements after each start.
use Rattle.std.proofs.Common.{List, ℕ, true, ◌≡◌, [], ◌∷◌, inl, sym, ◌∙◌, inr, eq-eqb, ne_eqb, arith, ◌+◌, refl, ◌≢◌, ◌≤◌, ◌<◌, ◌*◌, ◌⊎◌}
use Rattle.std.proofs.Common.{zero, suc, subst}
use Rattle.std.proofs.lemmas.Bool.{cases_eq, cases_lt}
use Rattle.pipe_model.specs.Orders.OrderList.{has, place, insert_after}
use Rattle.run_laws.proofs.ListOrders.InsertionLists.{first_list, HasBelow, has_below-insert_after}

-- two elements of a list with the same index are equal
place_apart : (xs : List ℕ) (a b : ℕ) → has a xs ≡ true → has b xs ≡ true → place a xs ≡ place b xs → a ≡ b
place_apart [] a b h k e = cc
place_apart (z ∷ zs) a b h k e = elim (cases_eq z a) [
  | inl i ↦ elim (cases_eq z b) [
    | inl j ↦ sym i ∙ j
    | inr n ↦ (let e' = rw (eq-eqb z a i, ne_eqb z b n) at e in absurd (omega (arith, e')))
  ]
  | inr m ↦ elim (cases_eq z b) [
    | inl j ↦ (let e' = rw (ne_eqb z a m, eq-eqb z b j) at e in absurd (omega (arith, e')))
    | inr n ↦ (
        let e' = rw (ne_eqb z a m, ne_eqb z b n) at e in
        place_apart zs a b (rw (ne_eqb z a m) at h) (rw (ne_eqb z b n) at k) (omega (arith, e')))
  ]
]

-- a new element is right after x
place_new : (xs : List ℕ) (x e : ℕ) → has x xs ≡ true → (has e xs ≡ true → ⊥)
    → place e (insert_after x e xs) ≡ place x xs + 1
place_new [] x e h n = cc
place_new (z ∷ zs) x e h n = elim (cases_eq z e) [
  | inl i ↦ absurd (n (rw (eq-eqb z e i) refl))
  | inr m ↦ elim (cases_eq z x) [
    | inl j ↦ rw (eq-eqb z x j, ne_eqb z e m, eq-eqb e e refl) refl
    | inr k ↦ (
        let t = place_new zs x e (rw (ne_eqb z x k) at h) (λ q. n (rw (ne_eqb z e m) q)) in
        rw (ne_eqb z x k, ne_eqb z e m) (omega (arith, t)))
  ]
]

-- the elements up to x keep their indices
place_before : (xs : List ℕ) (x e y : ℕ) → e ≢ y → place y xs ≤ place x xs
    → place y (insert_after x e xs) ≡ place y xs
place_before [] x e y n l = refl
place_before (z ∷ zs) x e y n l = elim (cases_eq z x) [
  | inl j ↦ elim (cases_eq z y) [
    | inl i ↦ rw (eq-eqb z x j, eq-eqb z y i) refl
    | inr m ↦ (let l' = rw (eq-eqb z x j, ne_eqb z y m) at l in absurd (omega (arith, l')))
  ]
  | inr k ↦ elim (cases_eq z y) [
    | inl i ↦ rw (ne_eqb z x k, eq-eqb z y i) refl
    | inr m ↦ (
        let l' = rw (ne_eqb z x k, ne_eqb z y m) at l in
        let t = place_before zs x e y n (omega (arith, l')) in
        rw (ne_eqb z x k, ne_eqb z y m) (omega (arith, t)))
  ]
]

-- the indices of the elements after x grow by one
place_after : (xs : List ℕ) (x e y : ℕ) → e ≢ y → place x xs < place y xs
    → place y (insert_after x e xs) ≡ place y xs + 1
place_after [] x e y n l = absurd (omega (arith, l))
place_after (z ∷ zs) x e y n l = elim (cases_eq z y) [
  | inl i ↦ (let l' = rw (eq-eqb z y i) at l in absurd (omega (arith, l')))
  | inr m ↦ elim (cases_eq z x) [
    | inl j ↦ rw (eq-eqb z x j, ne_eqb e y n, ne_eqb z y m) refl
    | inr k ↦ (
        let l' = rw (ne_eqb z x k, ne_eqb z y m) at l in
        let t = place_after zs x e y n (omega (arith, l')) in
        rw (ne_eqb z x k, ne_eqb z y m) (omega (arith, t)))
  ]
]

-- how an insertion of two elements at t changes the indices
pub record MovesPlaces (pos pos' : ℕ → ℕ) (t m : ℕ) : Type 0 where
  pub old : t < 1 + 2 * m
  pub each : (z : ℕ) → z < 1 + 2 * m → ((pos z ≤ pos t) × (pos' z ≡ pos z)) ⊎ ((pos t < pos z) × (pos' z ≡ pos z + 2))
  pub at_one : pos' (1 + 2 * m) ≡ pos t + 1
  pub at_two : pos' (2 + 2 * m) ≡ pos t + 2
  pub apart : (a b : ℕ) → a < 1 + 2 * m → b < 1 + 2 * m → pos a ≡ pos b → a ≡ b

-- two insertions change them so
insert_twice : (xs : List ℕ) (t m : ℕ) → t < 1 + 2 * m → HasBelow (1 + 2 * m) xs
    → MovesPlaces (λ z. place z xs) (λ z. place z
    (insert_after (1 + 2 * m) (2 + 2 * m) (insert_after t (1 + 2 * m) xs))) t m
insert_twice xs t m l h =
    let a : ℕ = 1 + 2 * m in
    let b : ℕ = 2 + 2 * m in
    let ys : List ℕ = insert_after t a xs in
    let ht : has t xs ≡ true = h.each t l in
    let new_a : has a xs ≡ true → ⊥ = λ q. let w = h.only a q in
    omega (arith, w) in
    let hy : HasBelow (a + 1) ys = has_below-insert_after a xs t l h in
    let ha : has a ys ≡ true = hy.each a (omega arith) in
    let new_b : has b ys ≡ true → ⊥ = λ q. let w = hy.only b q in
    omega (arith, w) in
    let pa : place a ys ≡ place t xs + 1 = place_new xs t a ht new_a in
    let pb : place b (insert_after a b ys) ≡ place a ys + 1 = place_new ys a b ha new_b in
    let paa : place a (insert_after a b ys) ≡ place a ys = place_before ys a b a (omega arith) (omega arith) in
    record {
      old = l;
      each = λ z w. elim (cases_lt (place t xs) (place z xs)) [
        | inr low ↦ (
            let p : place z ys ≡ place z xs = place_before xs t a z (omega arith) low in
            let q : place z (insert_after a b ys) ≡ place z ys = place_before ys a b z (omega arith) (omega arith) in
            inl (low, omega arith))
        | inl high ↦ (
            let p : place z ys ≡ place z xs + 1 = place_after xs t a z (omega arith) high in
            let apart_a : place a ys < place z ys = far z w high p in
            let q : place z (insert_after a b ys) ≡ place z ys + 1 = place_after ys a b z (omega arith) apart_a in
            inr (high, omega arith))
      ];
      at_one = omega arith;
      at_two = omega arith;
      apart = λ x y lx ly e. place_apart xs x y (h.each x lx) (h.each y ly) e;
    }
  where
    far : (z : ℕ) → z < 1 + 2 * m → place t xs < place z xs → place z (insert_after t (1 + 2 * m) xs) ≡ place z xs + 1
        → place (1 + 2 * m) (insert_after t (1 + 2 * m) xs) < place z (insert_after t (1 + 2 * m) xs)
    far z w high p =
        let pa : place (1 + 2 * m) (insert_after t (1 + 2 * m) xs) ≡ place t xs + 1 =
        place_new xs t (1 + 2 * m) (h.each t l) (λ q. let v = h.only (1 + 2 * m) q in omega (arith, v)) in
        omega arith

-- the list after m starts; each of them takes an element
abbrev pub list_after : (ℕ → ℕ) → ℕ → List ℕ
list_after taken zero = 0 ∷ []
list_after taken (suc m) =
    insert_after (1 + 2 * m) (2 + 2 * m) (insert_after (taken m) (1 + 2 * m) (list_after taken m))

-- its elements
list_after_has_below : (taken : ℕ → ℕ) (n : ℕ) → ((m : ℕ) → m < n → taken m < 1 + 2 * m) → (m : ℕ) → m ≤ n
    → HasBelow (1 + 2 * m) (list_after taken m)
list_after_has_below taken n ok zero l = first_list
list_after_has_below taken n ok (suc m) l =
    let h : HasBelow (1 + 2 * m) (list_after taken m) = list_after_has_below taken n ok m (omega arith) in
    let t : taken m < 1 + 2 * m = ok m (omega arith) in
    let one_more : HasBelow (1 + 2 * m + 1) (insert_after (taken m) (1 + 2 * m) (list_after taken m)) =
    has_below-insert_after (1 + 2 * m) (list_after taken m) (taken m) t h in
    let at_two : HasBelow (2 + 2 * m) (insert_after (taken m) (1 + 2 * m) (list_after taken m)) =
    subst (λ k. HasBelow k (insert_after (taken m) (1 + 2 * m) (list_after taken m))) (omega arith) one_more in
    subst (λ k. HasBelow k (list_after taken (suc m))) (omega arith)
    (has_below-insert_after (2 + 2 * m) (insert_after (taken m) (1 + 2 * m) (list_after taken m)) (1 + 2 * m)
    (omega arith) at_two)

-- each start changes indices so
pub start_moves : (taken : ℕ → ℕ) (n : ℕ) → ((m : ℕ) → m < n → taken m < 1 + 2 * m) → (m : ℕ) → m < n
    → MovesPlaces (λ z. place z (list_after taken m)) (λ z. place z (list_after taken (suc m))) (taken m) m
start_moves taken n ok m l =
    insert_twice (list_after taken m) (taken m) m (ok m l) (list_after_has_below taken n ok m (omega arith))
