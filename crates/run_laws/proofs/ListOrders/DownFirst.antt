-- The down-first list: what one start keeps of it, as a statement about numbers alone. Start m inserts its down placeholder
-- 1 + 2 m and its right placeholder 2 + 2 m right after the element that it takes.
use Rattle.std.proofs.Common.{ℕ, ◌≤◌, ◌≡◌, ◌<◌, suc, ◌+◌, ◌*◌, arith, inl, inr, sym}
use Rattle.std.proofs.lemmas.Bool.{cases_lt, cases_eq}
use Rattle.run_laws.proofs.ListOrders.ListPlaces.{MovesPlaces}
use Rattle.run_laws.proofs.ListOrders.StartPlaces.{IsCounted, MovesInstances, moves_instances}

-- column order
pub record FallsBefore (i j k l : ℕ) : Type 0 where
  pub column : i ≤ k
  pub place : i ≡ k → j < l

-- the list after m starts
pub record IsDownFirst (number element : ℕ → ℕ → ℕ) (m : ℕ) (pos : ℕ → ℕ) : Type 0 where
  pub order : (i j k l : ℕ) → number i j < m → number k l < m → FallsBefore i j k l
      → pos (element i j) < pos (element k l)
  -- the down placeholder of a column's last instance is right after it
  pub beside : (i j : ℕ) → number i j < m → m ≤ number i (suc j) → pos (1 + 2 * number i j) ≡ pos (element i j) + 1
  -- the right placeholder of the head of the last column is after all instances
  pub end : (i j k : ℕ) → number i j < m → number k 0 < m → m ≤ number (suc k) 0
      → pos (element i j) < pos (2 + 2 * number k 0)

-- where the element t, which start number m takes, is among the others
pub record TakesDownPlace (number element : ℕ → ℕ → ℕ) (m t : ℕ) (pos : ℕ → ℕ) : Type 0 where
  pub some : (i : ℕ) × (j : ℕ) × (number i j ≡ m)
  pub here : (i j : ℕ) → number i j ≡ m → element i j ≡ t
  pub newest : (c d i j : ℕ) → number c d < m → number i j ≡ m → c ≡ i → d < j
  pub before : (c d i j : ℕ) → number c d < m → number i j ≡ m → c ≤ i → pos (element c d) < pos t
  pub after : (c d i j : ℕ) → number c d < m → number i j ≡ m → i < c → pos t < pos (element c d)
  pub end : (k : ℕ) → number k 0 < m → suc m ≤ number (suc k) 0 → pos t < pos (2 + 2 * number k 0)

module _ (number element : ℕ → ℕ → ℕ) (m t : ℕ) (pos pos' : ℕ → ℕ)
    (counted : IsCounted number element (suc m)) (around : TakesDownPlace number element m t pos)
    (moves : MovesPlaces pos pos' t m) (inv : IsDownFirst number element m pos) where
  -- the indices of instances and placeholders after the start
  moved : MovesInstances number element m t pos pos'
  moved = moves_instances number element m t pos pos' counted around.some around.here moves

  -- column order is kept
  order_next : (i j k l : ℕ) → number i j < suc m → number k l < suc m → FallsBefore i j k l
      → pos' (element i j) < pos' (element k l)
  order_next i j k l a b g = elim (cases_lt (number i j) m) [
    | inl x ↦ elim (cases_lt (number k l) m) [
      | inl y ↦ (
          let p = inv.order i j k l x y g in
          let q = moved.old_element i j x in
          let r = moved.old_element k l y in
          omega (arith, p, q, r))
      | inr y ↦ (
          let e : number k l ≡ m = omega arith in
          let p = around.before i j k l x e g.column in
          let q = moved.old_element i j x in
          let r = moved.new_element k l e in
          omega (arith, p, q, r))
    ]
    | inr x ↦ (
        let e : number i j ≡ m = omega arith in
        elim (cases_lt (number k l) m) [
          | inl y ↦ (
              let c = g.column in
              elim (cases_eq i k) [
                | inl same ↦ (
                    let n = around.newest k l i j y e (sym same) in
                    let w = g.place same in
                    absurd (omega (arith, n, w)))
                | inr other ↦ (
                    let p = around.after k l i j y e (omega arith) in
                    let q = moved.new_element i j e in
                    let r = moved.old_element k l y in
                    omega (arith, p, q, r))
              ])
          | inr y ↦ (
              let s = counted.same i j k l a (omega arith) in
              let w = g.place s.0 in
              absurd (omega (arith, s, w)))
        ])
  ]

  -- the down placeholder of a column's last instance stays right after it
  beside_next : (i j : ℕ) → number i j < suc m → suc m ≤ number i (suc j)
      → pos' (1 + 2 * number i j) ≡ pos' (element i j) + 1
  beside_next i j a last = elim (cases_lt (number i j) m) [
    | inl x ↦ (
        let p = inv.beside i j x (omega arith) in
        let far = moved.apart i j x in
        let q = moved.old_element i j x in
        let r = moved.old_one i j x in
        omega (arith, p, q, r, far))
    | inr x ↦ (
        let e : number i j ≡ m = omega arith in
        let q = moved.new_element i j e in
        let r = moved.new_one i j e in
        omega (arith, q, r))
  ]

  -- no column past the newest has an instance
  in_column : (i j k : ℕ) → number i j < m → suc m ≤ number (suc k) 0 → i ≤ k
  in_column i j k x u = elim (cases_lt k i) [
    | inl less ↦ (
        let p = counted.rises i 0 j (omega arith) (omega arith) in
        let q = counted.heads (suc k) i (omega arith) (omega (arith, p)) in
        absurd (omega (arith, p, q)))
    | inr ge ↦ ge
  ]

  -- the right placeholder of the last head stays after all instances
  end_next : (i j k : ℕ) → number i j < suc m → number k 0 < suc m → suc m ≤ number (suc k) 0
      → pos' (element i j) < pos' (2 + 2 * number k 0)
  end_next i j k a b u = elim (cases_lt (number i j) m) [
    | inl x ↦ elim (cases_lt (number k 0) m) [
      | inl y ↦ (
          let p = inv.end i j k x y (omega arith) in
          let q = moved.old_element i j x in
          let r = moved.old_two k 0 y in
          omega (arith, p, q, r))
      | inr y ↦ (
          let e : number k 0 ≡ m = omega arith in
          let p = around.before i j k 0 x e (in_column i j k x u) in
          let q = moved.old_element i j x in
          let r = moved.new_two k 0 e in
          omega (arith, p, q, r))
    ]
    | inr x ↦ (
        let e : number i j ≡ m = omega arith in
        let q =
        moved.new_element i j e in elim (cases_lt (number k 0) m) [
          | inl y ↦ (let p = around.end k y u in let r = moved.old_two k 0 y in omega (arith, p, q, r))
          | inr y ↦ (let e' : number k 0 ≡ m = omega arith in let r = moved.new_two k 0 e' in omega (arith, q, r))
        ])
  ]

  -- one more start keeps the list down-first
  pub down_first_kept : IsDownFirst number element (suc m) pos'
  down_first_kept = record { order = order_next; beside = beside_next; end = end_next }
