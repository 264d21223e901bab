-- The right-first list: what one start keeps of it, as a statement about numbers alone. Start m inserts its right placeholder
-- 1 + 2 m and its down placeholder 2 + 2 m right after the element that it takes.
use Rattle.std.proofs.Common.{ℕ, ◌<◌, ◌≤◌, ◌≡◌, ◌≢◌, ◌+◌, ◌*◌, suc, ap, arith, ◌∙◌, inl, sym, inr}
use Rattle.std.proofs.lemmas.Bool.{cases_order, cases_lt, cases_eq}
use Rattle.run_laws.proofs.ListOrders.ListPlaces.{MovesPlaces}
use Rattle.run_laws.proofs.ListOrders.StartPlaces.{IsCounted, MovesInstances, moves_instances}

-- (i, j) is before (k, l) in right-first; reach k l i is the last index of column i that precedes (k, l)
pub record GoesBefore (reach : ℕ → ℕ → ℕ → ℕ) (i j k l : ℕ) : Type 0 where
  pub left : i < k → j ≤ reach k l i
  pub same : i ≡ k → j < l
  pub right : k < i → reach i j k < l

-- the list after m starts
pub record IsRightFirst (number element : ℕ → ℕ → ℕ) (reach : ℕ → ℕ → ℕ → ℕ) (m : ℕ) (pos : ℕ → ℕ) : Type 0 where
  pub order : (i j k l : ℕ) → number i j < m → number k l < m → GoesBefore reach i j k l
      → pos (element i j) < pos (element k l)
  -- an untaken right placeholder is right after its instance
  pub beside : (i j : ℕ) → number i j < m → ((k l : ℕ) → number k l < m → element k l ≢ 1 + 2 * number i j)
      → pos (1 + 2 * number i j) ≡ pos (element i j) + 1
  -- the down placeholder of a column's last instance is after the instances that precede it, and after the instances of later
  -- columns
  pub before : (i j k l : ℕ) → number i j < m → number k l < m → m ≤ number k (suc l) → (i < k → j ≤ reach k l i)
      → pos (element i j) < pos (2 + 2 * number k l)
  pub after : (i j k l : ℕ) → number i j < m → number k l < m → m ≤ number k (suc l) → i < k → reach k l i < j
      → pos (2 + 2 * number k l) < pos (element i j)
  pub downs : (i j k l : ℕ) → number i j < m → m ≤ number i (suc j) → number k l < m → m ≤ number k (suc l) → k < i
      → pos (2 + 2 * number i j) < pos (2 + 2 * number k l)

-- where the element t, which start number m takes, is among the others
pub record TakesRightPlace (number element : ℕ → ℕ → ℕ) (reach : ℕ → ℕ → ℕ → ℕ) (m t : ℕ) (pos : ℕ → ℕ) : Type 0 where
  pub some : (i : ℕ) × (j : ℕ) × (number i j ≡ m)
  pub here : (i j : ℕ) → number i j ≡ m → element i j ≡ t
  pub newest : (c d i j : ℕ) → number c d < m → number i j ≡ m → (c ≡ i → d < j) × (i < c → reach c d i < j)
  pub before : (c d i j : ℕ) → number c d < m → number i j ≡ m → (c < i → d ≤ reach i j c) → pos (element c d) < pos t
  pub after : (c d i j : ℕ) → number c d < m → number i j ≡ m → c < i → reach i j c < d → pos t < pos (element c d)
  pub lefts : (k l i j : ℕ) → number k l < m → m ≤ number k (suc l) → number i j ≡ m → k < i
      → pos t < pos (2 + 2 * number k l)
  pub rights : (k l i j : ℕ) → number k l < m → m ≤ number k (suc l) → number i j ≡ m → i < k
      → pos (2 + 2 * number k l) < pos t

module _ (number element : ℕ → ℕ → ℕ) (reach : ℕ → ℕ → ℕ → ℕ) (m t : ℕ) (pos pos' : ℕ → ℕ)
    (counted : IsCounted number element (suc m)) (around : TakesRightPlace number element reach m t pos)
    (moves : MovesPlaces pos pos' t m) (inv : IsRightFirst number element reach m pos) where
  -- the indices of instances and placeholders after the start
  moved : MovesInstances number element m t pos pos'
  moved = moves_instances number element m t pos pos' counted around.some around.here moves

  -- an instance that the new one is before is in an earlier column
  older : (i j k l : ℕ) → GoesBefore reach i j k l → (k ≡ i → l < j) × (i < k → reach k l i < j) → k < i
  older i j k l g n = elim (cases_order k i) [
    | inl same ↦ (let p = n.0 same in let q = g.same (sym same) in absurd (omega (arith, p, q)))
    | inr other ↦ elim other [
      | inl less ↦ less
      | inr more ↦ (let p = n.1 more in let q = g.left more in absurd (omega (arith, p, q)))
    ]
  ]

  -- the order of any two instances is kept
  order_next : (i j k l : ℕ) → number i j < suc m → number k l < suc m → GoesBefore reach i j k l
      → pos' (element i j) < pos' (element k l)
  order_next i j k l a b g = elim (cases_lt (number i j) m) [
    | inl x ↦ elim (cases_lt (number k l) m) [
      | inl y ↦ (
          let p = inv.order i j k l x y g in
          let q = moved.old_element i j x in
          let r = moved.old_element k l y in
          omega (arith, p, q, r))
      | inr y ↦ (
          let e : number k l ≡ m = omega arith in
          let p = around.before i j k l x e g.left in
          let q = moved.old_element i j x in
          let r = moved.new_element k l e in
          omega (arith, p, q, r))
    ]
    | inr x ↦ (
        let e : number i j ≡ m = omega arith in
        elim (cases_lt (number k l) m) [
          | inl y ↦ (
              let n = around.newest k l i j y e in
              let w = older i j k l g n in
              let p = around.after k l i j y e w (g.right w) in
              let q = moved.new_element i j e in
              let r = moved.old_element k l y in
              omega (arith, p, q, r))
          | inr y ↦ (let s = counted.same i j k l a (omega arith) in absurd (omega (arith, s, g.same)))
        ])
  ]

  -- an untaken right placeholder stays right after its instance
  beside_next : (i j : ℕ) → number i j < suc m → ((k l : ℕ) → number k l < suc m → element k l ≢ 1 + 2 * number i j)
      → pos' (1 + 2 * number i j) ≡ pos' (element i j) + 1
  beside_next i j a free = elim (cases_lt (number i j) m) [
    | inl x ↦ (
        let p = inv.beside i j x (λ k l w. free k l (omega arith)) in
        let v = around.some in
        let h : element v.0 v.1 ≡ t = around.here v.0 v.1 v.2 in
        let not_one : t ≢ 1 + 2 * number i j = λ q. free v.0 v.1 (omega arith) (h ∙ q) in
        let far = moved.apart i j x in
        let q = moved.old_element i j x in
        let r = moved.old_one i j x in
        omega (arith, p, q, r, far))
    | inr x ↦ (
        let e : number i j ≡ m = omega arith in
        let q = moved.new_element i j e in
        let r = moved.new_one i j e in
        omega (arith, q, r))
  ]

  -- the instances before the down placeholder of a column's last instance
  before_next : (i j k l : ℕ) → number i j < suc m → number k l < suc m → suc m ≤ number k (suc l)
      → (i < k → j ≤ reach k l i) → pos' (element i j) < pos' (2 + 2 * number k l)
  before_next i j k l a b u g = elim (cases_lt (number i j) m) [
    | inl x ↦ elim (cases_lt (number k l) m) [
      | inl y ↦ (
          let p = inv.before i j k l x y (omega arith) g in
          let q = moved.old_element i j x in
          let r = moved.old_two k l y in
          omega (arith, p, q, r))
      | inr y ↦ (
          let e : number k l ≡ m = omega arith in
          let p = around.before i j k l x e g in
          let q = moved.old_element i j x in
          let r = moved.new_two k l e in
          omega (arith, p, q, r))
    ]
    | inr x ↦ (
        let e : number i j ≡ m = omega arith in
        elim (cases_lt (number k l) m) [
          | inl y ↦ (
              let n = around.newest k l i j y e in
              let w : k < i = elim (cases_lt k i) [ inl less ↦ less | inr ge ↦ absurd (late i j k l e u g n ge) ] in
              let p = around.lefts k l i j y (omega arith) e w in
              let q = moved.new_element i j e in
              let r = moved.old_two k l y in
              omega (arith, p, q, r))
          | inr y ↦ (
              let e' : number k l ≡ m = omega arith in
              let q = moved.new_element i j e in
              let r = moved.new_two k l e' in
              omega (arith, q, r))
        ])
  ]
    where
      late : (i j k l : ℕ) → number i j ≡ m → suc m ≤ number k (suc l) → (i < k → j ≤ reach k l i)
          → (k ≡ i → l < j) × (i < k → reach k l i < j) → i ≤ k → ⊥
      late i j k l e u g n ge = elim (cases_eq k i) [
        | inl same ↦ (
            let less : l < j = n.0 same in
            let at : number k j ≡ m = ap (λ c. number c j) same ∙ e in
            let rise = counted.rises k (suc l) j (omega arith) (omega arith) in
            omega (arith, rise))
        | inr other ↦ (let p = g (omega arith) in let q = n.1 (omega arith) in omega (arith, p, q))
      ]

  -- the instances after the down placeholder of a column's last instance
  after_next : (i j k l : ℕ) → number i j < suc m → number k l < suc m → suc m ≤ number k (suc l) → i < k
      → reach k l i < j → pos' (2 + 2 * number k l) < pos' (element i j)
  after_next i j k l a b u g h = elim (cases_lt (number i j) m) [
    | inl x ↦ elim (cases_lt (number k l) m) [
      | inl y ↦ (
          let p = inv.after i j k l x y (omega arith) g h in
          let q = moved.old_element i j x in
          let r = moved.old_two k l y in
          omega (arith, p, q, r))
      | inr y ↦ (
          let e : number k l ≡ m = omega arith in
          let p = around.after i j k l x e g h in
          let q = moved.old_element i j x in
          let r = moved.new_two k l e in
          omega (arith, p, q, r))
    ]
    | inr x ↦ (
        let e : number i j ≡ m = omega arith in
        elim (cases_lt (number k l) m) [
          | inl y ↦ (
              let p = around.rights k l i j y (omega arith) e g in
              let q = moved.new_element i j e in
              let r = moved.old_two k l y in
              omega (arith, p, q, r))
          | inr y ↦ (let s = counted.same i j k l a (omega arith) in absurd (omega (arith, s)))
        ])
  ]

  -- the order of two such down placeholders
  downs_next : (i j k l : ℕ) → number i j < suc m → suc m ≤ number i (suc j) → number k l < suc m
      → suc m ≤ number k (suc l) → k < i → pos' (2 + 2 * number i j) < pos' (2 + 2 * number k l)
  downs_next i j k l a v b u g = elim (cases_lt (number i j) m) [
    | inl x ↦ elim (cases_lt (number k l) m) [
      | inl y ↦ (
          let p = inv.downs i j k l x (omega arith) y (omega arith) g in
          let q = moved.old_two i j x in
          let r = moved.old_two k l y in
          omega (arith, p, q, r))
      | inr y ↦ (
          let e : number k l ≡ m = omega arith in
          let p = around.rights i j k l x (omega arith) e g in
          let q = moved.old_two i j x in
          let r = moved.new_two k l e in
          omega (arith, p, q, r))
    ]
    | inr x ↦ (
        let e : number i j ≡ m = omega arith in
        elim (cases_lt (number k l) m) [
          | inl y ↦ (
              let p = around.lefts k l i j y (omega arith) e g in
              let q = moved.new_two i j e in
              let r = moved.old_two k l y in
              omega (arith, p, q, r))
          | inr y ↦ (let s = counted.same i j k l a (omega arith) in absurd (omega (arith, s)))
        ])
  ]

  -- one more start keeps the list right-first
  pub right_first_kept : IsRightFirst number element reach (suc m) pos'
  right_first_kept = record {
    order = order_next;
    beside = beside_next;
    before = before_next;
    after = after_next;
    downs = downs_next;
  }
