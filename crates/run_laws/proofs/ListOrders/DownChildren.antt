-- Each start takes a down placeholder in the down-first list.
use Rattle.std.proofs.Common.{ℕ, ◌≡◌, ◌<◌, suc, ◌+◌, ◌*◌, ◌≤◌, inl, arith, inr, ap, ap₂, sym, ◌≢◌, ◌∙◌}
use Rattle.std.proofs.lemmas.Bool.{cases_lt, cases_eq}
use Rattle.run_laws.proofs.ListOrders.DownFirst.{IsDownFirst, TakesDownPlace}
use Rattle.run_laws.proofs.ListOrders.StartPlaces.{IsCounted, at_newest, Apart}

-- start number m, an instance at (x, y) that takes t
pub record NewestDown (number element : ℕ → ℕ → ℕ) (m x y t : ℕ) : Type 0 where
  pub at : number x y ≡ m
  pub takes : element x y ≡ t
  pub column : (c d : ℕ) → number c d < m → c ≡ x → d < y

-- a head takes the right placeholder of the head before it
module _ (number element : ℕ → ℕ → ℕ) (m x : ℕ) (pos : ℕ → ℕ) (counted : IsCounted number element (suc m))
    (inv : IsDownFirst number element m pos) (new : NewestDown number element m (suc x) 0 (2 + 2 * number x 0))
    (parent : number x 0 < m) where
  -- no column has begun after a new head
  pub none_later : (c d : ℕ) → number c d < m → c ≤ x
  none_later c d w = elim (cases_lt x c) [
    | inl less ↦ (
        let at = new.at in
        let p = counted.rises c 0 d (omega arith) (omega arith) in
        let q = counted.heads (suc x) c (omega arith) (omega (arith, p)) in
        absurd (omega (arith, p, q, at)))
    | inr ge ↦ ge
  ]

  -- after a new head no other head has its placeholder at the end
  end_head : (k : ℕ) → number k 0 < m → suc m ≤ number (suc k) 0 → ⊥
  end_head k w u =
      let at = new.at in
      let p = none_later k 0 w in
      let q = counted.heads (suc k) (suc x) (omega arith) (omega (arith, at)) in
      omega (arith, p, q, at)

  -- a head takes a down placeholder
  pub takes_head_place : TakesDownPlace number element m (2 + 2 * number x 0) pos
  takes_head_place = let at = new.at in record {
    some = (suc x, 0, new.at);
    here = at_newest number element m (suc x) 0 counted new.at (λ i j. element i j ≡ 2 + 2 * number x 0) new.takes;
    newest = λ c d i j w e. at_newest number element m (suc x) 0 counted new.at (λ i j. c ≡ i
        → d < j) (new.column c d w) i j e;
    before = λ c d i j w e g. inv.end c d x w parent (omega arith);
    after = λ c d i j w e. at_newest number element m (suc x) 0 counted new.at (λ i j. i < c
        → pos (2 + 2 * number x 0) < pos (element c d))
        (λ l. let p = none_later c d w in absurd (omega (arith, p, l))) i j e;
    end = λ k w u. absurd (end_head k w u);
  }

-- any other instance takes the down placeholder of the one before it
module _ (number element : ℕ → ℕ → ℕ) (m x y : ℕ)
    (pos : ℕ → ℕ) (counted : IsCounted number element (suc m)) (apart : Apart m pos)
    (inv : IsDownFirst number element m pos) (new : NewestDown number element m x (suc y) (1 + 2 * number x y))
    (parent : number x y < m) where
  -- the placeholder is right after the instance above
  beside_up : pos (1 + 2 * number x y) ≡ pos (element x y) + 1
  beside_up = let at = new.at in inv.beside x y parent (omega arith)

  -- each instance that precedes the new one is before it
  before_below : (c d : ℕ) → number c d < m → c ≤ x → pos (element c d) < pos (1 + 2 * number x y)
  before_below c d w l = let p = beside_up in elim (cases_eq c x) [
    | inl same ↦ (
        let n = new.column c d w same in
        elim (cases_eq d y) [
          | inl it ↦ (
              let q : pos (element c d) ≡ pos (element x y) = ap pos (ap₂ element same it) in
              omega (arith, p, q))
          | inr other ↦ (
              let q = inv.order c d x y w parent (record { column = l; place = λ s. omega arith }) in
              omega (arith, p, q))
        ])
    | inr other ↦ (
        let q = inv.order c d x y w parent (record { column = l; place = λ s. absurd (other s) }) in
        omega (arith, p, q))
  ]

  -- the instances of later columns are after it
  after_below : (c d : ℕ) → number c d < m → x < c → pos (1 + 2 * number x y) < pos (element c d)
  after_below c d w l =
      let p = beside_up in
      let q = inv.order x y c d parent w (record { column = omega arith; place = λ s. absurd (omega (arith, s)) }) in
      let at = new.at in
      let bound = counted.below c d (omega arith) in
      let not_it : element c d ≢ 1 + 2 * number x y = λ z. (
      let s = counted.once c d x (suc y) (omega arith) (omega arith) (z ∙ sym new.takes) in
      let e : number c d ≡ number x (suc y) = ap₂ number s.0 s.1 in
      omega (arith, e)) in
      let far : pos (element c d) ≢ pos (1 + 2 * number x y) =
      λ z. not_it (apart.apart (element c d) (1 + 2 * number x y) (omega arith) (omega arith) z) in
      omega (arith, p, q, far)

  -- the placeholder at the end is after the new instance
  end_below : (k : ℕ) → number k 0 < m → suc m ≤ number (suc k) 0
      → pos (1 + 2 * number x y) < pos (2 + 2 * number k 0)
  end_below k w u =
      let p = beside_up in
      let q = inv.end x y k parent w (omega arith) in
      let far : pos (1 + 2 * number x y) ≢ pos (2 + 2 * number k 0) = λ z. (
      let e = apart.apart (1 + 2 * number x y) (2 + 2 * number k 0) (omega arith) (omega arith) z in
      omega (arith, e)) in
      omega (arith, p, q, far)

  -- an instance below another takes a down placeholder
  pub takes_below_place : TakesDownPlace number element m (1 + 2 * number x y) pos
  takes_below_place = record {
    some = (x, suc y, new.at);
    here = at_newest number element m x (suc y) counted new.at (λ i j. element i j ≡ 1 + 2 * number x y) new.takes;
    newest = λ c d i j w e. at_newest number element m x (suc y) counted new.at (λ i j. c ≡ i
        → d < j) (new.column c d w) i j e;
    before = λ c d i j w e. at_newest number element m x (suc y) counted new.at (λ i j. c ≤ i
        → pos (element c d) < pos (1 + 2 * number x y)) (before_below c d w) i j e;
    after = λ c d i j w e. at_newest number element m x (suc y) counted new.at (λ i j. i < c
        → pos (1 + 2 * number x y) < pos (element c d)) (after_below c d w) i j e;
    end = λ k w u. end_below k w u;
  }

-- before the first start the list is down-first
pub down_first_empty : (number element : ℕ → ℕ → ℕ) (pos : ℕ → ℕ) → IsDownFirst number element 0 pos
down_first_empty number element pos = record {
  order = λ i j k l a b g. absurd (omega (arith, a));
  beside = λ i j a f. absurd (omega (arith, a));
  end = λ i j k a b u. absurd (omega (arith, a));
}

-- the first start takes a down placeholder
pub takes_first_down : (number element : ℕ → ℕ → ℕ) (m : ℕ) (pos : ℕ → ℕ) → m ≡ 0 → IsCounted number element (suc m)
    → number 0 0 ≡ m → element 0 0 ≡ 0 → TakesDownPlace number element m 0 pos
takes_first_down number element m pos none counted at takes = record {
  some = (0, 0, at);
  here = λ i j e. (
      let s = counted.same 0 0 i j (omega arith) (at ∙ sym e) in
      ap₂ element (sym s.0) (sym s.1) ∙ takes);
  newest = λ c d i j w e. absurd (omega (arith, w));
  before = λ c d i j w e g. absurd (omega (arith, w));
  after = λ c d i j w e g. absurd (omega (arith, w));
  end = λ k w u. absurd (omega (arith, w));
}
