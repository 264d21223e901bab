-- Each start takes a right placeholder in the right-first list.
use Rattle.std.proofs.Common.{ℕ, ◌≡◌, ◌<◌, suc, ◌≤◌, ◌+◌, ◌*◌, ◌≢◌, arith, sym, ap₂, ◌∙◌, inl, ap, inr}
use Rattle.std.proofs.lemmas.Bool.{cases_eq, cases_lt}
use Rattle.run_laws.proofs.ListOrders.RightFirst.{IsRightFirst, TakesRightPlace}
use Rattle.run_laws.proofs.ListOrders.StartPlaces.{IsCounted, Apart, at_newest}

-- start number m, an instance at (x, y) that takes t
pub record Newest (number element : ℕ → ℕ → ℕ) (reach : ℕ → ℕ → ℕ → ℕ) (m x y t : ℕ) : Type 0 where
  pub at : number x y ≡ m
  pub takes : element x y ≡ t
  pub column : (c d : ℕ) → number c d < m → c ≡ x → d < y
  pub later : (c d : ℕ) → number c d < m → x < c → reach c d x < y

-- the right child of (a, b): the nearest to it of all that it does not precede
pub record IsRightChild (number element : ℕ → ℕ → ℕ) (reach : ℕ → ℕ → ℕ → ℕ) (m a b y : ℕ) : Type 0 where
  pub parent : number a b < m
  pub via : (k : ℕ) → k ≤ a → reach (suc a) y k ≡ reach a b k
  pub here : reach a b a ≡ b
  pub rightmost : (c d : ℕ) → a < c → number c d < m → reach c d a < b

module _ (number element : ℕ → ℕ → ℕ) (reach : ℕ → ℕ → ℕ → ℕ) (m a b y : ℕ)
    (pos : ℕ → ℕ) (counted : IsCounted number element (suc m)) (apart : Apart m pos)
    (inv : IsRightFirst number element reach m pos)
    (new : Newest number element reach m (suc a) y (1 + 2 * number a b))
    (child : IsRightChild number element reach m a b y) where
  -- no start has taken the placeholder yet
  free : (k l : ℕ) → number k l < m → element k l ≢ 1 + 2 * number a b
  free k l w q =
      let at = new.at in
      let s = counted.once k l (suc a) y (omega arith) (omega arith) (q ∙ sym new.takes) in
      let e : number k l ≡ number (suc a) y = ap₂ number s.0 s.1 in
      omega (arith, e)

  -- an untaken placeholder is right after the left parent
  beside_parent : pos (1 + 2 * number a b) ≡ pos (element a b) + 1
  beside_parent = inv.beside a b child.parent free

  -- each instance that precedes the new one is before it
  before_right : (c d : ℕ) → number c d < m → (c < suc a → d ≤ reach (suc a) y c)
      → pos (element c d) < pos (1 + 2 * number a b)
  before_right c d w g = let p = beside_parent in elim (cases_eq c a) [
    | inl same ↦ (
        let u : reach (suc a) y c ≡ reach (suc a) y a = ap (reach (suc a) y) same in
        let v = child.via a (omega arith) in
        let h = child.here in
        let le = g (omega arith) in
        elim (cases_eq d b) [
          | inl it ↦ (
              let q : pos (element c d) ≡ pos (element a b) = ap pos (ap₂ element same it) in
              omega (arith, p, q))
          | inr other ↦ (
              let q = inv.order c d a b w child.parent (record {
                left = λ l. absurd (omega arith);
                same = λ s. omega arith;
                right = λ l. absurd (omega arith);
              }) in
              omega (arith, p, q))
        ])
    | inr other ↦ elim (cases_lt c a) [
      | inl less ↦ (
          let v = child.via c (omega arith) in
          let le = g (omega arith) in
          let q = inv.order c d a b w child.parent (record {
            left = λ l. omega arith;
            same = λ s. absurd (omega (arith, s));
            right = λ l. absurd (omega arith);
          }) in
          omega (arith, p, q))
      | inr more ↦ (
          let v = child.rightmost c d (omega arith) w in
          let q = inv.order c d a b w child.parent (record {
            left = λ l. absurd (omega arith);
            same = λ s. absurd (omega (arith, s));
            right = λ l. v;
          }) in
          omega (arith, p, q))
    ]
  ]

  -- each parallel instance in an earlier column is after it
  after_right : (c d : ℕ) → number c d < m → c < suc a → reach (suc a) y c < d
      → pos (1 + 2 * number a b) < pos (element c d)
  after_right c d w l g =
      let p = beside_parent in
      let v = child.via c (omega arith) in
      let h = child.here in
      let e : c ≡ a → reach a b c ≡ reach a b a = λ s. ap (reach a b) s in
      let q = inv.order a b c d child.parent w (record {
        left = λ k. absurd (omega arith);
        same = λ s. (let s' = e (sym s) in omega (arith, s'));
        right = λ k. omega arith;
      }) in
      let bound = counted.below c d (omega arith) in
      let up = child.parent in
      let far : pos (element c d) ≢ pos (1 + 2 * number a b) =
      λ z. free c d w (apart.apart (element c d) (1 + 2 * number a b) (omega arith) (omega arith) z) in
      omega (arith, p, q, far)

  -- the last placeholders of earlier columns are after it
  lefts_right : (k l : ℕ) → number k l < m → m ≤ number k (suc l) → k < suc a
      → pos (1 + 2 * number a b) < pos (2 + 2 * number k l)
  lefts_right k l w u g =
      let p = beside_parent in
      let q = inv.before a b k l child.parent w u (λ h. absurd (omega arith)) in
      let up = child.parent in
      let far : pos (1 + 2 * number a b) ≢ pos (2 + 2 * number k l) = λ z. (
      let e = apart.apart (1 + 2 * number a b) (2 + 2 * number k l) (omega arith) (omega arith) z in
      omega (arith, e)) in
      omega (arith, p, q, far)

  -- the last placeholders of later columns are before it
  rights_right : (k l : ℕ) → number k l < m → m ≤ number k (suc l) → suc a < k
      → pos (2 + 2 * number k l) < pos (1 + 2 * number a b)
  rights_right k l w u g =
      let p = beside_parent in
      let q = inv.after a b k l child.parent w u (omega arith) (child.rightmost k l (omega arith) w) in
      omega (arith, p, q)

  -- an instance with a left parent takes a right placeholder
  pub takes_right_place : TakesRightPlace number element reach m (1 + 2 * number a b) pos
  takes_right_place = record {
    some = (suc a, y, new.at);
    here = at_newest number element m (suc a) y counted new.at (λ i j. element i j ≡ 1 + 2 * number a b) new.takes;
    newest = λ c d i j w e. at_newest number element m (suc a) y counted new.at
        (λ i j. (c ≡ i → d < j) × (i < c → reach c d i < j)) (new.column c d w, new.later c d w) i j e;
    before = λ c d i j w e. at_newest number element m (suc a) y counted new.at (λ i j. (c < i → d ≤ reach i j c)
        → pos (element c d) < pos (1 + 2 * number a b)) (before_right c d w) i j e;
    after = λ c d i j w e. at_newest number element m (suc a) y counted new.at (λ i j. c < i → reach i j c < d
        → pos (1 + 2 * number a b) < pos (element c d)) (after_right c d w) i j e;
    lefts = λ k l i j w u e. at_newest number element m (suc a) y counted new.at (λ i j. k < i
        → pos (1 + 2 * number a b) < pos (2 + 2 * number k l)) (lefts_right k l w u) i j e;
    rights = λ k l i j w u e. at_newest number element m (suc a) y counted new.at (λ i j. i < k
        → pos (2 + 2 * number k l) < pos (1 + 2 * number a b)) (rights_right k l w u) i j e;
  }

-- an instance without a left parent takes the down placeholder of the instance before it in its column
pub record IsDownChild (number element : ℕ → ℕ → ℕ) (reach : ℕ → ℕ → ℕ → ℕ) (m x y : ℕ) : Type 0 where
  pub parent : number x y < m
  pub via : (k : ℕ) → k < x → reach x (suc y) k ≡ reach x y k

module _ (number element : ℕ → ℕ → ℕ) (reach : ℕ → ℕ → ℕ → ℕ) (m x y : ℕ)
    (pos : ℕ → ℕ) (counted : IsCounted number element (suc m))
    (inv : IsRightFirst number element reach m pos)
    (new : Newest number element reach m x (suc y) (2 + 2 * number x y))
    (child : IsDownChild number element reach m x y) where
  -- an instance without a left parent takes a right placeholder too
  pub takes_down_place : TakesRightPlace number element reach m (2 + 2 * number x y) pos
  takes_down_place =
      let at = new.at in
      let last : m ≤ number x (suc y) = omega arith in
      record {
        some = (x, suc y, new.at);
        here = at_newest number element m x (suc y) counted new.at (λ i j. element i j ≡ 2 + 2 * number x y)
            new.takes;
        newest = λ c d i j w e. at_newest number element m x (suc y) counted new.at
            (λ i j. (c ≡ i → d < j) × (i < c → reach c d i < j)) (new.column c d w, new.later c d w) i j e;
        before = λ c d i j w e. at_newest number element m x (suc y) counted new.at (λ i j. (c < i → d ≤ reach i j c)
            → pos (element c d) < pos (2 + 2 * number x y))
            (λ g. inv.before c d x y w child.parent last (λ l. let v = child.via c l in let q =
            g l in omega (arith, v, q))) i j e;
        after = λ c d i j w e. at_newest number element m x (suc y) counted new.at (λ i j. c < i → reach i j c < d
            → pos (2 + 2 * number x y) < pos (element c d))
            (λ l g. inv.after c d x y w child.parent last l (let v = child.via c l in omega (arith, v, g))) i j e;
        lefts = λ k l i j w u e. at_newest number element m x (suc y) counted new.at (λ i j. k < i
            → pos (2 + 2 * number x y) < pos (2 + 2 * number k l)) (inv.downs x y k l child.parent last w u) i j e;
        rights = λ k l i j w u e. at_newest number element m x (suc y) counted new.at (λ i j. i < k
            → pos (2 + 2 * number k l) < pos (2 + 2 * number x y)) (inv.downs k l x y w u child.parent last) i j e;
      }

-- before the first start the list is right-first
pub right_first_empty : (number element : ℕ → ℕ → ℕ) (reach : ℕ → ℕ → ℕ → ℕ) (pos : ℕ → ℕ)
    → IsRightFirst number element reach 0 pos
right_first_empty number element reach pos = record {
  order = λ i j k l a b g. absurd (omega (arith, a));
  beside = λ i j a f. absurd (omega (arith, a));
  before = λ i j k l a b u g. absurd (omega (arith, a));
  after = λ i j k l a b u g h. absurd (omega (arith, a));
  downs = λ i j k l a b c d e. absurd (omega (arith, a));
}

-- the first start takes a right placeholder
pub takes_first_place : (number element : ℕ → ℕ → ℕ) (reach : ℕ → ℕ → ℕ → ℕ) (m : ℕ) (pos : ℕ → ℕ) → m ≡ 0
    → IsCounted number element (suc m) → number 0 0 ≡ m → element 0 0 ≡ 0
    → TakesRightPlace number element reach m 0 pos
takes_first_place number element reach m pos none counted at takes = record {
  some = (0, 0, at);
  here = λ i j e. (
      let s = counted.same 0 0 i j (omega arith) (at ∙ sym e) in
      ap₂ element (sym s.0) (sym s.1) ∙ takes);
  newest = λ c d i j w e. absurd (omega (arith, w));
  before = λ c d i j w e g. absurd (omega (arith, w));
  after = λ c d i j w e g h. absurd (omega (arith, w));
  lefts = λ k l i j w u e g. absurd (omega (arith, w));
  rights = λ k l i j w u e g. absurd (omega (arith, w));
}
