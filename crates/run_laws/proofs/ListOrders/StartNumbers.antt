-- The numbers of starts: sources start before targets, and each placeholder is taken once.
use Rattle.std.proofs.Common.{List, ℕ, eqb, false, length, ◌≡◌, ◌<◌, ◌∷◌, ◌&&◌, suc, arith, [], inl, true, eq-eqb, ap₂, inr, ne_eqb, ap}
use Rattle.std.proofs.Common.{sym, ◌∙◌, ◌≤◌, ◌+◌, ◌*◌, refl}
use Rattle.std.proofs.lemmas.Bool.{cases_eq, and_from, and_right, and_left, cases_lt}
use Rattle.pipe_model.specs.Races.Columns.{at, AreColumns}
use Rattle.pipe_model.specs.Races.Dag.{Precedes, ByEdge, ByPath}
use Rattle.pipe_model.specs.Orders.LeftParent.{joined_at}
use Rattle.pipe_model.specs.Orders.Starts.{start_number, start_at, AreStarts, IsStarted}
use Rattle.pipe_model.specs.Orders.TwoOrders.{right_first_taken, down_first_taken}
use Rattle.pipe_model.specs.declared.node.Node.{Node}
use Rattle.pipe_model.specs.declared.node.NodeId.{NodeId}
use Rattle.run_laws.proofs.ListOrders.JoinedPlaces.{reach_left, reach_here}
use Rattle.run_laws.proofs.ListOrders.LeftParents.{IsLeftAt, TakesRight, RightRoot, RightOf, RightBelow, TakesDown, DownRoot, DownHead}
use Rattle.run_laws.proofs.ListOrders.LeftParents.{DownBelow}
use Rattle.run_laws.proofs.ListOrders.LeftParents.{takes_right, takes_down}
use Rattle.run_laws.proofs.ListOrders.PrecedingPlaces.{IsBelow, path_below}
use Rattle.run_laws.proofs.ListOrders.StartPlaces.{IsCounted}

-- `start_found`, with one more start before it
start_found_later : (x : NodeId) (xs : List NodeId) (i k : ℕ) → (eqb x.iteration i && eqb x.index k) ≡ false
    → start_number (x ∷ xs) i k < length (x ∷ xs)
    → (start_number xs i k < length xs → start_at xs (start_number xs i k) ≡ at i k)
    → start_at (x ∷ xs) (start_number (x ∷ xs) i k) ≡ at i k
start_found_later x xs i k f l found =
    let l' : suc (start_number xs i k) < suc (length xs) = rw f at l in
    rw f (found (omega (arith, l')))

-- an instance that has started has the index of its number
start_found : (starts : List NodeId) (i k : ℕ) → start_number starts i k < length starts
    → start_at starts (start_number starts i k) ≡ at i k
start_found [] i k l = absurd (omega arith)
start_found (x ∷ xs) i k l = elim (cases_eq x.iteration i) [
  | inl a ↦ elim (cases_eq x.index k) [
    | inl b ↦ (
        let t : (eqb x.iteration i && eqb x.index k) ≡ true =
        and_from (eqb x.iteration i) (eqb x.index k) (eq-eqb x.iteration i a) (eq-eqb x.index k b) in
        rw t (ap₂ at a b))
    | inr n ↦ start_found_later x xs i k (and_right (eqb x.iteration i) (eqb x.index k) (ne_eqb x.index k n)) l
        (start_found xs i k)
  ]
  | inr n ↦ start_found_later x xs i k (and_left (eqb x.iteration i) (eqb x.index k) (ne_eqb x.iteration i n)) l
      (start_found xs i k)
]

-- equal instances have equal coordinates
at_same : {i j k l : ℕ} → at i j ≡ at k l → (i ≡ k) × (j ≡ l)
at_same e = (ap (λ (n : NodeId). n.iteration) e, ap (λ (n : NodeId). n.index) e)

-- instances with the same number are equal
start_same : (starts : List NodeId) (i j k l : ℕ) → start_number starts i j < length starts
    → start_number starts i j ≡ start_number starts k l → (i ≡ k) × (j ≡ l)
start_same starts i j k l w e =
    at_same (sym (start_found starts i j w) ∙ (ap (start_at starts) e ∙ start_found starts k l (omega arith)))

module _ (columns : List (List Node)) (starts : List NodeId) (ok : AreColumns columns)
    (right : AreStarts columns starts) where
  -- an instance that precedes another starts before it
  path_ordered : {x y : NodeId} → Precedes columns x y → IsStarted starts y
      → start_number starts x.iteration x.index < start_number starts y.iteration y.index
  path_ordered {x} {y} (ByEdge e) w = right.ordered x y e w
  path_ordered {x} {y} (ByPath {y = z} p e) w =
      let a = right.ordered z y e w in
      let b = path_ordered p (omega (arith, a, w)) in
      omega (arith, a, b)

  -- if `IsBelow` holds of (i, j) and (k, l), then (i, j) starts before (k, l)
  pub below_ordered : (i j k l : ℕ) → IsBelow columns i j k l → start_number starts k l < length starts
      → start_number starts i j < start_number starts k l
  below_ordered i j k l b w =
      let v = right.inside (at k l) w in
      path_ordered (path_below columns ok i j k l b v.0 v.1) w

  -- a column starts from its head down
  pub column_rises : (i j k : ℕ) → j ≤ k → start_number starts i k < length starts
      → start_number starts i j ≤ start_number starts i k
  column_rises i j k l w = elim (cases_eq j k) [
    | inl s ↦ (
        let e : start_number starts i j ≡ start_number starts i k = ap (start_number starts i) s in
        omega (arith, e))
    | inr n ↦ (
        let p = below_ordered i j i k (record {
          column = omega arith;
          place = λ e. omega arith;
          within = λ e. absurd (omega (arith, e));
        }) w in
        omega (arith, p))
  ]

  -- heads start from left to right
  pub heads_rise : (i k : ℕ) → i ≤ k → start_number starts k 0 < length starts
      → start_number starts i 0 ≤ start_number starts k 0
  heads_rise i k l w = elim (cases_eq i k) [
    | inl s ↦ (
        let e : start_number starts i 0 ≡ start_number starts k 0 = ap (λ c. start_number starts c 0) s in
        omega (arith, e))
    | inr n ↦ (
        let p = below_ordered i 0 k 0 (record { column = l; place = λ e. absurd (n e); within = λ e. omega arith })
        w in
        omega (arith, p))
  ]

  -- a left parent starts before its instance
  pub left_ordered : (a j b : ℕ) → IsLeftAt columns a j b → start_number starts (suc a) j < length starts
      → start_number starts a b < start_number starts (suc a) j
  left_ordered a j b h w = below_ordered a b (suc a) j (record {
    column = omega arith;
    place = λ e. absurd (omega (arith, e));
    within = λ e. (
        let p = reach_left columns a j a (omega arith) in
        let q = reach_here columns a (joined_at columns a j) in
        let r = h.joins in
        omega (arith, p, q, r));
  }) w

  -- the instance above starts before the one below
  pub up_ordered : (i j : ℕ) → start_number starts i (suc j) < length starts
      → start_number starts i j < start_number starts i (suc j)
  up_ordered i j w = below_ordered i j i (suc j) (record {
    column = omega arith;
    place = λ e. omega arith;
    within = λ e. absurd (omega (arith, e));
  }) w

  -- the head to the left starts before the next
  pub head_ordered : (i : ℕ) → start_number starts (suc i) 0 < length starts
      → start_number starts i 0 < start_number starts (suc i) 0
  head_ordered i w = below_ordered i 0 (suc i) 0 (record {
    column = omega arith;
    place = λ e. absurd (omega (arith, e));
    within = λ e. omega arith;
  }) w

  -- an instance takes an element of an earlier start, in right-first
  right_below : {i j t : ℕ} → TakesRight columns (start_number starts) i j t → start_number starts i j < length starts
      → t < 1 + 2 * start_number starts i j
  right_below RightRoot w = omega arith
  right_below (RightOf a j b h) w = let p = left_ordered a j b h w in omega (arith, p)
  right_below (RightBelow i j e) w = let p = up_ordered i j w in omega (arith, p)

  -- no two instances take the same element, in right-first
  right_once : {i j k l t u : ℕ} → TakesRight columns (start_number starts) i j t
      → TakesRight columns (start_number starts) k l u → start_number starts i j < length starts
      → start_number starts k l < length starts → t ≡ u → (i ≡ k) × (j ≡ l)
  right_once RightRoot RightRoot w v e = (refl, refl)
  right_once RightRoot (RightOf a j b h) w v e = absurd (omega (arith, e))
  right_once RightRoot (RightBelow i j n) w v e = absurd (omega (arith, e))
  right_once (RightOf a j b h) RightRoot w v e = absurd (omega (arith, e))
  right_once (RightOf a j b h) (RightBelow i k n) w v e = absurd (omega (arith, e))
  right_once (RightBelow i k n) RightRoot w v e = absurd (omega (arith, e))
  right_once (RightBelow i k n) (RightOf a j b h) w v e = absurd (omega (arith, e))
  right_once (RightBelow i j n) (RightBelow k l m) w v e =
      let p = up_ordered i j w in
      let s = start_same starts i j k l (omega (arith, p, w)) (omega (arith, e)) in
      (s.0, ap suc s.1)
  right_once (RightOf a j b h) (RightOf c l d g) w v e =
      let p = left_ordered a j b h w in
      let s = start_same starts a b c d (omega (arith, p, w)) (omega (arith, e)) in
      let hj = h.joins in
      let gj = g.joins in
      let same : joined_at columns a l ≡ joined_at columns c l = ap (λ x. joined_at columns x l) s.0 in
      let same' : joined_at columns a j ≡ joined_at columns c j = ap (λ x. joined_at columns x j) s.0 in (
        ap suc s.0,
        elim (cases_lt j l) [
          | inl less ↦ (let q = g.nearest j less in absurd (omega (arith, q, hj, gj, s, same, same')))
          | inr ge ↦ elim (cases_lt l j) [
            | inl less ↦ (let q = h.nearest l less in absurd (omega (arith, q, hj, gj, s, same, same')))
            | inr le ↦ omega arith
          ]
        ],
      )

  -- an instance takes an element of an earlier start, in down-first
  down_below : {i j t : ℕ} → TakesDown (start_number starts) i j t → start_number starts i j < length starts
      → t < 1 + 2 * start_number starts i j
  down_below DownRoot w = omega arith
  down_below (DownHead i) w = let p = head_ordered i w in omega (arith, p)
  down_below (DownBelow i j) w = let p = up_ordered i j w in omega (arith, p)

  -- no two instances take the same element, in down-first
  down_once : {i j k l t u : ℕ} → TakesDown (start_number starts) i j t → TakesDown (start_number starts) k l u
      → start_number starts i j < length starts → start_number starts k l < length starts → t ≡ u → (i ≡ k) × (j ≡ l)
  down_once DownRoot DownRoot w v e = (refl, refl)
  down_once DownRoot (DownHead i) w v e = absurd (omega (arith, e))
  down_once DownRoot (DownBelow i j) w v e = absurd (omega (arith, e))
  down_once (DownHead i) DownRoot w v e = absurd (omega (arith, e))
  down_once (DownHead i) (DownBelow k l) w v e = absurd (omega (arith, e))
  down_once (DownBelow i j) DownRoot w v e = absurd (omega (arith, e))
  down_once (DownBelow i j) (DownHead k) w v e = absurd (omega (arith, e))
  down_once (DownHead i) (DownHead k) w v e =
      let p = head_ordered i w in
      let s = start_same starts i 0 k 0 (omega (arith, p, w)) (omega (arith, e)) in
      (ap suc s.0, refl)
  down_once (DownBelow i j) (DownBelow k l) w v e =
      let p = up_ordered i j w in
      let s = start_same starts i j k l (omega (arith, p, w)) (omega (arith, e)) in
      (s.0, ap suc s.1)

  -- starts are counted so, in right-first
  pub counted_right : IsCounted (start_number starts) (right_first_taken columns (start_number starts))
      (length starts)
  counted_right = record {
    same = start_same starts;
    below = λ i j w. right_below (takes_right columns (start_number starts) i j) w;
    once = λ i j k l w v e. right_once (takes_right columns (start_number starts) i j)
        (takes_right columns (start_number starts) k l) w v e;
    rises = column_rises;
    heads = heads_rise;
  }

  -- starts are counted so, in down-first
  pub counted_down : IsCounted (start_number starts) (down_first_taken (start_number starts)) (length starts)
  counted_down = record {
    same = start_same starts;
    below = λ i j w. down_below (takes_down (start_number starts) i j) w;
    once = λ i j k l w v e. down_once (takes_down (start_number starts) i j) (takes_down (start_number starts) k l) w
        v e;
    rises = column_rises;
    heads = heads_rise;
  }
