-- The lists of the two logs, start by start.
use Rattle.std.proofs.Common.{ℕ, List, length, ◌≡◌, ◌+◌, ◌<◌, ◌*◌, arith, ap, [], ◌∷◌, sym, ◌∙◌, suc, ap₂, ◌≤◌, inl, inr, zero, refl}
use Rattle.std.proofs.lemmas.Bool.{cases_lt, cases_eq}
use Rattle.std.specs.declared.option.Option.TheVariants.{None}
use Rattle.pipe_model.specs.Races.Columns.{AreColumns, at}
use Rattle.pipe_model.specs.Orders.LeftParent.{joined_at, left_parent}
use Rattle.run_laws.proofs.ListOrders.Reach.{reach}
use Rattle.pipe_model.specs.Orders.OrderList.{inserted, insert_after, list_of_log, place}
use Rattle.pipe_model.specs.Orders.Starts.{start_at, AreStarts, start_number}
use Rattle.pipe_model.specs.Orders.TwoOrders.{log_entries, right_first_taken, down_first_taken, down_first_log, right_first_log}
use Rattle.pipe_model.specs.declared.node.Node.{Node}
use Rattle.pipe_model.specs.declared.node.NodeId.{NodeId}
use Rattle.run_laws.proofs.ListOrders.DownChildren.{takes_first_down, takes_head_place, takes_below_place, down_first_empty}
use Rattle.run_laws.proofs.ListOrders.DownFirst.{IsDownFirst, TakesDownPlace, down_first_kept, FallsBefore}
use Rattle.run_laws.proofs.ListOrders.JoinedPlaces.{reach_left, reach_here, reach_right}
use Rattle.run_laws.proofs.ListOrders.LeftParents.{IsLeftAt, left_none, TakesRight, RightRoot, RightOf, RightBelow, TakesDown, DownRoot}
use Rattle.run_laws.proofs.ListOrders.LeftParents.{DownHead, DownBelow}
use Rattle.run_laws.proofs.ListOrders.LeftParents.{takes_right, takes_down}
use Rattle.run_laws.proofs.ListOrders.ListPlaces.{list_after, start_moves}
use Rattle.run_laws.proofs.ListOrders.RightChildren.{Newest, IsRightChild, IsDownChild, takes_first_place, takes_right_place}
use Rattle.run_laws.proofs.ListOrders.RightChildren.{takes_down_place, right_first_empty}
use Rattle.run_laws.proofs.ListOrders.RightFirst.{IsRightFirst, TakesRightPlace, right_first_kept, GoesBefore}
use Rattle.run_laws.proofs.ListOrders.StartNumbers.{column_rises, heads_rise, below_ordered, counted_right, counted_down}
use Rattle.run_laws.proofs.ListOrders.StartPlaces.{IsCounted, Apart}

-- the element that start number m takes
abbrev pub taken_at : (ℕ → ℕ → ℕ) → List NodeId → ℕ → ℕ
taken_at taken starts m = taken (start_at starts m).iteration (start_at starts m).index

-- the entries of some starts, in the list after those before
inserted-log_entries : (f : ℕ → ℕ) (taken : ℕ → ℕ → ℕ) (xs : List NodeId) (m : ℕ)
    → ((t : ℕ) → t < length xs → f (m + t) ≡ taken_at taken xs t)
    → inserted (list_after f m) (1 + 2 * m) (log_entries taken m xs) ≡ list_after f (m + length xs)
inserted-log_entries f taken [] m h = let e : m ≡ m + 0 = omega arith in ap (list_after f) e
inserted-log_entries f taken (x ∷ xs) m h =
    let z : m ≡ m + 0 = omega arith in
    let head : taken x.iteration x.index ≡ f m = sym (ap f z ∙ h 0 (omega arith)) in
    let two_e : 1 + 2 * m + 1 ≡ 2 + 2 * m = omega arith in
    let s : suc m ≡ m + 1 = omega arith in
    let list_e : insert_after (1 + 2 * m) (1 + 2 * m + 1)
    (insert_after (taken x.iteration x.index) (1 + 2 * m) (list_after f m)) ≡ list_after f (m + 1)
    = ap₂ (λ a b. insert_after (1 + 2 * m) a (insert_after b (1 + 2 * m) (list_after f m))) two_e head
    ∙ ap (list_after f) s in
    let next_e : 1 + 2 * m + 1 + 1 ≡ 1 + 2 * (m + 1) = omega arith in
    let rest = inserted-log_entries f taken xs (m + 1) (λ t l. (
    let q : m + 1 + t ≡ m + suc t = omega arith in
    ap f q ∙ h (suc t) (omega arith))) in
    let end : m + 1 + length xs ≡ m + suc (length xs) = omega arith in
    ap₂ (λ xs' e. inserted xs' e (log_entries taken (m + 1) xs)) list_e next_e ∙ (rest ∙ ap (list_after f) end)

-- the list of a log is the list after its starts
list_of_log-log_entries : (taken : ℕ → ℕ → ℕ) (starts : List NodeId)
    → list_of_log (log_entries taken 0 starts) ≡ list_after (taken_at taken starts) (length starts)
list_of_log-log_entries taken starts =
    inserted-log_entries (taken_at taken starts) taken starts 0 (λ t l. let e : 0 + t ≡ t =
    omega arith in ap (taken_at taken starts) e) ∙ (
    let e : 0 + length starts ≡ length starts = omega arith in
    ap (list_after (taken_at taken starts)) e)

-- fewer starts are counted too
counted_fewer : (number element : ℕ → ℕ → ℕ) (m n : ℕ) → m ≤ n → IsCounted number element n
    → IsCounted number element m
counted_fewer number element m n l c = record {
  same = λ i j k l' w e. c.same i j k l' (omega arith) e;
  below = λ i j w. c.below i j (omega arith);
  once = λ i j k l' w v e. c.once i j k l' (omega arith) (omega arith) e;
  rises = λ i j k w v. c.rises i j k w (omega arith);
  heads = λ i k w v. c.heads i k w (omega arith);
}

module _ (columns : List (List Node)) (starts : List NodeId) (ok : AreColumns columns)
    (ord : AreStarts columns starts) where
  -- instance (0, 0) starts first
  first_is_first : (m : ℕ) → m < length starts → start_number starts 0 0 ≡ m → m ≡ 0
  first_is_first m w e =
      let z = ord.once 0 (omega arith) in
      let i : ℕ = (start_at starts 0).iteration in
      let j : ℕ = (start_at starts 0).index in
      let z' : start_number starts i j ≡ 0 = z in
      let p = column_rises columns starts ok ord i 0 j (omega arith) (omega arith) in
      let q = heads_rise columns starts ok ord 0 i (omega arith) (omega arith) in
      omega (arith, z', p, q, e)

  -- a started instance in the column of a new one is above it
  pub in_column : (m x y : ℕ) → m < length starts → start_number starts x y ≡ m → (c d : ℕ)
      → start_number starts c d < m → c ≡ x → d < y
  in_column m x y w at c d l s = elim (cases_lt d y) [
    | inl less ↦ less
    | inr ge ↦ (
        let e : start_number starts c d ≡ start_number starts x d = ap (λ a. start_number starts a d) s in
        let p = column_rises columns starts ok ord x y d ge (omega arith) in
        absurd (omega (arith, e, p, at, l)))
  ]

  -- no started instance is after a new one
  not_after : (m x y : ℕ) → m < length starts → start_number starts x y ≡ m → (c d : ℕ) → start_number starts c d < m
      → x < c → reach columns c d x < y
  not_after m x y w at c d l s = elim (cases_lt (reach columns c d x) y) [
    | inl less ↦ less
    | inr ge ↦ (
        let p = below_ordered columns starts ok ord x y c d (record {
          column = omega arith;
          place = λ e. absurd (omega (arith, e));
          within = λ e. ge;
        }) (omega arith) in
        absurd (omega (arith, p, at, l)))
  ]

  -- the new instance is the newest
  pub newest : (m x y t : ℕ) → m < length starts → start_number starts x y ≡ m
      → right_first_taken columns (start_number starts) x y ≡ t
      → Newest (start_number starts) (right_first_taken columns (start_number starts)) (reach columns) m x y t
  newest m x y t w at takes = record {
    at = at;
    takes = takes;
    column = in_column m x y w at;
    later = not_after m x y w at;
  }

  -- an instance with a left parent is its right child
  pub right_child : (m a b y : ℕ) → m < length starts → start_number starts (suc a) y ≡ m → IsLeftAt columns a y b
      → IsRightChild (start_number starts) (right_first_taken columns (start_number starts)) (reach columns) m a b y
  right_child m a b y w at h = let j = h.joins in record {
    parent = (
        let p = below_ordered columns starts ok ord a b (suc a) y (record {
          column = omega arith;
          place = λ e. absurd (omega (arith, e));
          within = λ e. (
              let q = reach_left columns a y a (omega arith) in
              let r = reach_here columns a (joined_at columns a y) in
              omega (arith, q, r, j));
        }) (omega arith) in omega (arith, p, at));
    via = λ k l. reach_left columns a y k l ∙ ap (λ n. reach columns a n k) j;
    here = reach_here columns a b;
    rightmost = λ c d l v. (
        let p = reach_right columns c d a l in
        let q : reach columns c d (a + 1) < y = elim (cases_eq c (suc a)) [
          | inl s ↦ (
              let e : c ≡ a + 1 = omega (arith, s) in
              let r = reach_here columns c d in
              let r' : reach columns c d (a + 1) ≡ reach columns c d c = ap (reach columns c d) (sym e) in
              let n = in_column m (suc a) y w at c d v s in
              omega (arith, r, r', n))
          | inr n ↦ (
              let e : a + 1 ≡ suc a = omega arith in
              let r : reach columns c d (a + 1) ≡ reach columns c d (suc a) = ap (reach columns c d) e in
              let z = not_after m (suc a) y w at c d v (omega arith) in
              omega (arith, r, z))
        ] in
        let near = h.nearest (reach columns c d (a + 1)) q in
        omega (arith, p, near));
  }

  -- without a left parent, reach is the same as for the instance above
  down_via : (x y k : ℕ) → left_parent columns x (suc y) ≡ None → k < x
      → reach columns x (suc y) k ≡ reach columns x y k
  down_via zero y k e l = absurd (omega arith)
  down_via (suc a) y k e l =
      reach_left columns a (suc y) k (omega arith)
      ∙ (ap (λ n. reach columns a n k) (left_none columns a y e) ∙ sym (reach_left columns a y k (omega arith)))

  -- an instance without a left parent is a down child
  pub down_child : (m x y : ℕ) → m < length starts → start_number starts x (suc y) ≡ m
      → left_parent columns x (suc y) ≡ None
      → IsDownChild (start_number starts) (right_first_taken columns (start_number starts)) (reach columns) m x y
  down_child m x y w at e = record {
    parent = (
        let p = below_ordered columns starts ok ord x y x (suc y) (record {
          column = omega arith;
          place = λ s. omega arith;
          within = λ s. absurd (omega (arith, s));
        }) (omega arith) in
        omega (arith, p, at));
    via = λ k l. down_via x y k e l;
  }

  -- each start takes a right placeholder, by the element that it takes
  pub takes_right_place_by : {i j t : ℕ} → TakesRight columns (start_number starts) i j t → (m : ℕ) (pos : ℕ → ℕ)
      → m < length starts → start_number starts i j ≡ m → right_first_taken columns (start_number starts) i j ≡ t
      → Apart m pos → IsRightFirst (start_number starts) (right_first_taken columns (start_number starts))
      (reach columns) m pos → TakesRightPlace (start_number starts)
      (right_first_taken columns (start_number starts)) (reach columns) m t pos
  takes_right_place_by RightRoot m pos w at takes apart inv =
      takes_first_place (start_number starts) (right_first_taken columns (start_number starts)) (reach columns) m pos
      (first_is_first m w at) (counted_fewer _ _ (suc m) (length starts) w (counted_right columns starts ok ord))
      at takes
  takes_right_place_by (RightOf a y b h) m pos w at takes apart inv =
      takes_right_place (start_number starts) (right_first_taken columns (start_number starts)) (reach columns) m a b
      y pos (counted_fewer _ _ (suc m) (length starts) w (counted_right columns starts ok ord)) apart inv
      (newest m (suc a) y (1 + 2 * start_number starts a b) w at takes) (right_child m a b y w at h)
  takes_right_place_by (RightBelow x y e) m pos w at takes apart inv =
      takes_down_place (start_number starts) (right_first_taken columns (start_number starts)) (reach columns) m x y
      pos (counted_fewer _ _ (suc m) (length starts) w (counted_right columns starts ok ord)) inv
      (newest m x (suc y) (2 + 2 * start_number starts x y) w at takes) (down_child m x y w at e)

  -- each start takes a down placeholder, by the element that it takes
  pub takes_down_place_by : {i j t : ℕ} → TakesDown (start_number starts) i j t → (m : ℕ) (pos : ℕ → ℕ)
      → m < length starts → start_number starts i j ≡ m → down_first_taken (start_number starts) i j ≡ t
      → Apart m pos → IsDownFirst (start_number starts) (down_first_taken (start_number starts)) m pos
      → TakesDownPlace (start_number starts) (down_first_taken (start_number starts)) m t pos
  takes_down_place_by DownRoot m pos w at takes apart inv =
      takes_first_down (start_number starts) (down_first_taken (start_number starts)) m pos (first_is_first m w at)
      (counted_fewer _ _ (suc m) (length starts) w (counted_down columns starts ok ord)) at takes
  takes_down_place_by (DownHead x) m pos w at takes apart inv =
      takes_head_place (start_number starts) (down_first_taken (start_number starts)) m x pos
      (counted_fewer _ _ (suc m) (length starts) w (counted_down columns starts ok ord)) inv
      (record { at = at; takes = takes; column = in_column m (suc x) 0 w at })
      (
      let p = below_ordered columns starts ok ord x 0 (suc x) 0 (record {
        column = omega arith;
        place = λ s. absurd (omega (arith, s));
        within = λ s. omega arith;
      }) (omega arith) in
      omega (arith, p, at))
  takes_down_place_by (DownBelow x y) m pos w at takes apart inv =
      takes_below_place (start_number starts) (down_first_taken (start_number starts)) m x y pos
      (counted_fewer _ _ (suc m) (length starts) w (counted_down columns starts ok ord)) apart inv
      (record { at = at; takes = takes; column = in_column m x (suc y) w at })
      (
      let p = below_ordered columns starts ok ord x y x (suc y) (record {
        column = omega arith;
        place = λ s. omega arith;
        within = λ s. absurd (omega (arith, s));
      }) (omega arith) in
      omega (arith, p, at))

  -- each start takes an element that is already in the list, in right-first
  old_right : (m : ℕ) → m < length starts
      → taken_at (right_first_taken columns (start_number starts)) starts m < 1 + 2 * m
  old_right m w = let at = ord.once m w in let c = counted_right columns starts ok ord in
      let b = c.below (start_at starts m).iteration (start_at starts m).index (omega (arith, at)) in
      omega (arith, at, b)

  -- each start takes an element that is already in the list, in down-first
  old_down : (m : ℕ) → m < length starts → taken_at (down_first_taken (start_number starts)) starts m < 1 + 2 * m
  old_down m w = let at = ord.once m w in let c = counted_down columns starts ok ord in
      let b = c.below (start_at starts m).iteration (start_at starts m).index (omega (arith, at)) in
      omega (arith, at, b)

  -- the right-first list after m starts
  right_after : (m : ℕ) → m ≤ length starts
      → IsRightFirst (start_number starts) (right_first_taken columns (start_number starts)) (reach columns) m
      (λ z. place z (list_after (taken_at (right_first_taken columns (start_number starts)) starts) m))
  right_after zero w = right_first_empty _ _ _ _
  right_after (suc m) w =
      let f : ℕ → ℕ = taken_at (right_first_taken columns (start_number starts)) starts in
      let moves = start_moves f (length starts) old_right m w in
      let before = right_after m (omega arith) in
      right_first_kept (start_number starts) (right_first_taken columns (start_number starts)) (reach columns) m (f m)
      (λ z. place z (list_after f m)) (λ z. place z (list_after f (suc m)))
      (counted_fewer _ _ (suc m) (length starts) w (counted_right columns starts ok ord))
      (takes_right_place_by (takes_right columns (start_number starts) (start_at starts m).iteration
      (start_at starts m).index) m (λ z. place z (list_after f m)) w (ord.once m w) refl
      (record { apart = moves.apart }) before)
      moves before

  -- the down-first list after m starts
  down_after : (m : ℕ) → m ≤ length starts
      → IsDownFirst (start_number starts) (down_first_taken (start_number starts)) m
      (λ z. place z (list_after (taken_at (down_first_taken (start_number starts)) starts) m))
  down_after zero w = down_first_empty _ _ _
  down_after (suc m) w =
      let f : ℕ → ℕ = taken_at (down_first_taken (start_number starts)) starts in
      let moves = start_moves f (length starts) old_down m w in
      let before = down_after m (omega arith) in
      down_first_kept (start_number starts) (down_first_taken (start_number starts)) m (f m)
      (λ z. place z (list_after f m)) (λ z. place z (list_after f (suc m)))
      (counted_fewer _ _ (suc m) (length starts) w (counted_down columns starts ok ord))
      (takes_down_place_by (takes_down (start_number starts) (start_at starts m).iteration (start_at starts m).index)
      m (λ z. place z (list_after f m)) w (ord.once m w) refl (record { apart = moves.apart }) before)
      moves before

  -- the order of two started instances in the down-first list
  pub down_order : (i j k l : ℕ) → start_number starts i j < length starts → start_number starts k l < length starts
      → FallsBefore i j k l
      → place (down_first_taken (start_number starts) i j) (list_of_log (down_first_log starts)) < place
      (down_first_taken (start_number starts) k l) (list_of_log (down_first_log starts))
  down_order i j k l w v g =
      rw (list_of_log-log_entries (down_first_taken (start_number starts)) starts)
      ((down_after (length starts) (omega arith)).order i j k l w v g)

  -- the order of two started instances in the right-first list
  pub right_order : (i j k l : ℕ) → start_number starts i j < length starts → start_number starts k l < length starts
      → GoesBefore (reach columns) i j k l
      → place (right_first_taken columns (start_number starts) i j)
      (list_of_log (right_first_log columns starts)) < place (right_first_taken columns (start_number starts) k l)
      (list_of_log (right_first_log columns starts))
  right_order i j k l w v g =
      rw (list_of_log-log_entries (right_first_taken columns (start_number starts)) starts)
      ((right_after (length starts) (omega arith)).order i j k l w v g)
