-- The parents of the next instance, and the elements that it takes.
use Rattle.std.proofs.Common.{◌≡◌, ◌∙◌, refl, sym, ap, subst, ℕ, zero, suc, ◌+◌, ◌-◌, ◌*◌, ◌<◌, List, length, arith}
use Rattle.std.specs.Prelude.{Option, Some, None, option_map}
use Rattle.left_parent.specs.declared.started.StartedNode.{StartedNode}
use Rattle.order_2d.specs.OrderPairs.{AreInserted, down_taken, right_taken}
use Rattle.left_parent.specs.Parents.{IsAbove}
use Rattle.order_2d.specs.StartedNodes.{HasStarted, node_in, row_at, started_node}
use Rattle.pipe_model.specs.declared.marks.Marks.{Marks}
use Rattle.pipe_model.specs.declared.node.Node.{Node}
use Rattle.pipe_model.specs.declared.node.NodeId.{NodeId}
use Rattle.pipe_model.specs.Orders.LeftParent.{left_parent}
use Rattle.pipe_model.specs.Orders.OrderMarks.{instance_marks}
use Rattle.pipe_model.specs.Orders.Starts.{AreStarts, start_number}
use Rattle.pipe_model.specs.Orders.TwoOrders.{down_first_taken, right_first_taken}
use Rattle.pipe_model.specs.Races.Columns.{AreColumns}
use Rattle.run_laws.proofs.ListOrders.LeftParents.{left_is}
use Rattle.run_laws.proofs.ListOrders.StartNumbers.{counted_down, counted_right, left_ordered, up_ordered}

-- the instance above
abbrev pub above_node : List (List Node) → List NodeId → ℕ → ℕ → Option StartedNode
above_node columns starts i zero = None
above_node columns starts i (suc k) = Some (started_node columns starts i k)

-- its marks
abbrev pub up_marks : List (List Node) → List NodeId → ℕ → ℕ → Option Marks
up_marks columns starts i k = option_map (λ (n : StartedNode). n.marks) (above_node columns starts i k)

-- the marks of the left parent
abbrev pub left_parent_marks : List (List Node) → List NodeId → ℕ → ℕ → Option Marks
left_parent_marks columns starts zero k = None
left_parent_marks columns starts (suc i) k = option_map (instance_marks columns starts i) (left_parent columns (suc i) k)

-- an instance takes its element of each list from the marks of its parents
pub taken_down : (columns : List (List Node)) (starts : List NodeId) (i k : ℕ)
    → down_taken (up_marks columns starts i k) (left_parent_marks columns starts i k)
    ≡ down_first_taken (start_number starts) i k
taken_down columns starts i (suc k) = refl
taken_down columns starts (suc i) zero = refl
taken_down columns starts zero zero = refl

pub taken_right : (columns : List (List Node)) (starts : List NodeId) (i k : ℕ)
    → right_taken (up_marks columns starts i k) (left_parent_marks columns starts i k)
    ≡ right_first_taken columns (start_number starts) i k
taken_right columns starts zero zero = refl
taken_right columns starts zero (suc k) = refl
taken_right columns starts (suc i) zero = refl
taken_right columns starts (suc i) (suc k) = by_left (left_parent columns (suc i) (suc k)) refl
  where
    by_left : (found : Option ℕ) → left_parent columns (suc i) (suc k) ≡ found
        → right_taken (up_marks columns starts (suc i) (suc k))
        (option_map (instance_marks columns starts i) (left_parent columns (suc i) (suc k)))
        ≡ right_first_taken columns (start_number starts) (suc i) (suc k)
    by_left None e = rw e refl
    by_left (Some j) e = rw e refl

module _ (columns : List (List Node)) (starts : List NodeId) (ok : AreColumns columns) (ord : AreStarts columns starts)
    (m : ℕ) (rows : List (List StartedNode)) (h : HasStarted columns starts m rows) (within : m < length starts)
    (i k : ℕ) (number : start_number starts i k ≡ m) where
  -- the instance above has started
  pub above_there : (q : ℕ) → k ≡ q + 1 → q < length (row_at rows i)
  above_there q e =
      let e' : k ≡ suc q = omega (arith, e) in
      let same : start_number starts i (suc q) ≡ m = ap (start_number starts i) (sym e') ∙ number in
      let up = up_ordered columns starts ok ord i q (omega (arith, same, within)) in
      h.there i q (omega (arith, up, same))

  pub above_is : (above : Option StartedNode) → (k ≡ 0 → above ≡ None)
      → ((q : ℕ) → k ≡ q + 1 → above ≡ Some (node_in (row_at rows i) q)) → above ≡ above_node columns starts i k
  above_is above none some = by_index k refl
    where
      by_index : (n : ℕ) → k ≡ n → above ≡ above_node columns starts i n
      by_index zero e = none e
      by_index (suc q) e =
          let e' : k ≡ q + 1 = omega (arith, e) in
          some q e' ∙ ap Some (h.each i q (above_there q e'))

  -- and so has the left parent
  pub left_column : (j : ℕ) → left_parent columns i k ≡ Some j → 0 < i
  left_column j e = by_column i refl
    where
      by_column : (n : ℕ) → i ≡ n → 0 < i
      by_column zero s = absurd (let q : left_parent columns zero k ≡ Some j = ap (λ a. left_parent columns a k) (sym s) ∙ e in
          let q' : None ≡ Some j = q in cc)
      by_column (suc n) s = omega (arith, s)

  pub left_there : (j : ℕ) → left_parent columns i k ≡ Some j → j < length (row_at rows (i - 1))
  left_there j e = by_column i refl
    where
      by_column : (n : ℕ) → i ≡ n → j < length (row_at rows (i - 1))
      by_column zero s = absurd (let l = left_column j e in omega (arith, l, s))
      by_column (suc n) s =
          let found : left_parent columns (suc n) k ≡ Some j = ap (λ a. left_parent columns a k) (sym s) ∙ e in
          let same : start_number starts (suc n) k ≡ m = ap (λ a. start_number starts a k) (sym s) ∙ number in
          let left = left_ordered columns starts ok ord n k j (left_is columns n k j found) (omega (arith, same, within)) in
          let column : n ≡ i - 1 = omega (arith, s) in
          subst (λ a. j < length (row_at rows a)) column (h.there n j (omega (arith, left, same)))

  pub left_marks_are : (left : Option ℕ) (marks : Option Marks) → left ≡ left_parent columns i k
      → (left ≡ None → marks ≡ None)
      → ((j : ℕ) → left ≡ Some j → marks ≡ Some (node_in (row_at rows (i - 1)) j).marks)
      → marks ≡ left_parent_marks columns starts i k
  left_marks_are left marks is none some = by_left left refl
    where
      by_left : (found : Option ℕ) → left ≡ found → marks ≡ left_parent_marks columns starts i k
      by_left None e = none e ∙ by_column i refl
        where
          by_column : (n : ℕ) → i ≡ n → None ≡ left_parent_marks columns starts n k
          by_column zero s = refl
          by_column (suc n) s =
              let q : left_parent columns (suc n) k ≡ None = ap (λ a. left_parent columns a k) (sym s) ∙ (sym is ∙ e) in
              sym (ap (option_map (instance_marks columns starts n)) q)
      by_left (Some j) e = some j e ∙ by_column i refl
        where
          by_column : (n : ℕ) → i ≡ n → Some (node_in (row_at rows (i - 1)) j).marks ≡ left_parent_marks columns starts n k
          by_column zero s = absurd (let l = left_column j (sym is ∙ e) in omega (arith, l, s))
          by_column (suc n) s =
              let q : left_parent columns (suc n) k ≡ Some j = ap (λ a. left_parent columns a k) (sym s) ∙ (sym is ∙ e) in
              let column : i - 1 ≡ n = omega (arith, s) in
              let there : j < length (row_at rows n) = subst (λ a. j < length (row_at rows a)) column (left_there j (sym is ∙ e)) in
              ap (λ a. Some (node_in (row_at rows a) j).marks) column
              ∙ (ap (λ (n : StartedNode). Some n.marks) (h.each n j there)
              ∙ sym (ap (option_map (instance_marks columns starts n)) q))

  -- the marks of both parents
  pub parents_are : (above : Option StartedNode) → (k ≡ 0 → above ≡ None)
      → ((q : ℕ) → k ≡ q + 1 → above ≡ Some (node_in (row_at rows i) q))
      → (up : Option Marks) → up ≡ option_map (λ (n : StartedNode). n.marks) above
      → (left : Option ℕ) (marks : Option Marks) → left ≡ left_parent columns i k → (left ≡ None → marks ≡ None)
      → ((j : ℕ) → left ≡ Some j → marks ≡ Some (node_in (row_at rows (i - 1)) j).marks)
      → (up ≡ up_marks columns starts i k) × (marks ≡ left_parent_marks columns starts i k)
  parents_are above none some up up_is left marks is left_none left_some = (
    up_is ∙ ap (option_map (λ (n : StartedNode). n.marks)) (above_is above none some),
    left_marks_are left marks is left_none left_some,
  )

  -- the elements that it takes are in the lists
  pub inserted : (n : ℕ) → n ≡ 2 * m → AreInserted n (up_marks columns starts i k) (left_parent_marks columns starts i k)
  inserted n e =
      let down = (counted_down columns starts ok ord).below i k (omega (arith, number, within)) in
      let right = (counted_right columns starts ok ord).below i k (omega (arith, number, within)) in
      let d = taken_down columns starts i k in
      let r = taken_right columns starts i k in
      record { down = omega (arith, down, d, number, e); right = omega (arith, right, r, number, e) }

-- what is known of the instance above
pub is_above : (columns : List (List Node)) (starts : List NodeId) (i k : ℕ) → IsAbove columns i k (above_node columns starts i k)
is_above columns starts i zero = refl
is_above columns starts i (suc k) = (started_node columns starts i k, refl, refl)
