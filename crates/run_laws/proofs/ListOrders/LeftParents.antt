-- The left parent by joined indices, and which element each start takes.
use Rattle.std.proofs.Common.{List, ℕ, ◌≡◌, ◌<◌, Bool, ltb, suc, cond, true, arith, ◌+◌, false, zero, refl, ◌≤◌, ◌*◌}
use Rattle.std.proofs.lemmas.Bool.{ltb-true, ltb-false}
use Rattle.std.specs.declared.option.Option.{Option}
use Rattle.std.specs.declared.option.Option.TheVariants.{Some, None}
use Rattle.pipe_model.specs.Races.Columns.{nodes_at}
use Rattle.pipe_model.specs.Orders.LeftParent.{joined_at, left_parent}
use Rattle.pipe_model.specs.Orders.TwoOrders.{right_taken_from, right_first_taken, down_first_taken}
use Rattle.pipe_model.specs.declared.node.Node.{Node}
use Rattle.run_laws.proofs.ListOrders.JoinedPlaces.{joined_rises}

-- the instance is the first in its column with the joined index b
pub record IsLeftAt (columns : List (List Node)) (a j b : ℕ) : Type 0 where
  pub joins : joined_at columns a j ≡ b
  pub nearest : (d : ℕ) → d < j → joined_at columns a d < b

-- `left_is`, by the test
left_is_by : (columns : List (List Node)) (a k b : ℕ) (t : Bool)
    → ltb (joined_at columns a k) (joined_at columns a (suc k)) ≡ t
    → cond t (Some (joined_at columns a (suc k))) None ≡ Some b → IsLeftAt columns a (suc k) b
left_is_by columns a k b true e f =
    let s : joined_at columns a (suc k) ≡ b = (let r : Some (joined_at columns a (suc k)) ≡ Some b = f in cc) in
    record {
      joins = s;
      nearest = λ d l. (
          let p = joined_rises (nodes_at columns a) (nodes_at columns (a + 1)) d k (omega arith) in
          let q = ltb-true (joined_at columns a k) (joined_at columns a (suc k)) e in
          omega (arith, p, q, s));
    }
left_is_by columns a k b false e f = absurd (let r : None ≡ Some b = f in cc)

-- the instance of a left parent is the first with that joined index
pub left_is : (columns : List (List Node)) (a j b : ℕ) → left_parent columns (suc a) j ≡ Some b
    → IsLeftAt columns a j b
left_is columns a zero b e = record {
  joins = (let r : Some 0 ≡ Some b = e in cc);
  nearest = λ d l. absurd (omega arith);
}
left_is columns a (suc k) b e =
    left_is_by columns a k b (ltb (joined_at columns a k) (joined_at columns a (suc k))) refl e

-- `left_none`, by the test
left_none_by : (x y : ℕ) (t : Bool) → ltb x y ≡ t → cond t (Some y) None ≡ None → y ≤ x
left_none_by x y true e f = absurd (let r : Some y ≡ None = f in cc)
left_none_by x y false e f = ltb-false x y e

-- without a left parent the joined index is the joined index of the instance above
pub left_none : (columns : List (List Node)) (a k : ℕ) → left_parent columns (suc a) (suc k) ≡ None
    → joined_at columns a (suc k) ≡ joined_at columns a k
left_none columns a k e =
    let p = left_none_by (joined_at columns a k) (joined_at columns a (suc k))
    (ltb (joined_at columns a k) (joined_at columns a (suc k))) refl e in
    let q = joined_rises (nodes_at columns a) (nodes_at columns (a + 1)) k (suc k) (omega arith) in
    omega (arith, p, q)

-- which element an instance takes in right-first
pub data TakesRight (columns : List (List Node)) (number : ℕ → ℕ → ℕ) : ℕ → ℕ → ℕ → Type 0 where
  RightRoot : TakesRight columns number 0 0 0
  RightOf : (a j b : ℕ) → IsLeftAt columns a j b → TakesRight columns number (suc a) j (1 + 2 * number a b)
  RightBelow : (i j : ℕ) → left_parent columns i (suc j) ≡ None
      → TakesRight columns number i (suc j) (2 + 2 * number i j)

-- `takes_right`, by the left parent
takes_right_by : (columns : List (List Node)) (number : ℕ → ℕ → ℕ) (i j : ℕ) (found : Option ℕ)
    → left_parent columns i j ≡ found → TakesRight columns number i j (right_taken_from number i j found)
takes_right_by columns number zero zero found e = RightRoot
takes_right_by columns number zero (suc j) found e = RightBelow 0 j refl
takes_right_by columns number (suc i) j (Some b) e = RightOf i j b (left_is columns i j b e)
takes_right_by columns number (suc i) zero None e = absurd (let r : Some 0 ≡ None = e in cc)
takes_right_by columns number (suc i) (suc j) None e = RightBelow (suc i) j e

-- each instance takes such an element in right-first
pub takes_right : (columns : List (List Node)) (number : ℕ → ℕ → ℕ) (i j : ℕ)
    → TakesRight columns number i j (right_first_taken columns number i j)
takes_right columns number i j = takes_right_by columns number i j (left_parent columns i j) refl

-- which element an instance takes in down-first
pub data TakesDown (number : ℕ → ℕ → ℕ) : ℕ → ℕ → ℕ → Type 0 where
  DownRoot : TakesDown number 0 0 0
  DownHead : (i : ℕ) → TakesDown number (suc i) 0 (2 + 2 * number i 0)
  DownBelow : (i j : ℕ) → TakesDown number i (suc j) (1 + 2 * number i j)

-- each instance takes such an element in down-first
pub takes_down : (number : ℕ → ℕ → ℕ) (i j : ℕ) → TakesDown number i j (down_first_taken number i j)
takes_down number zero zero = DownRoot
takes_down number (suc i) zero = DownHead i
takes_down number i (suc j) = DownBelow i j
