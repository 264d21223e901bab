-- Order lists that only grow, and the elements of an instance in them.
use Rattle.std.specs.Prelude.{◌≡◌, ◌↔◌, ℕ, List, true}
use Rattle.pipe_model.specs.declared.marks.Marks.{Marks}
use Rattle.pipe_model.specs.Orders.OrderList.{IsBeforeIn, has}

-- ys has the elements of xs in the same order, and perhaps more
pub record KeepsOrder (xs ys : List ℕ) : Type 0 where
  pub elements : (x : ℕ) → has x xs ≡ true → has x ys ≡ true
  pub order : (x y : ℕ) → has x xs ≡ true → has y xs ≡ true → IsBeforeIn ys x y ↔ IsBeforeIn xs x y

-- the elements of the instance are in the two lists
pub record AreIn (down_first right_first : List ℕ) (marks : Marks) : Type 0 where
  pub down : has marks.down_first down_first ≡ true
  pub right : has marks.right_first right_first ≡ true
