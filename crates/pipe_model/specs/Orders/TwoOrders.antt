-- The two order-maintenance lists of 2D-Order (Xu, Lee, Agrawal 2018), down-first and right-first, of a list of starts.
-- In each list start m takes an element that is already there, a placeholder of an earlier start, and inserts two placeholders
-- of its own, 1 + 2 m and 2 + 2 m, right after it. Down-first keeps the first for the instance below and the second for
-- the next head; right-first keeps the first for the instance whose left parent it is, and the second for the one below.
use Rattle.std.specs.Prelude.{ℕ, zero, suc, List, [], ◌∷◌, ◌+◌, Option, Some, None, ◌*◌}
use Rattle.pipe_model.specs.declared.node.Node.{Node}
use Rattle.pipe_model.specs.declared.node.NodeId.{NodeId}
use Rattle.pipe_model.specs.Orders.OrderList.{list_of_log, place, IsBeforeIn}
use Rattle.pipe_model.specs.Orders.LeftParent.{left_parent}
use Rattle.pipe_model.specs.Orders.Starts.{start_number}

-- the placeholder that start m inserts right after its element
abbrev pub first_placeholder : ℕ → ℕ
first_placeholder m = 1 + 2 * m

-- the placeholder that it inserts after the first
abbrev pub second_placeholder : ℕ → ℕ
second_placeholder m = 2 + 2 * m

-- the element that an instance takes in down-first: the first placeholder of the instance above, or at a head the second of the head
-- to its left; `number` is the number of each instance's start
abbrev pub down_first_taken : (ℕ → ℕ → ℕ) → ℕ → ℕ → ℕ
down_first_taken number i (suc k) = first_placeholder (number i k)
down_first_taken number (suc i) zero = second_placeholder (number i 0)
down_first_taken number zero zero = 0

-- the element that an instance without a left parent takes in right-first: the second placeholder of the instance above
abbrev pub up_taken : (ℕ → ℕ → ℕ) → ℕ → ℕ → ℕ
up_taken number i zero = 0
up_taken number i (suc k) = second_placeholder (number i k)

-- the element that an instance takes in right-first: the first placeholder of its left parent, if it has one
abbrev pub right_taken_from : (ℕ → ℕ → ℕ) → ℕ → ℕ → Option ℕ → ℕ
right_taken_from number zero k found = up_taken number zero k
right_taken_from number (suc i) k (Some j) = first_placeholder (number i j)
right_taken_from number (suc i) k None = up_taken number (suc i) k

-- the same, with the left parent in these columns
abbrev pub right_first_taken : List (List Node) → (ℕ → ℕ → ℕ) → ℕ → ℕ → ℕ
right_first_taken columns number i k = right_taken_from number i k (left_parent columns i k)

-- the entries of the starts from number m on: the element that each takes, and then its own first placeholder
abbrev pub log_entries : (ℕ → ℕ → ℕ) → ℕ → List NodeId → List ℕ
log_entries taken m [] = []
log_entries taken m (x ∷ xs) = taken x.iteration x.index ∷ first_placeholder m ∷ log_entries taken (m + 1) xs

-- the insertion log of the down-first list
abbrev pub down_first_log : List NodeId → List ℕ
down_first_log starts = log_entries (down_first_taken (start_number starts)) 0 starts

-- the insertion log of the right-first list
abbrev pub right_first_log : List (List Node) → List NodeId → List ℕ
right_first_log columns starts = log_entries (right_first_taken columns (start_number starts)) 0 starts

-- the element of an instance in the down-first list
abbrev pub down_element : List NodeId → NodeId → ℕ
down_element starts x = down_first_taken (start_number starts) x.iteration x.index

-- the element of an instance in the right-first list
abbrev pub right_element : List (List Node) → List NodeId → NodeId → ℕ
right_element columns starts x = right_first_taken columns (start_number starts) x.iteration x.index

-- x is before y in both lists
pub record IsBeforeInBoth (columns : List (List Node)) (starts : List NodeId) (x y : NodeId) : Type 0 where
  pub down : IsBeforeIn (list_of_log (down_first_log starts)) (down_element starts x) (down_element starts y)
  pub right : IsBeforeIn (list_of_log (right_first_log columns starts)) (right_element columns starts x) (right_element columns starts y)

-- the index of an instance in the down-first list
abbrev pub down_place : List NodeId → NodeId → ℕ
down_place starts x = place (down_element starts x) (list_of_log (down_first_log starts))

-- the index of an instance in the right-first list
abbrev pub right_place : List (List Node) → List NodeId → NodeId → ℕ
right_place columns starts x = place (right_element columns starts x) (list_of_log (right_first_log columns starts))
