-- What contracts see of the two order lists, and what a start changes of them.
use Rattle.std.specs.Prelude.{ℕ, List, [], ◌∷◌, ◌++◌, ◌+◌, ◌<◌, ◌≤◌, length, Option, Some, None}
use Rattle.pipe_model.specs.declared.marks.Marks.{Marks}

-- an order list: the log of its insertions, how many elements it has room for, and numbers that identify the list, if it
-- has an identity
pub record OrderedList : Type 0 where
  pub log : List ℕ
  pub capacity : ℕ
  pub identity : List ℕ

-- down-first and right-first
pub record OrderPair : Type 0 where
  pub down : OrderedList
  pub right : OrderedList

-- the logs of the two lists
pub record OrderLogs : Type 0 where
  pub down : List ℕ
  pub right : List ℕ

-- a list after a start that takes element x: one new element right after x, and one after that
abbrev pub list_with_start : OrderedList → ℕ → OrderedList
list_with_start l x = record l { log = l.log ++ x ∷ (1 + length l.log) ∷ [] }

-- both lists after a start that takes these elements
abbrev pub with_start : OrderPair → ℕ → ℕ → OrderPair
with_start o down right = record { down = list_with_start o.down down; right = list_with_start o.right right }

-- the marks of a start that takes these elements, if the logs had n entries each
abbrev pub marks_after : ℕ → ℕ → ℕ → Marks
marks_after n down right = record {
  down_first = down;
  right_first = right;
  down = record { down_first = 1 + n; right_first = 2 + n };
  right = record { down_first = 2 + n; right_first = 1 + n };
}

-- what an instance takes in down-first: the placeholder of the instance above, or else of its left parent
abbrev pub down_taken : Option Marks → Option Marks → ℕ
down_taken (Some up) left = up.down.down_first
down_taken None (Some left) = left.right.down_first
down_taken None None = 0

-- what it takes in right-first: the placeholder of its left parent, or else of the instance above
abbrev pub right_taken : Option Marks → Option Marks → ℕ
right_taken up (Some left) = left.right.right_first
right_taken (Some up) None = up.down.right_first
right_taken None None = 0

-- both lists have room for the two elements of a start
pub record HasRoom (o : OrderPair) : Type 0 where
  pub down : 2 + length o.down.log < o.down.capacity
  pub right : 2 + length o.right.log < o.right.capacity

-- the placeholders that an instance with these parents takes are in the lists, which have n elements besides element 0
pub record AreInserted (n : ℕ) (up left : Option Marks) : Type 0 where
  pub down : down_taken up left ≤ n
  pub right : right_taken up left ≤ n
