-- The left parent of an instance, and the last index of the left column that precedes it, from what is known of the instance above.
use Rattle.std.specs.Prelude.{◌≡◌, ℕ, ℤ, zero, suc, List, map, nat_lt, if◌then◌else◌}
use Rattle.std.specs.Prelude.{Option, Some, None}
use Rattle.left_parent.specs.declared.started.StartedNode.{StartedNode}
use Rattle.pipe_model.specs.declared.node.Kind.{Kind}
use Rattle.pipe_model.specs.declared.node.Kind.TheVariants.{Zero, Wait, Continue}
use Rattle.pipe_model.specs.declared.node.Node.{Node}
use Rattle.pipe_model.specs.Orders.LeftParent.{joined_at}

-- the stage numbers of each column
abbrev pub numbers_of : List (List Node) → List (List ℤ)
numbers_of columns = map (λ nodes. map (λ n. n.number) nodes) columns

-- the last index of the left column that precedes instance k of column i; 0 in column 0
abbrev pub left_joined : List (List Node) → ℕ → ℕ → ℕ
left_joined columns zero k = 0
left_joined columns (suc i) k = joined_at columns i k

-- the left parent of an instance below a head, from its kind, the joined index of the instance above, and the last index of the
-- left column whose number is at most its own
abbrev pub parent_by : Kind → ℕ → Option ℕ → Option ℕ
parent_by Wait joined (Some j) = if nat_lt joined j then Some j else None
parent_by Wait joined None = None
parent_by Zero joined found = None
parent_by Continue joined found = None

-- the joined index, from the left parent and the instance above
abbrev pub joined_from : Option ℕ → Option StartedNode → ℕ
joined_from (Some j) above = j
joined_from None (Some above) = above.joined
joined_from None None = 0

-- the instance above is known, if there is one, with its joined index
abbrev pub IsAbove : List (List Node) → ℕ → ℕ → Option StartedNode → Type 0
IsAbove columns i zero above = above ≡ None
IsAbove columns i (suc k) above = (a : StartedNode) × (above ≡ Some a) × (a.joined ≡ left_joined columns i k)
