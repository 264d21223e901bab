-- The left parent of an instance in the dag without redundant edges (Xu, Lee, Agrawal 2018): the source of its left edge,
-- unless that already precedes the instance above it. It is defined by the last instance of the column to the left that
-- precedes an instance.
use Rattle.std.specs.Prelude.{ℕ, ℤ, zero, suc, List, [], ◌∷◌, Bool, true, false, ◌+◌, Option, Some, None, if◌then◌else◌, int_le, max}
use Rattle.std.specs.Prelude.{nat_lt}
use Rattle.pipe_model.specs.declared.node.Kind.{Kind}
use Rattle.pipe_model.specs.declared.node.Kind.TheVariants.{Zero, Wait, Continue}
use Rattle.pipe_model.specs.declared.node.Node.{Node}
use Rattle.pipe_model.specs.Races.Columns.{node_at, nodes_at}

-- the index that was found in the rest plus 1, or else 0 if this instance counts
abbrev pub before_rest : Option ℕ → Bool → Option ℕ
before_rest (Some k) here = Some (k + 1)
before_rest None true = Some 0
before_rest None false = None

-- the index of the last instance whose number is at most s
abbrev pub last_up_to : List Node → ℤ → Option ℕ
last_up_to [] s = None
last_up_to (n ∷ ns) s = before_rest (last_up_to ns s) (int_le n.number s)

-- the greater of an index and the index that was found, if one was
abbrev pub later_place : ℕ → Option ℕ → ℕ
later_place k None = k
later_place k (Some j) = max k j

-- the joined index of an instance of this kind, from the joined index of the instance above it and the index that it waits for
abbrev pub joined_by : Kind → ℕ → Option ℕ → ℕ
joined_by Wait k found = later_place k found
joined_by Zero k found = k
joined_by Continue k found = k

-- the joined index: the index of the last instance of the left column that precedes instance k of the right column
abbrev pub joined : List Node → List Node → ℕ → ℕ
joined left right zero = 0
joined left right (suc k) = joined_by (node_at right (suc k)).kind (joined left right k) (last_up_to left (node_at right (suc k)).number)

-- the joined index of instance k of column i + 1 in column i
abbrev pub joined_at : List (List Node) → ℕ → ℕ → ℕ
joined_at columns i k = joined (nodes_at columns i) (nodes_at columns (i + 1)) k

-- the index of the left parent, if the left edge is there and not redundant
abbrev pub left_parent : List (List Node) → ℕ → ℕ → Option ℕ
left_parent columns zero k = None
left_parent columns (suc i) zero = Some 0
left_parent columns (suc i) (suc k) = if nat_lt (joined_at columns i k) (joined_at columns i (suc k)) then Some
    (joined_at columns i (suc k)) else None
