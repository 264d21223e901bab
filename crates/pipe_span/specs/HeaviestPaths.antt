-- Paths of a computation dag whose instances have weights, and the heaviest of them, which is also called the critical path
-- (Blumofe and Leiserson 1999). If several are equally heavy, one is chosen.
use Rattle.std.specs.Prelude.{◌≡◌, ℕ, zero, suc, List, [], ◌∷◌, ◌++◌, ◌+◌, ◌<◌, ◌≤◌, ◌⊎◌, length, slice_index_or}
use Rattle.std.specs.List.{sum_by}
use Rattle.pipe_model.specs.declared.node.Node.{Node}
use Rattle.pipe_model.specs.declared.node.NodeId.{NodeId}
use Rattle.pipe_model.specs.Races.Columns.{nodes_at, IsNodeOf}
use Rattle.pipe_model.specs.Races.Dag.{Edge}

-- how many instances the columns before column i have
abbrev pub instances_before : List (List Node) → ℕ → ℕ
instances_before columns zero = 0
instances_before columns (suc i) = instances_before columns i + length (nodes_at columns i)

-- the weight of instance k of column i; the list has the weights of all instances in column order
abbrev pub weight_at : List (List Node) → List ℕ → ℕ → ℕ → ℕ
weight_at columns weights i k = slice_index_or weights (instances_before columns i + k) 0

-- the weight of the instance of this name
abbrev pub weight_of : List (List Node) → List ℕ → NodeId → ℕ
weight_of columns weights x = weight_at columns weights x.iteration x.index

-- a path that ends in an instance: each instance of the path has an edge to the next
pub data PathTo (columns : List (List Node)) : NodeId → List NodeId → Type 0 where
  Single : (x : NodeId) → IsNodeOf columns x → PathTo columns x (x ∷ [])
  Longer : (x y : NodeId) (path : List NodeId) → PathTo columns x path → Edge columns x y → PathTo columns y (path ++ y ∷ [])

-- the weight of a path is the sum of the weights of its instances
abbrev pub path_weight : List (List Node) → List ℕ → List NodeId → ℕ
path_weight columns weights path = sum_by (weight_of columns weights) path

-- the predecessor x of y, with the heaviest path to it, from which a heaviest path to y comes. No path to a predecessor of y is
-- heavier; of several predecessors with equally heavy paths, the one in the column of y is taken.
pub record IsChosenFor (columns : List (List Node)) (weights : List ℕ) (y x : NodeId) (path : List NodeId) : Type 0 where
  pub edge : Edge columns x y
  pub most : (z : NodeId) (other : List NodeId) → Edge columns z y → PathTo columns z other
      → path_weight columns weights other ≤ path_weight columns weights path
  pub ties : (z : NodeId) (other : List NodeId) → Edge columns z y → PathTo columns z other
      → path_weight columns weights other ≡ path_weight columns weights path → z.iteration ≡ y.iteration → z ≡ x

-- the path that is traced back from an instance, each time to the chosen predecessor, until an instance has none
pub data IsTraced (columns : List (List Node)) (weights : List ℕ) : NodeId → List NodeId → Type 0 where
  Begins : (x : NodeId) → IsNodeOf columns x → ((y : NodeId) → Edge columns y x → ⊥) → IsTraced columns weights x (x ∷ [])
  GoesOn : (x y : NodeId) (path : List NodeId) → IsTraced columns weights x path → IsChosenFor columns weights y x path
      → IsTraced columns weights y (path ++ y ∷ [])

-- in column order, x is before y
abbrev pub IsBefore : NodeId → NodeId → Type 0
IsBefore x y = (x.iteration < y.iteration) ⊎ ((x.iteration ≡ y.iteration) × (x.index < y.index))

-- the heaviest path of all leads to this last instance and has this weight. Of several instances to which equally heavy paths
-- lead, the first in column order is taken.
pub record IsHeaviestTo (columns : List (List Node)) (weights : List ℕ) (last : NodeId) (path : List NodeId) (weight : ℕ) : Type 0 where
  pub is_path : PathTo columns last path
  pub weighs : path_weight columns weights path ≡ weight
  pub most : (y : NodeId) (other : List NodeId) → PathTo columns y other → path_weight columns weights other ≤ weight
  pub first : (y : NodeId) (other : List NodeId) → PathTo columns y other → IsBefore y last → path_weight columns weights other < weight
  pub traced : IsTraced columns weights last path
