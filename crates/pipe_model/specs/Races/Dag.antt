-- The computation dag of a pipeline (Lee et al. 2013): its nodes are the instances of the columns. Edges lead down each
-- column, and across from each column to the next: from head to head, and to each instance that waits.
use Rattle.std.specs.Prelude.{◌≡◌, ℕ, ℤ, List, ◌≢◌, ◌+◌, ◌<◌, ◌≤ℤ◌, ◌<ℤ◌, length}
use Rattle.pipe_model.specs.declared.node.Kind.TheVariants.{Wait}
use Rattle.pipe_model.specs.declared.node.Node.{Node}
use Rattle.pipe_model.specs.declared.node.NodeId.{NodeId}
use Rattle.pipe_model.specs.Races.Columns.{node_at, nodes_at, at}

-- instance j is the last of the left column whose stage number is at most this one
pub record IsLastUpTo (left : List Node) (j : ℕ) (number : ℤ) : Type 0 where
  pub within : j < length left
  pub up_to : (node_at left j).number ≤ℤ number
  pub last : (k : ℕ) → j < k → k < length left → number <ℤ (node_at left k).number

-- an edge from instance j of a column to instance k of the next: between the heads, or to an instance that waits
pub data CrossEdge (left right : List Node) : ℕ → ℕ → Type 0 where
  HeadCross : 0 < length left → 0 < length right → CrossEdge left right 0 0
  WaitCross : (j k : ℕ) → k < length right → (node_at right k).kind ≡ Wait → IsLastUpTo left j (node_at right k).number
      → CrossEdge left right j k

-- the edges of the dag
pub data Edge (columns : List (List Node)) : NodeId → NodeId → Type 0 where
  DownEdge : (i k : ℕ) → k + 1 < length (nodes_at columns i) → Edge columns (at i k) (at i (k + 1))
  AcrossEdge : (i j k : ℕ) → CrossEdge (nodes_at columns i) (nodes_at columns (i + 1)) j k → Edge columns (at i j) (at (i + 1) k)

-- a path of one or more edges leads from x to y
pub data Precedes (columns : List (List Node)) : NodeId → NodeId → Type 0 where
  ByEdge : {x y : NodeId} → Edge columns x y → Precedes columns x y
  ByPath : {x y z : NodeId} → Precedes columns x y → Edge columns y z → Precedes columns x z

-- two different instances, and neither precedes the other
pub record AreParallel (columns : List (List Node)) (x y : NodeId) : Type 0 where
  pub apart : x ≢ y
  pub not_before : Precedes columns x y → ⊥
  pub not_after : Precedes columns y x → ⊥
