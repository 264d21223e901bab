-- Work and span of a computation dag whose instances take steps (Blumofe and Leiserson 1999): the steps of all instances, and
-- those of a heaviest path.
use Rattle.std.specs.Prelude.{◌≡◌, ℕ, ℤ, List, [], ◌≤ℤ◌, pos, negsuc, map, slice_index_or}
use Rattle.std.specs.List.{sum}
use Rattle.pipe_model.specs.declared.node.Node.{Node}
use Rattle.pipe_model.specs.declared.node.NodeId.{NodeId}
use Rattle.pipe_span.specs.declared.heaviest.Span.{Span}
use Rattle.pipe_span.specs.HeaviestPaths.{IsHeaviestTo}
use Rattle.pipe_span.specs.Entries.{most_weight}

-- a number of steps as a weight; none is negative
abbrev pub weight_of_steps : ℤ → ℕ
weight_of_steps (pos n) = n
weight_of_steps (negsuc n) = 0

-- the weights of instances that take these steps
abbrev pub weights_of : List ℤ → List ℕ
weights_of steps = map weight_of_steps steps

-- each number of steps is from 0 to the most that a program may allow
pub record AreSteps (steps : List ℤ) : Type 0 where
  pub least : (k : ℕ) → pos 0 ≤ℤ slice_index_or steps k (pos 0)
  pub most : (k : ℕ) → slice_index_or steps k (pos 0) ≤ℤ pos most_weight

-- the path is the heaviest of all, chosen by the rules for equal weights, and this is its weight
pub record IsHeaviest (columns : List (List Node)) (weights : List ℕ) (path : List NodeId) (weight : ℕ) : Type 0 where
  pub last : NodeId
  pub heaviest : IsHeaviestTo columns weights last path weight

-- the span, which is the weight of the heaviest path, and that path; without columns they are 0 and the empty path
pub data IsSpanOf (columns : List (List Node)) (weights : List ℕ) : ℤ → List NodeId → Type 0 where
  NoColumns : columns ≡ [] → IsSpanOf columns weights (pos 0) []
  Heaviest : (path : List NodeId) (weight : ℕ) → IsHeaviest columns weights path weight → IsSpanOf columns weights (pos weight) path

-- work and span of the columns, the steps of whose instances are listed in column order
pub record IsWorkAndSpan (columns : List (List Node)) (steps : List ℤ) (s : Span) : Type 0 where
  pub work : s.work ≡ pos (sum (weights_of steps))
  pub span : IsSpanOf columns (weights_of steps) s.span s.path
