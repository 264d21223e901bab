-- A dag is made of columns: lists of instances whose stage numbers rise (Lee et al. 2013).
use Rattle.std.specs.Prelude.{ℕ, List}
use Rattle.pipe_model.specs.declared.access.NodeAccess.{NodeAccess}
use Rattle.pipe_model.specs.declared.node.Node.{Node}
use Rattle.pipe_model.specs.Races.Columns.{nodes_at, IsRising, IsNodeOf}

-- the stage numbers of each column rise
pub record AreRising (columns : List (List Node)) : Type 0 where
  pub each : (i : ℕ) → IsRising (nodes_at columns i)

-- the access was made by an instance of the columns
abbrev pub IsAccessOf : List (List Node) → NodeAccess → Type 0
IsAccessOf columns a = IsNodeOf columns a.node
