-- Laws of work and span.
use Rattle.std.specs.Prelude.{◌≡◌, ◌≤ℤ◌, ℕ, ℤ, List, length, pos, slice_index_or}
use Rattle.pipe_model.specs.declared.node.Node.{Node}
use Rattle.pipe_model.specs.Language.Programs.{natural}
use Rattle.pipe_model.specs.Language.ProgramsOfTrees.{whole_of}
use Rattle.pipe_model.specs.Language.SyntaxTree.{SyntaxTree}
use Rattle.pipe_model.specs.Pipelines.WholePrograms.{program_columns}
use Rattle.pipe_model.specs.Races.Columns.{AreColumns, node_columns}
use Rattle.pipe_span.specs.declared.heaviest.Span.{Span}
use Rattle.pipe_span.specs.HeaviestPaths.{instances_before}
use Rattle.pipe_span.specs.WorkAndSpan.{IsWorkAndSpan}
use Rattle.serial_elision.specs.ElisionSteps.{program_steps}

-- columns whose instances have weights have at most one work, span and heaviest path
abbrev pub ColumnsHaveOneSpan : Type 0
ColumnsHaveOneSpan = (columns : List (List Node)) (steps : List ℤ) (s t : Span) → AreColumns columns
    → IsWorkAndSpan columns steps s → IsWorkAndSpan columns steps t → s ≡ t

-- the serial elision has a number of steps for each of its instances, from 0 to the declared budget
pub record HasStepsOfInstances (tree : SyntaxTree) (input : List ℤ) : Type 0 where
  pub whole : length (program_steps tree input)
      ≡ instances_before (node_columns (program_columns (whole_of tree input))) (length (program_columns (whole_of tree input)))
  pub least : (k : ℕ) → pos 0 ≤ℤ slice_index_or (program_steps tree input) k (pos 0)
  pub most : (k : ℕ) → slice_index_or (program_steps tree input) k (pos 0) ≤ℤ pos (natural tree.limits.steps)

-- this holds for every program and input
abbrev pub InstancesHaveSteps : Type 0
InstancesHaveSteps = (tree : SyntaxTree) (input : List ℤ) → HasStepsOfInstances tree input
