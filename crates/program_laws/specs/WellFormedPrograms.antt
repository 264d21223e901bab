-- The law of the pipelines of accepted programs.
use Rattle.std.specs.Prelude.{ℤ, List}
use Rattle.pipe_model.specs.Pipelines.Pipeline.{IsWellFormed}
use Rattle.pipe_model.specs.Language.Programs.{pipeline_of}
use Rattle.pipe_model.specs.Language.CheckingRules.{BreaksNoRule}
use Rattle.pipe_model.specs.Language.SyntaxTree.{SyntaxTree}

-- stage numbers rise in each iteration, only an instance 0 closes the loop, and the iteration after the last allowed one closes it
abbrev pub ProgramsAreWellFormed : Type 0
ProgramsAreWellFormed = (tree : SyntaxTree) (input : List ℤ) → BreaksNoRule tree → IsWellFormed (pipeline_of tree input)
