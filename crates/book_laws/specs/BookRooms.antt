-- The room of a book.
use Rattle.std.specs.Prelude.{ℤ, List}
use Rattle.pipe_model.specs.Language.CheckingRules.{BreaksNoRule}
use Rattle.pipe_model.specs.Language.SyntaxTree.{SyntaxTree}
use Rattle.frame_book.specs.NewBooks.{IsPlannedProgram}

-- a book has room for each accepted program, on every input
abbrev pub AcceptedProgramsArePlanned : Type 0
AcceptedProgramsArePlanned = (tree : SyntaxTree) (input : List ℤ) → BreaksNoRule tree → IsPlannedProgram tree input
