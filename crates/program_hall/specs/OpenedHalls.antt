-- Halls that are opened for a program.
use Rattle.std.specs.Prelude.{◌≡◌, ℕ, ℤ, List, Some, false, is_some}
use Rattle.hall_table.specs.SeatViews.{HallConstants}
use Rattle.hall_table.specs.WorkerSeats.{HallState}
use Rattle.pipe_model.specs.declared.access.Access.{Access}
use Rattle.pipe_model.specs.Language.ProgramsOfTrees.{whole_of}
use Rattle.pipe_model.specs.Language.SyntaxTree.{SyntaxTree, tree_of}
use Rattle.pipe_model.specs.Pipelines.WholePrograms.{init_accesses, init_trap}

-- the hall is of this program, input and throttling limit, and its cells are those after the accesses `before`
pub record IsOpenedFor (tree : SyntaxTree) (input : List ℤ) (limit : ℕ) (before : List Access) (h : HallState) : Type 0 where
  pub constants : HallConstants
  pub are : h.hall.constants ≡ Some constants
  pub tree_is : tree_of constants.program ≡ tree
  pub input_is : constants.input ≡ input
  pub limit_is : constants.limit ≡ limit
  pub before_is : h.before ≡ before

-- `init` of the hall's program did not trap, and the cells are those after it
pub record IsOpenedAfterInit (tree : SyntaxTree) (input : List ℤ) (limit : ℕ) (h : HallState) : Type 0 where
  pub no_trap : is_some (init_trap (whole_of tree input)) ≡ false
  pub opened : IsOpenedFor tree input limit (init_accesses (whole_of tree input)) h
