-- Programs that halls are opened for.
use Rattle.std.specs.Prelude.{◌≡◌, ℤ, List}
use Rattle.pipe_frame.specs.Ties.{HallName}
use Rattle.pipe_model.specs.Language.CheckingRules.{BreaksNoRule}
use Rattle.pipe_model.specs.Language.SyntaxTree.{SyntaxTree}
use Rattle.stage_code.specs.FlatCode.{FlatCode}
use Rattle.stage_interp.specs.RemainingBehaviour.{IsCodeOf}

-- a program that breaks no rule, with its code
pub record IsPrepared (tree : SyntaxTree) (code : FlatCode) : Type 0 where
  pub accepted : BreaksNoRule tree
  pub code_of : IsCodeOf tree code

-- the hall is of this program and input
pub record IsHallOf (h : HallName) (tree : SyntaxTree) (input : List ℤ) : Type 0 where
  pub tree_is : h.tree ≡ tree
  pub input_is : h.input ≡ input
