-- Machines that run the instances of an iteration.
use Rattle.std.specs.Prelude.{◌≤◌, ◌+◌, ℕ, ℤ, List, None}
use Rattle.pipe_frame.specs.Replies.{after_instances}
use Rattle.pipe_frame.specs.Ties.{Tie}
use Rattle.pipe_model.specs.Language.CheckingRules.{cell_total}
use Rattle.pipe_model.specs.Language.Programs.{pipeline_of}
use Rattle.pipe_model.specs.Language.SyntaxTree.{SyntaxTree}
use Rattle.stage_code.specs.FlatCode.{FlatCode}
use Rattle.stage_interp.specs.MachineState.{IsMadeFor, MachineState}
use Rattle.stage_interp.specs.RemainingBehaviour.{IsCodeOf, Represents}

-- a machine for this code can run the program over a memory of this many cells
pub record CanRun (code : FlatCode) (cells : ℕ) (tree : SyntaxTree) (m : MachineState) : Type 0 where
  pub code_of : IsCodeOf tree code
  pub made : IsMadeFor code m
  pub served : cell_total tree.cells + 2 ≤ cells

-- it is at the beginning of an instance of iteration i, after instances with these replies
pub record IsAtInstance (code : FlatCode) (cells : ℕ) (tree : SyntaxTree) (input : List ℤ) (m : MachineState) (i : ℕ)
    (replies : List (List ℤ)) : Type 0 where
  pub whole : CanRun code cells tree m
  pub represents : Represents code cells input m.run (after_instances ((pipeline_of tree input).behaviour i) replies)

-- a payload that belongs to no order lists and to no seat
abbrev pub no_tie : Tie
no_tie = record { lists = None; seat = None }
