-- Machines that run the instances of an iteration.
use Rattle.std.specs.Prelude.{◌≡◌, ◌≤◌, ℕ, ℤ, List, length, Option, Some, None}
use Rattle.pipe_frame.specs.Replies.{after_instances}
use Rattle.pipe_frame.specs.Ties.{HallName}
use Rattle.pipe_model.specs.Language.Programs.{pipeline_of, store_of}
use Rattle.pipe_model.specs.Language.SyntaxTree.{SyntaxTree}
use Rattle.stage_code.specs.FlatCode.{FlatCode}
use Rattle.stage_interp.specs.CellNumbers.{most_cell_ids}
use Rattle.stage_interp.specs.MachineState.{IsMadeFor, MachineState}
use Rattle.stage_interp.specs.RemainingBehaviour.{IsCodeOf, Represents}

-- how many cells a program has
abbrev pub cells_of : SyntaxTree → ℕ
cells_of tree = length (store_of tree).values

-- the machine can run the program, whose code this is
pub record CanRun (code : FlatCode) (tree : SyntaxTree) (m : MachineState) : Type 0 where
  pub code_of : IsCodeOf tree code
  pub made : IsMadeFor code m

-- it is at the beginning of an instance of iteration i, after instances with these replies
pub record IsAtInstance (code : FlatCode) (tree : SyntaxTree) (input : List ℤ) (m : MachineState) (i : ℕ)
    (replies : List (List ℤ)) : Type 0 where
  pub can : CanRun code tree m
  pub represents : Represents code (cells_of tree) input m.run (after_instances ((pipeline_of tree input).behaviour i) replies)

-- there is a machine, and this holds of it
abbrev pub HasMachine : Option MachineState → (MachineState → Type 0) → Type 0
HasMachine None P = ⊥
HasMachine (Some m) P = P m

-- a machine at the beginning of an instance can run its program
pub ready_whole : (code : FlatCode) (tree : SyntaxTree) (input : List ℤ) (m : Option MachineState) (i : ℕ) (replies : List (List ℤ))
    → HasMachine m (λ x. IsAtInstance code tree input x i replies) → HasMachine m (CanRun code tree)
ready_whole code tree input None i replies h = h
ready_whole code tree input (Some m) i replies h = h.can

-- machines for code `own` run the hall's program with this code and input
pub record CanDrive (own : FlatCode) (h : HallName) (code : FlatCode) (input : List ℤ) : Type 0 where
  pub code_is : code ≡ own
  pub input_is : input ≡ h.input
  pub bounded : cells_of h.tree ≤ most_cell_ids
