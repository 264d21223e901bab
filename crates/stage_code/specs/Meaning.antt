-- Flat code of a program: from the start of each part it does what the language says of the part.
use Rattle.std.specs.Prelude.{◌<◌, ◌≤◌, ◌+◌, ℕ, ℤ, List, [], length}
use Rattle.pipe_model.specs.declared.bounds.TheConstants.{MOST_LOCALS}
use Rattle.pipe_model.specs.declared.column.ColumnEnd.{ColumnEnd}
use Rattle.pipe_model.specs.declared.tree.Limits.{Limits}
use Rattle.pipe_model.specs.Language.CheckingRules.{cell_total}
use Rattle.pipe_model.specs.Language.Evaluation.{World, first_environment, run_iteration}
use Rattle.pipe_model.specs.Language.Interaction.{Interaction, Return}
use Rattle.pipe_model.specs.Language.Programs.{natural, setting_of}
use Rattle.pipe_model.specs.Language.ProgramsOfTrees.{execute_part}
use Rattle.pipe_model.specs.Language.SyntaxTree.{SyntaxTree}
use Rattle.stage_code.specs.FlatCode.{FlatCode}
use Rattle.stage_code.specs.Following.{Follows}
use Rattle.stage_code.specs.Instructions.{Bounds, CodeSetting, CodeState, Next}

-- the world of iteration i, by the limits that the code carries
abbrev pub world_of : Limits → List ℤ → ℕ → World
world_of limits input i = record {
  input = input;
  iteration = i;
  iterations = limits.iterations;
  stages = natural limits.stages;
  emits = natural limits.emits;
}

abbrev pub setting_of_code : FlatCode → Bounds → List ℤ → ℕ → CodeSetting
setting_of_code code bounds input i = record { world = world_of code.limits input i; code = code.instrs; bounds = bounds }

-- at the start of a part: an empty stack, any numbers in the slots, stage 0, one instance
abbrev pub state_at_start : ℕ → List ℤ → CodeState
state_at_start start slots = record { place = start; stack = []; slots = slots; stage = first_environment.stage }

-- there is room for the program's stack, cells and locals
pub record HasRoomToRun (tree : SyntaxTree) (code : FlatCode) (bounds : Bounds) (slots : List ℤ) : Type 0 where
  pub stack : code.depth ≤ bounds.depth
  pub cells : cell_total tree.cells + 2 ≤ bounds.cells
  pub locals : MOST_LOCALS ≤ length slots

-- from a start the code does what an interaction tree of the program does in iteration i, for as many steps as the budgets of all stage
-- instances together allow
abbrev pub RunsFrom : SyntaxTree → FlatCode → ℕ → List ℤ → ℕ → Interaction ColumnEnd → Type 0
RunsFrom tree code start input i part =
    (bounds : Bounds) (slots : List ℤ) (n : ℕ) → HasRoomToRun tree code bounds slots → n < (setting_of tree input i).turns
    → Follows (setting_of_code code bounds input i) n (Return (Next (state_at_start start slots))) part

-- the code does what the program does, for every input and iteration
pub record RunsProgram (tree : SyntaxTree) (code : FlatCode) : Type 0 where
  pub init : (input : List ℤ) → RunsFrom tree code code.init input 0 (execute_part (setting_of tree input 0) tree.init)
  pub pipe : (input : List ℤ) (i : ℕ) → RunsFrom tree code code.pipe input i (run_iteration (setting_of tree input i) tree.test tree.body)
  pub last : (input : List ℤ) → RunsFrom tree code code.last input 0 (execute_part (setting_of tree input 0) tree.last)
