-- The flat code of a program that breaks no rule does what the program does.
use Rattle.std.proofs.Common.{◌≡◌, ℤ, List, [], None, arith}
use Rattle.pipe_model.specs.Language.CheckingRules.{fault_of}
use Rattle.pipe_model.specs.Language.Programs.{range_of, setting_of}
use Rattle.pipe_model.specs.Language.SyntaxTree.{SyntaxTree}
use Rattle.stage_code.specs.CodeOfTrees.{flat_code}
use Rattle.stage_code.specs.Following.{GoesOn}
use Rattle.stage_code.specs.Instructions.{Bounds}
use Rattle.stage_code.specs.Meaning.{HasRoomToRun, RunsProgram, setting_of_code}
use Rattle.stage_code.proofs.CodeParts.{parts_are_in}
use Rattle.stage_code.proofs.ProgramsInBounds.{ProgramStaysInBounds, program_in_bounds}
use Rattle.stage_code.proofs.StatementRuns.{iteration_runs, part_runs}

in_bounds : (tree : SyntaxTree) (bounds : Bounds) (slots : List ℤ) → fault_of tree ≡ None → HasRoomToRun tree (flat_code tree) bounds slots
    → ProgramStaysInBounds bounds tree
in_bounds tree bounds slots obeys room = program_in_bounds tree bounds obeys room.stack (omega (arith, room.cells))

pub flat_runs : (tree : SyntaxTree) → fault_of tree ≡ None → RunsProgram tree (flat_code tree)
flat_runs tree obeys =
    let code = flat_code tree in
    let cells = range_of 2 tree.cells in
    let parts = parts_are_in tree in
    let turns = (setting_of tree [] 0).turns in
    record {
      init = λ input bounds slots n room bounded.
          GoesOn _ (part_runs (setting_of_code code bounds input 0) cells turns n code.init slots tree.init bounded room.locals
          (in_bounds tree bounds slots obeys room).init parts.init);
      pipe = λ input i bounds slots n room bounded.
          GoesOn _ (iteration_runs (setting_of_code code bounds input i) cells turns n code.pipe slots tree.test tree.body bounded
          room.locals (in_bounds tree bounds slots obeys room).test
          (in_bounds tree bounds slots obeys room).body parts.pipe);
      last = λ input bounds slots n room bounded.
          GoesOn _ (part_runs (setting_of_code code bounds input 0) cells turns n code.last slots tree.last bounded room.locals
          (in_bounds tree bounds slots obeys room).last parts.last);
    }
