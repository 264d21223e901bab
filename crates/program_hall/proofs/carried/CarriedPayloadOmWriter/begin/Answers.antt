use Rattle.std.proofs.Common.{◌≤◌, ◌+◌, arith, subst, sym}
use Rattle.cell_store.proofs.DeclaredCells.{values_length}
use Rattle.pipe_model.specs.Language.CheckingRules.{cell_total}
use Rattle.pipe_model.specs.Language.SyntaxTree.{SyntaxTree}
use Rattle.pipe_worker.specs.Machines.{CanRun, HasMachine, cells_of}
use Rattle.program_hall.proofs.carried.CarriedPayloadOmWriter.begin.Goals as goal

all_cells : (tree : SyntaxTree) → cell_total tree.cells + 2 ≤ cells_of tree
all_cells tree = let n = values_length tree.cells in omega (arith, n)

pub returns-in-Some-clause-ready : goal.returns-in-Some-clause-ready
returns-in-Some-clause-ready g c = λ tree input whole.
    let code = g.B.RunCode.code in
    let can = subst (CanRun code tree) (sym c.get_mut.ensures.value) (subst (λ m. HasMachine m (CanRun code tree)) c.in-Some.is whole) in
    record {
      can = record { code_of = can.code_of; made = c.reset.ensures.made code can.made };
      represents = c.reset.ensures.represents tree code (cells_of tree) input can.code_of can.made (all_cells tree);
    }
