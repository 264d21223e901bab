use Rattle.std.proofs.Common.{◌≡◌, [], take, drop}
use Rattle.pipe_check.specs.CellTables.{IsCellTable}
use Rattle.pipe_model.specs.Language.CheckingRules.{first_fault}
use Rattle.pipe_model.specs.Language.Marks.{marks_of_cells}
use Rattle.pipe_check.proofs.cell_table.CellTable.of.Given as goal

-- the table has the cells so far, which have no fault
abbrev pub invariant-loop-cell : goal.invariant-loop-cell
invariant-loop-cell l = record {
  table : IsCellTable l.sizes l.total (take l.cell-index l.declared);
  numbered : l.next ≡ l.cell-index;
  faults : first_fault l.next (marks_of_cells (take l.cell-index l.declared) (drop l.cell-index l.declared)) ≡ first_fault 0
      (marks_of_cells [] l.declared);
}
