use Rattle.cell_store.proofs.WrittenCells.{leaves_state}
use Rattle.cell_store.proofs.law.other_accesses_change_nothing.Goals as goal

pub returns : goal.returns
returns c = leaves_state
