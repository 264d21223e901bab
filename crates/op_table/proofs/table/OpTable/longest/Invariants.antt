use Rattle.std.proofs.Common.{take}
use Rattle.op_table.specs.Tables.{IsBest}
use Rattle.op_table.proofs.table.OpTable.longest.Given as goal

abbrev pub invariant-loop-row : goal.invariant-loop-row
invariant-loop-row g l = IsBest (take l.row-index l.self.rows) l.bytes l.best
