use Rattle.stage_code.proofs.CellRanges.{IsHalf}
use Rattle.stage_code.proofs.cell_ranges.CellRanges.of.Given as goal

abbrev pub invariant-loop-cell : goal.invariant-loop-cell
invariant-loop-cell l = IsHalf l.ranges l.next l.cell-index l.declared
