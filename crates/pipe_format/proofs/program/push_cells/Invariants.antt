use Rattle.std.proofs.Common.{◌≡◌, ◌++◌, take}
use Rattle.std.specs.List.{flat_map}
use Rattle.pipe_model.specs.Language.CanonicalText.{cell_text}
use Rattle.pipe_format.proofs.program.push_cells.Given as goal

abbrev pub invariant-loop-cell : goal.invariant-loop-cell
invariant-loop-cell l = l.text.items ≡ l.fn.text.items ++ flat_map cell_text (take l.cell-index l.cells)
