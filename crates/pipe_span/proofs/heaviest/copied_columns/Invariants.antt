use Rattle.std.proofs.Common.{◌≡◌, take}
use Rattle.pipe_span.proofs.heaviest.copied_columns.Given as goal
use Rattle.pipe_model.specs.Races.Columns.{node_columns}

abbrev pub invariant-loop-column : goal.invariant-loop-column
invariant-loop-column l = l.copies ≡ node_columns (take l.column-index l.columns)
