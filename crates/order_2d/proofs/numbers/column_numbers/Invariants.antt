-- The numbers of the columns so far.
use Rattle.std.proofs.Common.{◌≡◌, take}
use Rattle.left_parent.specs.Parents.{numbers_of}
use Rattle.order_2d.proofs.numbers.column_numbers.Given as goal
use Rattle.pipe_model.specs.Races.Columns.{node_columns}

abbrev pub invariant-loop-column : goal.invariant-loop-column
invariant-loop-column l = l.rows ≡ numbers_of (node_columns (take l.column-index l.columns))
