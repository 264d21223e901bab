-- The rows so far are empty.
use Rattle.std.proofs.Common.{◌≡◌, take}
use Rattle.order_2d.specs.StartedNodes.{no_rows}
use Rattle.order_2d.proofs.replay.empty_rows.Given as goal

abbrev pub invariant-loop-column : goal.invariant-loop-column
invariant-loop-column l = l.rows.items ≡ no_rows (take l.column-index l.columns)
