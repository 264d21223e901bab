use Rattle.std.proofs.Common.{◌≡◌}
use Rattle.pipe_span.specs.HeaviestPaths.{instances_before}
use Rattle.pipe_span.proofs.AllRows.{HasRows}
use Rattle.pipe_span.proofs.rows.rows_of.Given as goal

abbrev pub invariant-loop-i : goal.invariant-loop-i
invariant-loop-i l = (l.first ≡ instances_before l.columns l.i) × HasRows l.columns l.weights l.rows l.i
