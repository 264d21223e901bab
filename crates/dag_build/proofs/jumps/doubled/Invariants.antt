use Rattle.dag_build.proofs.Moves.{HasTables}
use Rattle.dag_build.proofs.jumps.doubled.Given as goal

abbrev pub invariant-loop-i : goal.invariant-loop-i
invariant-loop-i l = HasTables l.columns l.step l.tables l.i
