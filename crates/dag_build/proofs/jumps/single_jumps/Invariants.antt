use Rattle.dag_build.proofs.Moves.{HasTables}
use Rattle.dag_build.proofs.jumps.single_jumps.Given as goal

abbrev pub invariant-loop-i : goal.invariant-loop-i
invariant-loop-i l = HasTables l.columns 1 l.tables l.i
