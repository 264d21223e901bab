use Rattle.std.proofs.Common.{◌-◌, length}
use Rattle.dag_build.proofs.Moves.{HasLevels}
use Rattle.dag_build.proofs.jumps.levels.Given as goal

abbrev pub invariant-loop-jumps : goal.invariant-loop-jumps
invariant-loop-jumps l = HasLevels l.columns l.levels l.jumps

abbrev pub decreases-loop-jumps : goal.decreases-loop-jumps
decreases-loop-jumps l = length l.columns - l.jumps.step
