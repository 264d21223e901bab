use Rattle.std.proofs.Common.{arith}
use Rattle.dag_build.specs.Jumps.{Stays}
use Rattle.dag_build.proofs.Moves.{moves_both}
use Rattle.dag_build.proofs.jumps.jumped.Goals as goal

pub loop-column-init : goal.loop-column-init
loop-column-init c = (c.requires.order, Stays)

pub loop-column-preserved : goal.loop-column-preserved
loop-column-preserved c = (omega arith, moves_both c.loop-column.invariant.1 c.jump-front.ensures)
