use Rattle.dag_build.proofs.Moves.{one_more_table}
use Rattle.dag_build.proofs.jumps.doubled.Goals as goal

pub loop-i-preserved : goal.loop-i-preserved
loop-i-preserved c =
    one_more_table _ _ _ _ _ _ c.loop-i.invariant c.in_ok-doubled_table.ensures c.in_ok-push.ensures.ok
