use Rattle.dag_build.proofs.Moves.{one_more_table, table_of_landings}
use Rattle.dag_build.proofs.jumps.single_jumps.Goals as goal

pub loop-i-preserved : goal.loop-i-preserved
loop-i-preserved c =
    one_more_table _ _ _ _ _ _ c.loop-i.invariant
    (table_of_landings _ _ _ (rw (← c.nodes_of.ensures, ← c.nodes_of-in-loop-i.ensures) c.in_ok-table.ensures))
    c.in_ok-push.ensures.ok
