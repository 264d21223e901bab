use Rattle.std.proofs.Common.{below_more}
use Rattle.dag_build.proofs.RacePlaces.{racing_at}
use Rattle.dag_build.proofs.dag.Dag.race_with.Goals as goal

pub loop-earlier-preserved : goal.loop-earlier-preserved
loop-earlier-preserved c =
    below_more _ _ c.loop-earlier.invariant (λ r. c.if-are_racing.ensures.no (racing_at _ _ _ _ _ _ r))
