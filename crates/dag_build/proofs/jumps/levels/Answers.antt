use Rattle.dag_build.proofs.Moves.{all_levels, no_levels, one_more_level}
use Rattle.dag_build.proofs.jumps.levels.Goals as goal

pub loop-jumps-init : goal.loop-jumps-init
loop-jumps-init c = no_levels _ _ _ c.new-levels.ensures c.in_ok-jumps.ensures.single c.in_ok-jumps.ensures.jumps

pub doubled-requires-clause-jumps : goal.doubled-requires-clause-jumps
doubled-requires-clause-jumps c = c.loop-jumps.invariant.coming

pub loop-jumps-preserved : goal.loop-jumps-preserved
loop-jumps-preserved c = one_more_level _ _ _ _ _ c.loop-jumps.invariant c.in_ok-push.ensures.ok c.in_ok-twice.ensures.jumps

pub returns : goal.returns
returns c = all_levels _ _ _ _ c.loop-jumps.invariant c.in_ok-push-2.ensures.ok
