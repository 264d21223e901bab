-- The ranges of a program's limits, so that a machine can count with them.
use Rattle.std.specs.Prelude.{◌≤ℤ◌, pos}
use Rattle.pipe_model.specs.declared.bounds.TheConstants.{MOST_ITERATIONS, MOST_STAGES, MOST_STEPS, MOST_EMITS}
use Rattle.pipe_model.specs.declared.tree.Limits.{Limits}

-- each limit is in its range
pub record HasRangesOfLimits (limits : Limits) : Type 0 where
  pub iterations : (pos 1 ≤ℤ limits.iterations) × (limits.iterations ≤ℤ MOST_ITERATIONS)
  pub stages : (pos 1 ≤ℤ limits.stages) × (limits.stages ≤ℤ MOST_STAGES)
  pub steps : (pos 1 ≤ℤ limits.steps) × (limits.steps ≤ℤ MOST_STEPS)
  pub emits : (pos 0 ≤ℤ limits.emits) × (limits.emits ≤ℤ MOST_EMITS)
