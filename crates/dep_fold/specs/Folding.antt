-- Dependency folding (Lee et al. 2013): what a kept stage counter says of the left neighbour.
use Rattle.std.specs.Prelude.{ℤ, Option, Some, None, Bool, true, false, int_lt}
use Rattle.pipe_model.specs.declared.stage.Counter.{Counter}
use Rattle.pipe_model.specs.declared.stage.Counter.TheVariants.{At, Ended}
use Rattle.pipe_model.specs.Runs.StageCounters.{Passes}

-- a counter is kept, and it is past stage n
abbrev pub FoldedPasses : Option Counter → ℤ → Type 0
FoldedPasses None n = ⊥
FoldedPasses (Some c) n = Passes c n

-- the same as a test
abbrev pub folded_passes : Option Counter → ℤ → Bool
folded_passes None n = false
folded_passes (Some (At m)) n = int_lt n m
folded_passes (Some Ended) n = true
