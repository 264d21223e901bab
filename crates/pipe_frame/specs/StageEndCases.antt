-- How an iteration goes on after an instance, by the end of the instance.
use Rattle.std.specs.Prelude.{ℕ}
use Rattle.pipe_model.specs.declared.stage.StageEnd.{StageEnd}
use Rattle.pipe_model.specs.declared.stage.StageEnd.TheVariants.{Wait, Continue, End, Closed, Trap, Stopped}
use Rattle.pipe_model.specs.Runs.Allowed.{LeftHasPassed}
use Rattle.pipe_model.specs.Runs.State.{State}

-- iteration i names a next stage, and may enter it at once
abbrev pub EntersAtOnce : State → ℕ → StageEnd → Type 0
EntersAtOnce s i (Wait n) = LeftHasPassed s.frames i n
EntersAtOnce s i (Continue n) = Unit {0}
EntersAtOnce s i End = ⊥
EntersAtOnce s i Closed = ⊥
EntersAtOnce s i (Trap t) = ⊥
EntersAtOnce s i Stopped = ⊥

-- iteration i names a next stage for which it must wait
abbrev pub MustWait : State → ℕ → StageEnd → Type 0
MustWait s i (Wait n) = LeftHasPassed s.frames i n → ⊥
MustWait s i (Continue n) = ⊥
MustWait s i End = ⊥
MustWait s i Closed = ⊥
MustWait s i (Trap t) = ⊥
MustWait s i Stopped = ⊥

-- the iteration ends
abbrev pub EndsIteration : StageEnd → Type 0
EndsIteration (Wait n) = ⊥
EndsIteration (Continue n) = ⊥
EndsIteration End = Unit {0}
EndsIteration Closed = Unit {0}
EndsIteration (Trap t) = Unit {0}
EndsIteration Stopped = ⊥

-- the iteration names a next stage
abbrev pub NamesNextStage : StageEnd → Type 0
NamesNextStage (Wait n) = Unit {0}
NamesNextStage (Continue n) = Unit {0}
NamesNextStage End = ⊥
NamesNextStage Closed = ⊥
NamesNextStage (Trap t) = ⊥
NamesNextStage Stopped = ⊥
