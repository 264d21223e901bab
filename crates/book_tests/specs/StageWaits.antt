-- Iterations that only wait for the stages 1, 2 and so on.
use Rattle.std.specs.Prelude.{ℕ, zero, suc, pos, if◌then◌else◌, nat_lt}
use Rattle.pipe_model.specs.declared.column.ColumnEnd.TheVariants.{Closed, End, Trapped}
use Rattle.pipe_model.specs.declared.node.Kind.TheVariants.{Wait}
use Rattle.pipe_model.specs.declared.trap.Trap.TheVariants.{StageLimit}
use Rattle.pipe_model.specs.Pipelines.Behaviour.{Behaviour, Staging, Ending}

-- after stage `here`, `left` more stages are waited for, unless the iteration has had as many instances as it may have
abbrev pub waiting : ℕ → ℕ → ℕ → Behaviour
waiting stages here zero = Ending End
waiting stages here (suc left) = if nat_lt (suc here) stages then Staging Wait (pos (suc here))
    (waiting stages (suc here) left) else Ending (Trapped StageLimit)

-- iteration i of a program whose first `turns` iterations wait for this many stages, and whose next one closes the loop
abbrev pub iteration_behaviour : ℕ → ℕ → ℕ → ℕ → Behaviour
iteration_behaviour turns waits stages i = if nat_lt i turns then waiting stages 0 waits else Ending Closed
