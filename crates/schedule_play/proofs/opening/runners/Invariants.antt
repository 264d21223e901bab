use Rattle.std.proofs.Common.{◌≡◌, All, length}
use Rattle.stage_interp.specs.MachineState.{IsMadeFor}
use Rattle.schedule_play.proofs.opening.runners.Given as goal

abbrev pub invariant-loop : goal.invariant-loop
invariant-loop g l = (length l.runners.items ≡ l.counter) × All (λ r. IsMadeFor g.B.PlayedCode.code r.machine) l.runners.items
