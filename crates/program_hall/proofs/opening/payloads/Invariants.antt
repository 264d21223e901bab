use Rattle.std.proofs.Common.{◌≡◌, All, length}
use Rattle.pipe_worker.specs.Machines.{HasMachine}
use Rattle.stage_interp.specs.MachineState.{IsMadeFor}
use Rattle.program_hall.proofs.opening.payloads.Given as goal

abbrev pub invariant-loop : goal.invariant-loop
invariant-loop g l = record {
  unchanged : l.passes ≡ l.fn.passes;
  count : length l.payloads.items ≡ l.counter;
  made : All (λ x. HasMachine x.machine (IsMadeFor g.B.RunCode.code)) l.payloads.items;
  passes : All (λ x. x.passes ≡ l.fn.passes) l.payloads.items;
}
