use Rattle.std.proofs.Common.{subst, sym}
use Rattle.stage_interp.specs.MachineState.{IsMadeFor}
use Rattle.schedule_play.proofs.runner.RunnerPayload.begin.Goals as goal

pub returns-clause-ready : goal.returns-clause-ready
returns-clause-ready g c = λ tree input whole.
    let code = g.B.PlayedCode.code in
    let made = subst (IsMadeFor code) (sym c.get_mut.ensures.value) whole.made in
    record {
      whole = record { code_of = whole.code_of; made = c.reset.ensures.made code made; served = whole.served };
      represents = c.reset.ensures.represents tree code g.B.PlayedCode.cells input whole.code_of made whole.served;
    }
