use Rattle.std.proofs.Common.{sym, subst}
use Rattle.stage_interp.specs.MachineState.{IsMadeFor}
use Rattle.pipe_worker.proofs.instance.run_stage_by.Goals as goal

pub returns-clause-made : goal.returns-clause-made
returns-clause-made g c = λ code made. c.run_stage-end.ensures.made code (subst (IsMadeFor code) (sym c.get_mut-lent.ensures.value) made)
