use Rattle.schedule_laws.proofs.ControlOutlines.{control_goes_by_outlines, accesses_change_no_outline}
use Rattle.schedule_laws.proofs.control.control_goes_by_outlines.Goals as goal

pub returns : goal.returns
returns c = record { outlines = control_goes_by_outlines; accesses = accesses_change_no_outline }
