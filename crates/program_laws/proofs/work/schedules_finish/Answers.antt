use Rattle.program_laws.proofs.FinishedSchedules.{schedules_finish}
use Rattle.program_laws.proofs.work.schedules_finish.Goals as goal

pub returns : goal.returns
returns c = schedules_finish
