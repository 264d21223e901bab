use Rattle.schedule_laws.proofs.PlayedSchedules.{schedules_play_runs}
use Rattle.schedule_laws.proofs.schedules.schedules_play_runs.Goals as goal

pub returns : goal.returns
returns c = schedules_play_runs
