use Rattle.schedule_laws.proofs.PlayedSchedules.{finished_runs_have_no_candidate}
use Rattle.schedule_laws.proofs.schedules.finished_runs_have_no_candidate.Goals as goal

pub returns : goal.returns
returns c = finished_runs_have_no_candidate
