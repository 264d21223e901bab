use Rattle.schedule_laws.proofs.Candidates.{runs_have_candidates}
use Rattle.schedule_laws.proofs.schedules.runs_have_candidates.Goals as goal

pub returns : goal.returns
returns c = runs_have_candidates
