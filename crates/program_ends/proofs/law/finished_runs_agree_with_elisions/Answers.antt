use Rattle.program_ends.proofs.ElidedRuns.{finished_runs_agree_with_elisions}
use Rattle.program_ends.proofs.law.finished_runs_agree_with_elisions.Goals as goal

pub returns : goal.returns
returns c = finished_runs_agree_with_elisions
