use Rattle.program_laws.proofs.BoundedWork.{program_runs_are_bounded}
use Rattle.program_laws.proofs.work.program_runs_are_bounded.Goals as goal

pub returns : goal.returns
returns c = program_runs_are_bounded
