use Rattle.pipe_check.proofs.FirstFaults.{is_first}
use Rattle.pipe_check.proofs.law.faults_are_first.Goals as goal

pub returns : goal.returns
returns c = is_first
