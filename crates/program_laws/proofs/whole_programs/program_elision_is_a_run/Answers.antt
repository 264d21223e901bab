use Rattle.program_laws.proofs.ProgramElisions.{program_elision_is_a_run}
use Rattle.program_laws.proofs.whole_programs.program_elision_is_a_run.Goals as goal

pub returns : goal.returns
returns c = program_elision_is_a_run
