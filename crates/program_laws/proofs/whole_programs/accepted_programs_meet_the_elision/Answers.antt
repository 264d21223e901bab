use Rattle.program_laws.proofs.ProgramElisions.{accepted_programs_meet_the_elision}
use Rattle.program_laws.proofs.whole_programs.accepted_programs_meet_the_elision.Goals as goal

pub returns : goal.returns
returns c = accepted_programs_meet_the_elision
