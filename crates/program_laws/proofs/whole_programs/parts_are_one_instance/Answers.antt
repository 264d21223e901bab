use Rattle.program_laws.proofs.OneInstance.{parts_are_one_instance}
use Rattle.program_laws.proofs.whole_programs.parts_are_one_instance.Goals as goal

pub returns : goal.returns
returns c = parts_are_one_instance
