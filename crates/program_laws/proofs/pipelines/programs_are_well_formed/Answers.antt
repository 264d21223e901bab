use Rattle.program_laws.proofs.WellFormed.{accepted_is_well_formed}
use Rattle.program_laws.proofs.pipelines.programs_are_well_formed.Goals as goal

pub returns : goal.returns
returns c = accepted_is_well_formed
