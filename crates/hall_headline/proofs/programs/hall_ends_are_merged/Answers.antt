use Rattle.hall_headline.proofs.programs.hall_ends_are_merged.Goals as goal
use Rattle.hall_headline.proofs.EndedPrograms.{hall_ends_are_merged}

pub returns : goal.returns
returns c = hall_ends_are_merged
