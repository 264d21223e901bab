use Rattle.hall_headline.proofs.runs.logs_of_hall_ends_can_be_merged.Goals as goal
use Rattle.hall_headline.proofs.HallEnds.{logs_of_hall_ends_can_be_merged}

pub returns : goal.returns
returns c = logs_of_hall_ends_can_be_merged
