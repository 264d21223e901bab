use Rattle.hall_headline.proofs.runs.hall_ends_are_closed.Goals as goal
use Rattle.hall_headline.proofs.HallEnds.{hall_ends_are_closed}

pub returns : goal.returns
returns c = hall_ends_are_closed
