use Rattle.hall_headline.proofs.runs.hall_ends_access_their_cells.Goals as goal
use Rattle.hall_headline.proofs.EndedLogs.{hall_ends_access_their_cells}

pub returns : goal.returns
returns c = hall_ends_access_their_cells
