use Rattle.hall_headline.proofs.runs.hall_ends_have_cells_of_runs.Goals as goal
use Rattle.hall_headline.proofs.EndedLogs.{hall_ends_have_cells_of_runs}

pub returns : goal.returns
returns c = hall_ends_have_cells_of_runs
