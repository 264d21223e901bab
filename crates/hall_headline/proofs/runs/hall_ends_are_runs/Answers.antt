use Rattle.hall_headline.proofs.runs.hall_ends_are_runs.Goals as goal
use Rattle.hall_headline.proofs.EndedLogs.{hall_ends_are_runs}

pub returns : goal.returns
returns c = hall_ends_are_runs
