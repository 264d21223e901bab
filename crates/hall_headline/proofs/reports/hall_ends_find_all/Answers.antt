use Rattle.hall_headline.proofs.reports.hall_ends_find_all.Goals as goal
use Rattle.hall_headline.proofs.EndedReports.{hall_ends_find_all}

pub returns : goal.returns
returns c = hall_ends_find_all
