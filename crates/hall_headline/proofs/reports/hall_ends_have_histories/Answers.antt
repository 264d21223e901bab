use Rattle.hall_headline.proofs.reports.hall_ends_have_histories.Goals as goal
use Rattle.hall_headline.proofs.EndedReports.{hall_ends_have_histories}

pub returns : goal.returns
returns c = hall_ends_have_histories
