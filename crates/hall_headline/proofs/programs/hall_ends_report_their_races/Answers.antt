use Rattle.hall_headline.proofs.programs.hall_ends_report_their_races.Goals as goal
use Rattle.hall_headline.proofs.EndedPrograms.{hall_ends_report_their_races}

pub returns : goal.returns
returns c = hall_ends_report_their_races
