use Rattle.hall_laws.proofs.programs.merged_halls_report_their_races.Goals as goal
use Rattle.hall_laws.proofs.HallPrograms.{merged_halls_report_their_races}

pub returns : goal.returns
returns c = merged_halls_report_their_races
