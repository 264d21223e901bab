use Rattle.hall_headline.proofs.programs.finished_hall_ends_meet_the_headline.Goals as goal
use Rattle.hall_headline.proofs.EndedPrograms.{finished_hall_ends_meet_the_headline}

pub returns : goal.returns
returns c = finished_hall_ends_meet_the_headline
