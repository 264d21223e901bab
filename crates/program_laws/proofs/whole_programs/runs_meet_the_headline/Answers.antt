use Rattle.program_laws.proofs.Headlines.{runs_meet_the_headline}
use Rattle.program_laws.proofs.whole_programs.runs_meet_the_headline.Goals as goal

pub returns : goal.returns
returns c = runs_meet_the_headline
