use Rattle.hall_laws.proofs.examples.example_hall_is_merged.Goals as goal
use Rattle.hall_laws.proofs.FinishedExample.{example_hall_is_merged}

pub returns : goal.returns
returns c = example_hall_is_merged
