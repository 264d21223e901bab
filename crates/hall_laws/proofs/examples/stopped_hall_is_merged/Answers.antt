use Rattle.hall_laws.proofs.examples.stopped_hall_is_merged.Goals as goal
use Rattle.hall_laws.proofs.StoppedExample.{stopped_hall_is_merged}

pub returns : goal.returns
returns c = stopped_hall_is_merged
