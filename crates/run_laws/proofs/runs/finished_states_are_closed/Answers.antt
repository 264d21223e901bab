use Rattle.run_laws.proofs.RunStates.LoopEnds.{finished_states_are_closed}
use Rattle.run_laws.proofs.runs.finished_states_are_closed.Goals as goal

pub returns : goal.returns
returns c = finished_states_are_closed
