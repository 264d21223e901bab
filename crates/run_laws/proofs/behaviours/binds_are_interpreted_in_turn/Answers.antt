use Rattle.run_laws.proofs.Iterations.Interpreters.{binds_are_interpreted_in_turn}
use Rattle.run_laws.proofs.behaviours.binds_are_interpreted_in_turn.Goals as goal

pub returns : goal.returns
returns g c = binds_are_interpreted_in_turn
