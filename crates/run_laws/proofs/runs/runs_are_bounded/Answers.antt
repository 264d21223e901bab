use Rattle.run_laws.proofs.RunStates.EventBounds.{runs_are_bounded}
use Rattle.run_laws.proofs.runs.runs_are_bounded.Goals as goal

pub returns : goal.returns
returns c = runs_are_bounded
