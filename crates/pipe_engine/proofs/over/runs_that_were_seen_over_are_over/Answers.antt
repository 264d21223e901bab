use Rattle.pipe_engine.proofs.OverRuns.{seen_runs}
use Rattle.pipe_engine.proofs.over.runs_that_were_seen_over_are_over.Goals as goal

pub returns : goal.returns
returns c = seen_runs
