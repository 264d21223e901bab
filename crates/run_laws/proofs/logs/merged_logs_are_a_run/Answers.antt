use Rattle.run_laws.proofs.LogMerge.ClosedLogs.{merged_logs_are_a_run}
use Rattle.run_laws.proofs.logs.merged_logs_are_a_run.Goals as goal

pub returns : goal.returns
returns c = merged_logs_are_a_run
