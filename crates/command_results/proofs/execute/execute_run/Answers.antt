use Rattle.command_results.proofs.RowOfCall.{result_of_run}
use Rattle.command_results.proofs.execute.execute_run.Goals as goal

pub returns-in-Ready-clause-outcome : goal.returns-in-Ready-clause-outcome
returns-in-Ready-clause-outcome g c =
    result_of_run _ _ _ _ _ c.args.workers c.args.throttle c.args.with_log _ _ _ (rw c.in-Ready.is at c.in_ok-program.ensures.prepared)
    c.run_result.ensures
