use Rattle.command_results.proofs.RowOfCall.{result_of_check}
use Rattle.command_results.proofs.execute.execute_check.Goals as goal

pub returns-in-Ready-clause-outcome : goal.returns-in-Ready-clause-outcome
returns-in-Ready-clause-outcome g c =
    result_of_check _ _ _ _ _ _ _ _ c.args.throttle _ _ _ c.in_ok-program.ensures.keeps
    (rw c.in-Ready.is at c.in_ok-program.ensures.prepared)
    c.check_saved.ensures.outcome
