use Rattle.command_results.proofs.RowOfCall.{result_of_play}
use Rattle.command_results.proofs.execute.execute_play.Goals as goal

pub returns-in-Ready-clause-outcome : goal.returns-in-Ready-clause-outcome
returns-in-Ready-clause-outcome g c =
    result_of_play _ _ _ _ _ c.args.workers c.args.throttle c.args.seed c.args.with_log _ _ _
    (rw c.in-Ready.is at c.in_ok-program.ensures.prepared)
    c.play_result.ensures
