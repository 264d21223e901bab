use Rattle.command_results.proofs.RowOfCall.{result_of_weighed}
use Rattle.command_results.proofs.execute.execute_span.Goals as goal

pub returns-in-Ready-clause-outcome : goal.returns-in-Ready-clause-outcome
returns-in-Ready-clause-outcome g c =
    result_of_weighed _ _ _ _ _ _ _ _ (rw c.in-Ready.is at c.in_ok-program.ensures.prepared) c.weighed_result.ensures.text
    c.weighed_result.ensures.others
