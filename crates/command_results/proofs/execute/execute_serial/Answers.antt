use Rattle.command_results.proofs.RowOfCall.{result_of_serial}
use Rattle.command_results.proofs.execute.execute_serial.Goals as goal

pub returns-in-Ready-clause-outcome : goal.returns-in-Ready-clause-outcome
returns-in-Ready-clause-outcome g c =
    result_of_serial _ _ _ _ _ _ _ _ (rw c.in-Ready.is at c.in_ok-program.ensures.prepared) c.elision_result.ensures.outcome
    c.elision_result.ensures.log
