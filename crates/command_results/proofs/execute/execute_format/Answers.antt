use Rattle.std.proofs.Common.{refl}
use Rattle.command_results.proofs.RowOfCall.{result_given, source_refused, program_printed, source_failed}
use Rattle.command_results.proofs.execute.execute_format.Goals as goal

pub returns-in-Accepted-clause-outcome : goal.returns-in-Accepted-clause-outcome
returns-in-Accepted-clause-outcome g c =
    result_given _ _ _ _ _ _ (rw c.program-in-Accepted.ensures.program at c.text_of.ensures)
    (program_printed _ _ _ _ _ _ (rw c.in-Accepted.is at c.in_ok-program.ensures.cause)
    (rw c.in-Accepted.is at c.in_ok-program.ensures.outcome))

pub returns-in-Refused-clause-outcome : goal.returns-in-Refused-clause-outcome
returns-in-Refused-clause-outcome g c =
    rw c.refused.ensures (source_refused _ _ _ _ _ (rw c.in-Refused.is at c.in_ok-program.ensures.cause)
    (rw c.in-Refused.is at c.in_ok-program.ensures.outcome) _ refl)

pub returns-clause-outcome : goal.returns-clause-outcome
returns-clause-outcome g c =
    result_given _ _ _ _ _ _ c.read_fault.ensures (source_failed _ _ _ _ _ refl (rw c.in-Failed.is at c.in_ok-program.ensures.cause))
