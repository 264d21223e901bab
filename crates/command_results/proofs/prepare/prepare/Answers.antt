use Rattle.command_results.proofs.RowOfCall.{files_ready, input_failed, input_refused, runnable_refused, source_failed}
use Rattle.command_results.proofs.prepare.prepare.Goals as goal

pub returns-in-Refused-clause-prepared : goal.returns-in-Refused-clause-prepared
returns-in-Refused-clause-prepared g c =
    rw c.refused.ensures (λ asked n m is. runnable_refused _ _ _ _ _ _ (rw c.in-Refused.is at c.in_ok-program.ensures.cause)
    (rw c.in-Refused.is at c.in_ok-program.ensures.outcome) asked n is)

pub returns-in-Failed-clause-prepared : goal.returns-in-Failed-clause-prepared
returns-in-Failed-clause-prepared g c =
    rw c.in_ok-read_fault-in-Failed.ensures (λ asked n m is. source_failed asked _ _ _ _ n
    (rw c.in-Failed.is at c.in_ok-program.ensures.cause))

pub returns-in-Ok-Accepted-clause-prepared : goal.returns-in-Ok-Accepted-clause-prepared
returns-in-Ok-Accepted-clause-prepared g c =
    files_ready _ _ _ _ _ _ _ _ _ _ c.in_ok-program.ensures.keeps (rw c.in-Program.is at c.in_ok-program.ensures.cause)
    (rw c.in-Ok-Accepted.field-0-is at c.in-Ok-Accepted.ensures.cause)
    (rw c.in-Program.is at c.in_ok-program.ensures.outcome) (rw c.in-Ok-Accepted.field-0-is at c.in-Ok-Accepted.ensures.outcome)

pub returns-in-Ok-Refused-clause-prepared : goal.returns-in-Ok-Refused-clause-prepared
returns-in-Ok-Refused-clause-prepared g c =
    rw c.refused-in-Ok-Refused.ensures (input_refused _ _ _ _ _ _ _ _ _ _ c.in_ok-program.ensures.keeps
    (rw c.in-Program.is at c.in_ok-program.ensures.cause)
    (rw c.in-Ok-Refused.field-0-is at c.in-Ok-Refused.ensures.cause) (rw c.in-Program.is at c.in_ok-program.ensures.outcome)
    (rw c.in-Ok-Refused.field-0-is at c.in-Ok-Refused.ensures.outcome))

pub returns-in_ok-read_fault-in-Ok-Failed-clause-prepared : goal.returns-in_ok-read_fault-in-Ok-Failed-clause-prepared
returns-in_ok-read_fault-in-Ok-Failed-clause-prepared g c =
    rw c.in_ok-read_fault-in-Ok-Failed.ensures (input_failed _ _ _ _ _ _ _ _ (rw c.in-Program.is at c.in_ok-program.ensures.cause)
    (rw c.in-Ok-Failed.field-0-is at c.in-Ok-Failed.ensures.cause) (rw c.in-Program.is at c.in_ok-program.ensures.outcome))
