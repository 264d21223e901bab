use Rattle.std.proofs.Common.{sym}
use Rattle.command_results.proofs.RowOfCall.{result_no_command}
use Rattle.command_results.proofs.execute.execute.Goals as goal

pub returns-in_ok-line-in-None-clause-outcome : goal.returns-in_ok-line-in-None-clause-outcome
returns-in_ok-line-in-None-clause-outcome g c =
    rw c.refused.ensures (result_no_command _ _ _ _ (sym (rw c.in-None.is at c.in_ok-command.ensures.command)) c.in_ok-line-in-None.ensures)
