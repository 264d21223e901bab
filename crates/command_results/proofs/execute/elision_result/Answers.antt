use Rattle.command_results.proofs.SerialDags.{printed_result}
use Rattle.command_results.proofs.execute.elision_result.Goals as goal

pub returns-clause-outcome : goal.returns-clause-outcome
returns-clause-outcome c =
    printed_result _ _ _ _ _ c.in_ok-run.ensures.output c.in_ok-run.ensures.trap c.in_ok-run.ensures.reports c.in_ok-status.ensures
