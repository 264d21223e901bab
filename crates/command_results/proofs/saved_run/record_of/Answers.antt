use Rattle.command_results.proofs.SavedRuns.{bad_line}
use Rattle.command_results.proofs.saved_run.record_of.Goals as goal

pub returns-in_ok-numbered_line-in-Err-BadLine : goal.returns-in_ok-numbered_line-in-Err-BadLine
returns-in_ok-numbered_line-in-Err-BadLine c =
    bad_line _ _ _ (rw c.in-Err-BadLine.field-0-is at c.in-Err-BadLine.ensures.fault) c.in_ok-numbered_line-in-Err-BadLine.ensures
