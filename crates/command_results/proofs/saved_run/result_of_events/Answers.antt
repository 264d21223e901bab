use Rattle.pipe_model.specs.Language.SyntaxTree.{tree_of}
use Rattle.command_results.proofs.SavedRuns.{checked_run, no_run}
use Rattle.command_results.proofs.saved_run.result_of_events.Goals as goal

pub check_record-requires-clause-code : goal.check_record-requires-clause-code
check_record-requires-clause-code c =
    record { accepted = c.requires.accepted.obeys; limits = c.in_ok-code.ensures.limits; runs = c.in_ok-code.ensures.runs }

pub returns-in-Run : goal.returns-in-Run
returns-in-Run c = checked_run (tree_of c.args.checked.now) _ _ _ _ (rw c.in-Run.is at c.in_ok-kind.ensures) c.result_of_run.ensures

pub returns : goal.returns
returns c =
    rw c.refused.ensures (no_run (tree_of c.args.checked.now) _ _ _ _ (rw c.in-NotAllowed.is at c.in_ok-kind.ensures)
    c.in_ok-numbered_line-in-NotAllowed.ensures)
