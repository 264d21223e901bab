use Rattle.command_results.proofs.SavedRuns.{judged, refused_saved, unread_saved}
use Rattle.command_results.proofs.saved_run.check_saved.Goals as goal

pub returns-in-Accepted-clause-outcome : goal.returns-in-Accepted-clause-outcome
returns-in-Accepted-clause-outcome g c =
    judged _ _ _ _ _ _ _ _ _ (rw c.in-Accepted.is at c.in_ok-events.ensures.cause) (rw c.in-Accepted.is at c.in_ok-events.ensures.outcome)
    c.result_of_events.ensures

pub returns-in-Refused-clause-outcome : goal.returns-in-Refused-clause-outcome
returns-in-Refused-clause-outcome g c =
    rw c.refused.ensures (refused_saved _ _ _ _ _ _ _ _ (rw c.in-Refused.is at c.in_ok-events.ensures.cause)
    (rw c.in-Refused.is at c.in_ok-events.ensures.outcome))

pub returns-in-Failed-clause-outcome : goal.returns-in-Failed-clause-outcome
returns-in-Failed-clause-outcome g c =
    unread_saved _ _ _ _ _ _ _ _ (rw c.in-Failed.is at c.in_ok-events.ensures.cause) c.read_fault.ensures
