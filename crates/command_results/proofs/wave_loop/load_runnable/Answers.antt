use Rattle.command_results.proofs.RunnableLaws.{failed_runnable, refused_runnable, runnable_cause, runnable_outcome}
use Rattle.command_results.proofs.wave_loop.load_runnable.Goals as goal

pub program_to_run-requires : goal.program_to_run-requires
program_to_run-requires g c = let s = rw c.in-Accepted.is at c.in_ok-program.ensures.outcome in (s.result_is.bytes, s.result_is.marked)

pub returns-in-Accepted-clause-cause : goal.returns-in-Accepted-clause-cause
returns-in-Accepted-clause-cause g c =
    runnable_cause _ _ c.args.wave _ _ _ _ _ (rw c.in-Accepted.is at c.in_ok-program.ensures.outcome)
    (rw c.in-Accepted.is at c.in_ok-program.ensures.cause) c.program_to_run.ensures

pub returns-in-Accepted-clause-outcome : goal.returns-in-Accepted-clause-outcome
returns-in-Accepted-clause-outcome g c =
    runnable_outcome _ _ _ _ _ _ (rw c.in-Accepted.is at c.in_ok-program.ensures.outcome) c.program_to_run.ensures

pub returns-in-Refused-clause-outcome : goal.returns-in-Refused-clause-outcome
returns-in-Refused-clause-outcome g c = refused_runnable _ _ _ _ (rw c.in-Refused.is at c.in_ok-program.ensures.outcome)

pub returns-in-Failed-clause-outcome : goal.returns-in-Failed-clause-outcome
returns-in-Failed-clause-outcome g c = failed_runnable _ _ _ (rw c.in-Failed.is at c.in_ok-program.ensures.outcome)
