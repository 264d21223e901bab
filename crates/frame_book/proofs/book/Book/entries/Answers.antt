use Rattle.std.proofs.Common.{◌≡◌, ℕ, false, sym, subst}
use Rattle.pipe_model.specs.Pipelines.Behaviour.{Performs}
use Rattle.pipe_model.specs.Runs.Allowed.{IsRunning}
use Rattle.pipe_model.specs.Runs.ControlRun.{ControlRun}
use Rattle.frame_book.specs.BookStates.{BookState, HasRisingTickets, IsOut, actions_at, events_of, pipeline_in, state_of}
use Rattle.frame_book.proofs.Conditions.OutTokens.{out_tokens_run}
use Rattle.frame_book.proofs.book.Book.entries.Goals as goal

pub returns-clause-rise : goal.returns-clause-rise
returns-clause-rise g c = subst HasRisingTickets (sym c.entries.ensures) c.self.invariant.0.rise

pub returns-clause-control : goal.returns-clause-control
returns-clause-control g c = subst (λ (v : BookState). ControlRun v.limit (events_of v.log) (state_of v)) c.self.view_is
    c.self.invariant.0.logged.run

pub returns-clause-performs : goal.returns-clause-performs
returns-clause-performs g c = subst (λ (v : BookState). (i : ℕ) → Performs ((pipeline_in v).behaviour i) (actions_at v i)) c.self.view_is
    c.self.invariant.0.actions.performs

pub returns-clause-out : goal.returns-clause-out
returns-clause-out g c = subst (λ (v : BookState). (state_of v).stopped ≡ false → (i : ℕ) → IsOut v i → IsRunning (state_of v) i)
    c.self.view_is (out_tokens_run _ _ _ _ c.self.invariant.0)
