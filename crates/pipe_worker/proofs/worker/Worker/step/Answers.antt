-- An instance ends, and the worker goes on.
use Rattle.std.proofs.Common.{◌∙◌, sym, subst}
use Rattle.pipe_frame.specs.ResultTokens.{IfGo}
use Rattle.pipe_frame.specs.SeatedTokens.{IsGivenToken}
use Rattle.pipe_frame.specs.TokenCounts.{tokens_entered, tokens_next}
use Rattle.pipe_worker.specs.Machines.{CanDrive}
use Rattle.pipe_worker.specs.Workers.{ends_of}
use Rattle.worker_tasks.proofs.TokenSums.{call_keeps, then_keeps}
use Rattle.pipe_worker.proofs.worker.Worker.step.Goals as goal

pub run_and_advance-next-requires-clause-drives : goal.run_and_advance-next-requires-clause-drives
run_and_advance-next-requires-clause-drives g c =
    subst (λ h. CanDrive g.M.Runs.code h c.args.code.now c.args.input.now) (sym c.requires.named) c.requires.drives

pub run_and_advance-next-requires-clause-given : goal.run_and_advance-next-requires-clause-given
run_and_advance-next-requires-clause-given g c =
    subst (λ h. IsGivenToken g.M.Stands.ready_at g.M.Stands.tie h c.args.token) (sym c.requires.named) c.requires.given

pub go_on-requires-clause-named : goal.go_on-requires-clause-named
go_on-requires-clause-named g c = c.run_and_advance-next.ensures.named ∙ c.requires.named

pub go_on-requires-clause-given : goal.go_on-requires-clause-given
go_on-requires-clause-given g c =
    subst (λ h. IfGo c.run_and_advance-next.result.0 (IsGivenToken g.M.Stands.ready_at g.M.Stands.tie h)) c.requires.named
    c.run_and_advance-next.ensures.token

pub returns-clause-tokens : goal.returns-clause-tokens
returns-clause-tokens g c =
    let counts = g.H.Hall.tokens in
    let next = c.run_and_advance-next in
    then_keeps g.Q.WorkTest.weight 1 (tokens_next next.result.0) (tokens_entered c.go_on.result) (counts c.args.hall.now)
    (counts next.new.hall) (counts c.go_on.new.hall) (ends_of c.args.self.now) (ends_of c.args.self.now) (ends_of c.go_on.new.self)
    (call_keeps g.Q.WorkTest.weight (tokens_next next.result.0) 1 (counts c.args.hall.now) (counts next.new.hall)
    (ends_of c.args.self.now) next.ensures.tokens)
    c.go_on.ensures.tokens
