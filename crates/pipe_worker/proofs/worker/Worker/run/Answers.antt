-- Each turn ends the instance of the token that the worker holds, and the worker holds that of the next instance, or none.
use Rattle.std.proofs.Common.{subst}
use Rattle.pipe_frame.specs.TokenCounts.{tokens_entered}
use Rattle.pipe_worker.specs.Workers.{ends_of}
use Rattle.worker_tasks.proofs.SameEnds.{same_then}
use Rattle.worker_tasks.proofs.TokenSums.{then_keeps}
use Rattle.worker_tasks.specs.HeldTokens.{KeepsTokens}
use Rattle.pipe_worker.proofs.worker.Worker.run.Goals as goal

pub loop-preserved : goal.loop-preserved
loop-preserved g c =
    let counts = g.H.Hall.tokens in
    record {
      named = c.step.ensures.named;
      given = c.in-Some-step.ensures.given;
      worker = same_then c.args.self.now.tasks c.loop.self.tasks c.step.new.self.tasks c.loop.invariant.worker c.step.ensures.worker;
      tokens = then_keeps g.Q.WorkTest.weight 1 1 1 (counts c.args.hall.now) (counts c.loop.hall) (counts c.step.new.hall)
          (ends_of c.args.self.now) (ends_of c.loop.self) (ends_of c.step.new.self) c.loop.invariant.tokens
          (subst (λ r. KeepsTokens g.Q.WorkTest.weight 1 (tokens_entered r) (counts c.loop.hall) (ends_of c.loop.self)
          (counts c.step.new.hall) (ends_of c.step.new.self)) c.in-Some-step.is c.step.ensures.tokens);
    }

pub returns-in-None-step-clause-named : goal.returns-in-None-step-clause-named
returns-in-None-step-clause-named g c = c.step.ensures.named

pub returns-in-None-step-clause-tokens : goal.returns-in-None-step-clause-tokens
returns-in-None-step-clause-tokens g c =
    let counts = g.H.Hall.tokens in
    then_keeps g.Q.WorkTest.weight 1 1 0 (counts c.args.hall.now) (counts c.loop.hall) (counts c.step.new.hall)
    (ends_of c.args.self.now) (ends_of c.loop.self) (ends_of c.step.new.self) c.loop.invariant.tokens
    (subst (λ r. KeepsTokens g.Q.WorkTest.weight 1 (tokens_entered r) (counts c.loop.hall) (ends_of c.loop.self)
    (counts c.step.new.hall) (ends_of c.step.new.self)) c.in-None-step.is c.step.ensures.tokens)

pub returns-in-None-step-clause-worker : goal.returns-in-None-step-clause-worker
returns-in-None-step-clause-worker g c =
    same_then c.args.self.now.tasks c.loop.self.tasks c.step.new.self.tasks c.loop.invariant.worker c.step.ensures.worker
