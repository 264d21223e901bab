-- A turn keeps what the worker holds.
use Rattle.std.proofs.Common.{subst}
use Rattle.pipe_frame.specs.TokenCounts.{tokens_in}
use Rattle.worker_tasks.specs.HeldTokens.{TakesTokens, tokens_taken}
use Rattle.worker_tasks.specs.OwnedEnds.{owned_ends}
use Rattle.pipe_worker.specs.Workers.{ends_of}
use Rattle.worker_tasks.proofs.SameEnds.{same_then}
use Rattle.worker_tasks.proofs.TokenSums.{take_keeps, task_keeps, then_keeps}
use Rattle.pipe_worker.proofs.worker.Worker.work.Goals as goal

pub loop-preserved-in-Some-take : goal.loop-preserved-in-Some-take
loop-preserved-in-Some-take g c =
    let counts = g.H.Hall.tokens in
    let held = tokens_in c.in-Some-take.task in
    record {
      named = c.perform.ensures.named;
      worker = same_then c.args.self.now.tasks c.take.new.self c.perform.new.self.tasks
          (same_then c.args.self.now.tasks c.loop.self.tasks c.take.new.self c.loop.invariant.worker c.take.ensures.worker)
          c.perform.ensures.worker;
      tokens = then_keeps g.Q.WorkTest.weight 0 held 0 (counts c.args.hall.now) (counts c.loop.hall) (counts c.perform.new.hall)
          (ends_of c.args.self.now) (owned_ends c.take.new.self) (ends_of c.perform.new.self)
          (then_keeps g.Q.WorkTest.weight 0 0 held (counts c.args.hall.now) (counts c.loop.hall) (counts c.loop.hall)
          (ends_of c.args.self.now) (ends_of c.loop.self) (owned_ends c.take.new.self) c.loop.invariant.tokens
          (task_keeps g.Q.WorkTest.weight held (counts c.loop.hall) (ends_of c.loop.self) (owned_ends c.take.new.self)
          (subst (λ r. TakesTokens g.Q.WorkTest.weight (tokens_taken r) (ends_of c.loop.self) (owned_ends c.take.new.self))
          c.in-Some-take.is c.take.ensures.tokens)))
          c.perform.ensures.tokens;
    }

pub loop-preserved-then-looks-gt0 : goal.loop-preserved-then-looks-gt0
loop-preserved-then-looks-gt0 g c =
    let counts = g.H.Hall.tokens in
    record {
      named = c.loop.invariant.named;
      worker = same_then c.args.self.now.tasks c.loop.self.tasks c.take.new.self c.loop.invariant.worker c.take.ensures.worker;
      tokens = then_keeps g.Q.WorkTest.weight 0 0 0 (counts c.args.hall.now) (counts c.loop.hall) (counts c.loop.hall)
          (ends_of c.args.self.now) (ends_of c.loop.self) (owned_ends c.take.new.self) c.loop.invariant.tokens
          (take_keeps g.Q.WorkTest.weight 0 0 (counts c.loop.hall) (ends_of c.loop.self) (owned_ends c.take.new.self)
          (subst (λ r. TakesTokens g.Q.WorkTest.weight (tokens_taken r) (ends_of c.loop.self) (owned_ends c.take.new.self))
          c.in_default.is c.take.ensures.tokens));
    }

pub loop-preserved : goal.loop-preserved
loop-preserved g c =
    let counts = g.H.Hall.tokens in
    record {
      named = c.rescue.ensures.named;
      worker = same_then c.args.self.now.tasks c.take.new.self c.rescue.new.self.tasks
          (same_then c.args.self.now.tasks c.loop.self.tasks c.take.new.self c.loop.invariant.worker c.take.ensures.worker)
          c.rescue.ensures.worker;
      tokens = then_keeps g.Q.WorkTest.weight 0 0 0 (counts c.args.hall.now) (counts c.loop.hall) (counts c.rescue.new.hall)
          (ends_of c.args.self.now) (owned_ends c.take.new.self) (ends_of c.rescue.new.self)
          (then_keeps g.Q.WorkTest.weight 0 0 0 (counts c.args.hall.now) (counts c.loop.hall) (counts c.loop.hall)
          (ends_of c.args.self.now) (ends_of c.loop.self) (owned_ends c.take.new.self) c.loop.invariant.tokens
          (take_keeps g.Q.WorkTest.weight 0 0 (counts c.loop.hall) (ends_of c.loop.self) (owned_ends c.take.new.self)
          (subst (λ r. TakesTokens g.Q.WorkTest.weight (tokens_taken r) (ends_of c.loop.self) (owned_ends c.take.new.self))
          c.in_default.is c.take.ensures.tokens)))
          c.rescue.ensures.tokens;
    }

pub loop-preserved-in-Worked : goal.loop-preserved-in-Worked
loop-preserved-in-Worked g c =
    let counts = g.H.Hall.tokens in
    record {
      named = c.rescue.ensures.named;
      worker = same_then c.args.self.now.tasks c.take.new.self c.rescue.new.self.tasks
          (same_then c.args.self.now.tasks c.loop.self.tasks c.take.new.self c.loop.invariant.worker c.take.ensures.worker)
          c.rescue.ensures.worker;
      tokens = then_keeps g.Q.WorkTest.weight 0 0 0 (counts c.args.hall.now) (counts c.loop.hall) (counts c.rescue.new.hall)
          (ends_of c.args.self.now) (owned_ends c.take.new.self) (ends_of c.rescue.new.self)
          (then_keeps g.Q.WorkTest.weight 0 0 0 (counts c.args.hall.now) (counts c.loop.hall) (counts c.loop.hall)
          (ends_of c.args.self.now) (ends_of c.loop.self) (owned_ends c.take.new.self) c.loop.invariant.tokens
          (take_keeps g.Q.WorkTest.weight 0 0 (counts c.loop.hall) (ends_of c.loop.self) (owned_ends c.take.new.self)
          (subst (λ r. TakesTokens g.Q.WorkTest.weight (tokens_taken r) (ends_of c.loop.self) (owned_ends c.take.new.self))
          c.in_default.is c.take.ensures.tokens)))
          c.rescue.ensures.tokens;
    }

pub returns-in-Over-clause-named : goal.returns-in-Over-clause-named
returns-in-Over-clause-named g c = c.rescue.ensures.named

pub returns-in-Over-clause-over : goal.returns-in-Over-clause-over
returns-in-Over-clause-over g c = c.rescue.ensures.over c.in-Over.is

pub returns-in-Over-clause-tokens : goal.returns-in-Over-clause-tokens
returns-in-Over-clause-tokens g c =
    let counts = g.H.Hall.tokens in
    then_keeps g.Q.WorkTest.weight 0 0 0 (counts c.args.hall.now) (counts c.loop.hall) (counts c.rescue.new.hall)
    (ends_of c.args.self.now) (owned_ends c.take.new.self) (ends_of c.rescue.new.self)
    (then_keeps g.Q.WorkTest.weight 0 0 0 (counts c.args.hall.now) (counts c.loop.hall) (counts c.loop.hall)
    (ends_of c.args.self.now) (ends_of c.loop.self) (owned_ends c.take.new.self) c.loop.invariant.tokens
    (take_keeps g.Q.WorkTest.weight 0 0 (counts c.loop.hall) (ends_of c.loop.self) (owned_ends c.take.new.self)
    (subst (λ r. TakesTokens g.Q.WorkTest.weight (tokens_taken r) (ends_of c.loop.self) (owned_ends c.take.new.self))
    c.in_default.is c.take.ensures.tokens)))
    c.rescue.ensures.tokens

pub returns-in-Over-clause-worker : goal.returns-in-Over-clause-worker
returns-in-Over-clause-worker g c =
    same_then c.args.self.now.tasks c.take.new.self c.rescue.new.self.tasks
    (same_then c.args.self.now.tasks c.loop.self.tasks c.take.new.self c.loop.invariant.worker c.take.ensures.worker)
    c.rescue.ensures.worker
