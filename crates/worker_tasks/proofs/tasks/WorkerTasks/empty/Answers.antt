use Rattle.std.proofs.Common.{◌≡◌, ◌∙◌, ap, arith, None, Some, subst, sym}
use Rattle.pipe_frame.specs.SeatedTokens.{IsGivenToken, IsSeated, seated_replies}
use Rattle.pipe_frame.specs.TokenFields.{fields_of}
use Rattle.worker_tasks.specs.HeldTokens.{TakesTokens}
use Rattle.worker_tasks.specs.Tasks.{IsTask}
use Rattle.worker_tasks.specs.OwnedEnds.{owned_ends}
use Rattle.pipe_frame.specs.TokenCounts.{tokens_in}
use Rattle.worker_tasks.proofs.SameEnds.{then_same}
use Rattle.worker_tasks.proofs.SeenRuns.{keeps_stop}
use Rattle.worker_tasks.proofs.TokenSums.{pop_takes, take_keeps, then_keeps}
use Rattle.worker_tasks.proofs.tasks.WorkerTasks.empty.Goals as goal

pub loop-preserved : goal.loop-preserved
loop-preserved g c =
    let taken = pop_takes g.Q.WorkTest.weight g.Q.TaskTest.tag g.met.Q.WorkTest.weighs c.loop.self.ends c.pop.new.self 0
    (Some c.in-Some-Resume.field-0) c.in-Some-Resume.ensures.own c.in-Some-Resume.ensures.fronts in
    let one : tokens_in c.in-Some-Resume.field-0 ≡ 1 = ap tokens_in c.in-Some-Resume.field-0-is in
    let invariant = c.loop.invariant.tokens in
    let left = c.leave_ready.ensures.tokens in
    record {
      named = c.leave_ready.ensures.named ∙ c.loop.invariant.named;
      stopped = λ h. keeps_stop _ _ _ c.leave_ready.ensures.sees (c.loop.invariant.stopped h);
      worker = record {
        number = c.loop.invariant.worker.number;
        deques = then_same c.args.self.now.ends c.loop.self.ends c.pop.new.self c.loop.invariant.worker.deques c.pop.ensures.deques;
      };
      tokens = omega (arith, invariant, taken, left, one);
    }

pub loop-preserved-in-Some-Begin : goal.loop-preserved-in-Some-Begin
loop-preserved-in-Some-Begin g c =
    let counts = g.H.Hall.tokens in
    let taken = pop_takes g.Q.WorkTest.weight g.Q.TaskTest.tag g.met.Q.WorkTest.weighs c.loop.self.ends c.pop.new.self 0
    (Some c.in-Some-Begin.field-0) c.in-Some-Begin.ensures.own c.in-Some-Begin.ensures.fronts in
    let none : tokens_in c.in-Some-Begin.field-0 ≡ 0 = ap tokens_in c.in-Some-Begin.field-0-is in
    record {
      named = c.loop.invariant.named;
      stopped = c.loop.invariant.stopped;
      worker = record {
        number = c.loop.invariant.worker.number;
        deques = then_same c.args.self.now.ends c.loop.self.ends c.pop.new.self c.loop.invariant.worker.deques c.pop.ensures.deques;
      };
      tokens = then_keeps g.Q.WorkTest.weight 0 0 0 (counts c.args.hall.now) (counts c.loop.hall) (counts c.loop.hall)
          (owned_ends c.args.self.now) (owned_ends c.loop.self) c.pop.new.self c.loop.invariant.tokens
          (take_keeps g.Q.WorkTest.weight 0 0 (counts c.loop.hall) (owned_ends c.loop.self) c.pop.new.self
          (subst (λ n. TakesTokens g.Q.WorkTest.weight n (owned_ends c.loop.self) c.pop.new.self) none taken));
    }

pub leave_ready-requires-clause-out : goal.leave_ready-requires-clause-out
leave_ready-requires-clause-out g c =
    let t = c.in-Some-Resume.token in
    let given = subst (IsTask (IsGivenToken g.M.Stands.ready_at g.M.Stands.tie g.Q.WorkTest.named)) c.in-Some-Resume.field-0-is
    (g.met.Q.WorkTest.takes c.in-Some-Resume.field-0 c.in-Some-Resume.ensures.test) in
    subst (λ h. IsSeated h (fields_of t) (g.M.Stands.tie t.payload)) (sym c.loop.invariant.named) given.out

pub leave_ready-requires-clause-fresh : goal.leave_ready-requires-clause-fresh
leave_ready-requires-clause-fresh g c =
    let given = subst (IsTask (IsGivenToken g.M.Stands.ready_at g.M.Stands.tie g.Q.WorkTest.named)) c.in-Some-Resume.field-0-is
    (g.met.Q.WorkTest.takes c.in-Some-Resume.field-0 c.in-Some-Resume.ensures.test) in
    given.fresh

pub leave_ready-requires-clause-ready : goal.leave_ready-requires-clause-ready
leave_ready-requires-clause-ready g c =
    let t = c.in-Some-Resume.token in
    let given = subst (IsTask (IsGivenToken g.M.Stands.ready_at g.M.Stands.tie g.Q.WorkTest.named)) c.in-Some-Resume.field-0-is
    (g.met.Q.WorkTest.takes c.in-Some-Resume.field-0 c.in-Some-Resume.ensures.test) in
    subst (λ h. g.M.Stands.ready_at h.tree h.input t.payload t.iteration (seated_replies (g.M.Stands.tie t.payload)))
    (sym c.loop.invariant.named) given.ready

pub returns-in-None-pop-clause-tokens : goal.returns-in-None-pop-clause-tokens
returns-in-None-pop-clause-tokens g c =
    let counts = g.H.Hall.tokens in
    then_keeps g.Q.WorkTest.weight 0 0 0 (counts c.args.hall.now) (counts c.loop.hall) (counts c.loop.hall)
    (owned_ends c.args.self.now) (owned_ends c.loop.self) c.pop.new.self c.loop.invariant.tokens
    (take_keeps g.Q.WorkTest.weight 0 0 (counts c.loop.hall) (owned_ends c.loop.self) c.pop.new.self
    (pop_takes g.Q.WorkTest.weight g.Q.TaskTest.tag g.met.Q.WorkTest.weighs c.loop.self.ends c.pop.new.self 0 None
    c.in-None-pop.ensures.own c.in-None-pop.ensures.fronts))
