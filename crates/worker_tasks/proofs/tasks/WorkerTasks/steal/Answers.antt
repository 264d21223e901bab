-- A theft takes what it returns, and one that finds nothing takes nothing.
use Rattle.std.proofs.Common.{rules, subst, Some}
use Rattle.pipe_frame.specs.TokenCounts.{tokens_in}
use Rattle.worker_tasks.specs.HeldTokens.{TakesTokens}
use Rattle.worker_tasks.proofs.SameEnds.{then_same}
use Rattle.worker_tasks.proofs.TokenSums.{no_theft, theft_takes, then_takes}
use Rattle.worker_tasks.proofs.tasks.WorkerTasks.steal.Goals as goal

pub returns-in-Some-clause-tokens : goal.returns-in-Some-clause-tokens
returns-in-Some-clause-tokens g c =
    let e = c.loop-step.self.ends in
    let f = c.steal.new.self in
    let s = c.in-Some.ensures in
    then_takes g.Q.WorkTest.weight c.args.self.now.ends e f (tokens_in c.in-Some.task) c.loop-step.invariant.tokens
    (theft_takes g.Q.WorkTest.weight g.Q.TaskTest.tag g.met.Q.WorkTest.weighs e f _ (Some c.in-Some.task)
    (search rules) s.own s.front s.others s.count)

pub loop-step-preserved : goal.loop-step-preserved
loop-step-preserved g c =
    let e = c.loop-step.self.ends in
    let f = c.steal.new.self in
    let s = c.steal.ensures in
    let r = c.steal.result in
    let weight = g.Q.WorkTest.weight in
    record {
      fronts = search rules;
      worker = record {
        number = c.loop-step.invariant.worker.number;
        deques = then_same c.args.self.now.ends e f
            c.loop-step.invariant.worker.deques s.deques;
      };
      tokens = then_takes weight c.args.self.now.ends e f 0 c.loop-step.invariant.tokens
          (subst (λ n. TakesTokens weight n e f) (no_theft weight g.Q.TaskTest.tag g.met.Q.WorkTest.weighs e f 0 r c.in_default.not-Some)
          (theft_takes weight g.Q.TaskTest.tag g.met.Q.WorkTest.weighs e f _ r (search rules) s.own s.front s.others s.count));
    }
