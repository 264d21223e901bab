use Rattle.std.proofs.Common.{Some}
use Rattle.worker_tasks.proofs.TokenSums.{pop_takes}
use Rattle.worker_tasks.proofs.tasks.WorkerTasks.take.Goals as goal

pub returns-in-Some-clause-tokens : goal.returns-in-Some-clause-tokens
returns-in-Some-clause-tokens g c =
    pop_takes g.Q.WorkTest.weight g.Q.TaskTest.tag g.met.Q.WorkTest.weighs c.args.self.now.ends c.pop.new.self 0
    (Some c.in-Some.task) c.in-Some.ensures.own c.in-Some.ensures.fronts
