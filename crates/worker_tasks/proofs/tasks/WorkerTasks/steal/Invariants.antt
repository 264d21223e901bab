use Rattle.std.proofs.Common.{◌≤◌}
use Rattle.worker_tasks.specs.HeldTokens.{TakesTokens}
use Rattle.worker_tasks.specs.OwnedEnds.{OfSameWorker, owned_ends}
use Rattle.work_deques.specs.WorkerEnds.{front_count}
use Rattle.worker_tasks.proofs.tasks.WorkerTasks.steal.Given as goal

abbrev pub invariant-loop-step : goal.invariant-loop-step
invariant-loop-step g l = record {
  fronts : l.workers ≤ front_count l.self.ends;
  worker : OfSameWorker l.fn.self l.self;
  tokens : TakesTokens g.Q.WorkTest.weight 0 (owned_ends l.fn.self) (owned_ends l.self);
}
