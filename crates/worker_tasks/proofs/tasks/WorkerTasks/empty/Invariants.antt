use Rattle.std.proofs.Common.{◌≡◌}
use Rattle.worker_tasks.specs.Tasks.{IsStopSeen}
use Rattle.worker_tasks.specs.HeldTokens.{KeepsTokens}
use Rattle.worker_tasks.specs.OwnedEnds.{OfSameWorker, owned_ends}
use Rattle.worker_tasks.proofs.tasks.WorkerTasks.empty.Given as goal

abbrev pub invariant-loop : goal.invariant-loop
invariant-loop g l = record {
  named : g.H.Hall.named l.hall ≡ g.Q.WorkTest.named;
  stopped : IsStopSeen (g.H.Hall.seen l.fn.hall) → IsStopSeen (g.H.Hall.seen l.hall);
  worker : OfSameWorker l.fn.self l.self;
  tokens : KeepsTokens g.Q.WorkTest.weight 0 0 (g.H.Hall.tokens l.fn.hall) (owned_ends l.fn.self) (g.H.Hall.tokens l.hall)
      (owned_ends l.self);
}
