use Rattle.std.proofs.Common.{◌≡◌}
use Rattle.worker_tasks.specs.HeldTokens.{KeepsTokens}
use Rattle.pipe_worker.specs.Workers.{IsSameWorker, ends_of}
use Rattle.pipe_worker.proofs.worker.Worker.work.Given as goal

abbrev pub invariant-loop : goal.invariant-loop
invariant-loop g l = record {
  named : g.H.Hall.named l.hall ≡ g.Q.WorkTest.named;
  worker : IsSameWorker l.fn.self l.self;
  tokens : KeepsTokens g.Q.WorkTest.weight 0 0 (g.H.Hall.tokens l.fn.hall) (ends_of l.fn.self) (g.H.Hall.tokens l.hall) (ends_of l.self);
}
