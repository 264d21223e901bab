use Rattle.std.proofs.Common.{◌≡◌, All, length, map}
use Rattle.work_deques.specs.FrontsSoFar.{AreSoFar, AreUnused}
use Rattle.work_deques.specs.WorkerEnds.{deque_of}
use Rattle.work_deques.proofs.deques.deques.Given as goal

abbrev pub invariant-loop-worker : goal.invariant-loop-worker
invariant-loop-worker g l = record {
  length : length l.ends.items ≡ l.workers;
  unused : All (AreUnused l.capacity) l.ends.items;
  so_far : AreSoFar (map deque_of l.ends.items) l.worker 0 0 l.ends.items;
}
