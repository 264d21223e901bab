use Rattle.std.proofs.Common.{◌≡◌, All, length, map}
use Rattle.work_deques.specs.FrontsSoFar.{AreSoFar, AreUnused}
use Rattle.work_deques.specs.WorkerEnds.{deque_of}
use Rattle.work_deques.proofs.deques.add_fronts.Given as goal

abbrev pub invariant-loop-k : goal.invariant-loop-k
invariant-loop-k g l = record {
  length : length l.ends.items ≡ l.workers;
  unused : All (AreUnused l.capacity) l.ends.items;
  so_far : AreSoFar (map deque_of l.fn.ends.items) l.worker l.k l.k l.ends.items;
}
