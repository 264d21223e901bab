use Rattle.std.proofs.Common.{◌≡◌, ℕ, length, map}
use Rattle.work_deques.specs.FrontsSoFar.{AreSoFar}
use Rattle.work_deques.specs.Tallies.{IsAdditive}
use Rattle.work_deques.specs.WorkerEnds.{deque_of, over_ends}
use Rattle.work_deques.specs.declared.tally.Tally.{Tally}
use Rattle.work_deques.proofs.settle.settle.Given as goal

abbrev pub invariant-loop-worker : goal.invariant-loop-worker
invariant-loop-worker g l = record {
  length : length l.ends.items ≡ length l.fn.ends.items;
  so_far : AreSoFar (map deque_of l.ends.items) l.worker 0 0 l.ends.items;
  totals : (f : Tally → ℕ) → IsAdditive f → over_ends f l.ends.items ≡ over_ends f l.fn.ends.items;
}
