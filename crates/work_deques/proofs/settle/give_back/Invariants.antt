use Rattle.std.proofs.Common.{◌≡◌, ℕ, length, map}
use Rattle.work_deques.specs.FrontsSoFar.{AreSoFar}
use Rattle.work_deques.specs.Tallies.{IsAdditive}
use Rattle.work_deques.specs.WorkerEnds.{deque_of, over_ends}
use Rattle.work_deques.specs.declared.tally.Tally.{Tally}
use Rattle.work_deques.proofs.settle.give_back.Given as goal

abbrev pub invariant-loop-k : goal.invariant-loop-k
invariant-loop-k g l = record {
  length : length l.ends.items ≡ length l.fn.ends.items;
  so_far : AreSoFar (map deque_of l.fn.ends.items) l.worker l.k l.k l.ends.items;
  totals : (f : Tally → ℕ) → IsAdditive f → over_ends f l.ends.items ≡ over_ends f l.fn.ends.items;
}
