use Rattle.std.proofs.Common.{◌≡◌, ◌≤◌, ◌+◌, ◌*◌, ◌^◌, ℕ, List, All, length, sum_by, vec_len}
use Rattle.work_deques.specs.FrontsSoFar.{IsWhole}
use Rattle.work_deques.specs.WorkerEnds.{weight_put, weight_taken}
use Rattle.work_deques.proofs.settle.count.Given as goal

abbrev pub decreases-loop-own : goal.decreases-loop-own
decreases-loop-own g l = vec_len l.ends

abbrev pub invariant-loop-own : goal.invariant-loop-own
invariant-loop-own g l = record {
  whole : All IsWhole l.ends.items;
  bound : l.left + 2 ^ 64 * vec_len l.ends ≤ 2 ^ 64 * vec_len l.fn.ends;
  even : (left : List ℕ) × (length left ≡ l.left) × ((h : ℕ → ℕ) → weight_put h l.fn.ends.items + weight_taken h l.ends.items
      ≡ weight_taken h l.fn.ends.items + weight_put h l.ends.items + sum_by h left);
}
