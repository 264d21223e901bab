use Rattle.std.proofs.Common.{ℕ, ◌<◌, ◌≤◌, length}
use Rattle.pipe_span.specs.Entries.{weight_in}
use Rattle.pipe_span.proofs.last.first_heaviest.Given as goal

abbrev pub invariant-loop-k : goal.invariant-loop-k
invariant-loop-k l = (l.most < length l.row)
    × ((m : ℕ) → m < l.k → weight_in l.row m ≤ weight_in l.row l.most)
    × ((m : ℕ) → m < l.most → weight_in l.row m < weight_in l.row l.most)
