use Rattle.std.proofs.Common.{◌≢◌, ℕ, ◌<◌, ◌≤◌, get_or, length}
use Rattle.record_parser.proofs.split.split_at_last.Given as goal

abbrev pub invariant-loop-end : goal.invariant-loop-end
invariant-loop-end l = (l.end ≤ length l.bytes) × ((n : ℕ) (d : ℕ) → l.end ≤ n → n < length l.bytes → get_or l.bytes n d ≢ l.byte)

abbrev pub decreases-loop-end : goal.decreases-loop-end
decreases-loop-end l = l.end
