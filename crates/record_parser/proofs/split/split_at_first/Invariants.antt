use Rattle.std.proofs.Common.{◌≢◌, ℕ, ◌<◌, get_or}
use Rattle.record_parser.proofs.split.split_at_first.Given as goal

abbrev pub invariant-loop-k : goal.invariant-loop-k
invariant-loop-k l = (n : ℕ) (d : ℕ) → n < l.k → get_or l.bytes n d ≢ l.byte
