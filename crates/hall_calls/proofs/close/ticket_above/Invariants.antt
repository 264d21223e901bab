use Rattle.std.proofs.Common.{◌<◌, ◌≤◌, ◌^◌, ℕ}
use Rattle.hall_calls.specs.Closing.{shard_in}
use Rattle.hall_calls.proofs.close.ticket_above.Given as goal

abbrev pub invariant-loop-shard : goal.invariant-loop-shard
invariant-loop-shard l = record {
  above : (k : ℕ) → k < l.shard-index → (shard_in l.shards k).last ≤ l.least;
  bound : l.least ≤ 2 ^ 62;
}
