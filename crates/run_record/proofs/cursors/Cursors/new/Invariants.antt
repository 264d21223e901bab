use Rattle.std.proofs.Common.{◌≡◌, map, take}
use Rattle.run_record.specs.LogCursors.{shard_ticket}
use Rattle.run_record.proofs.cursors.Cursors.new.Given as goal

abbrev pub invariant-loop-shard : goal.invariant-loop-shard
invariant-loop-shard l = l.tickets.items ≡ map (λ s. shard_ticket s 0) (take l.shard-index l.shards)
