use Rattle.std.proofs.Common.{◌≡◌, take}
use Rattle.hall_shards.specs.FoundRaces.{found_by}
use Rattle.hall_shards.proofs.found.found_by.Given as goal

abbrev pub invariant-loop-shard : goal.invariant-loop-shard
invariant-loop-shard l = l.found.items ≡ found_by (take l.shard-index l.shards)
