use Rattle.std.proofs.Common.{◌≡◌, ◌++◌, drop}
use Rattle.hall_shards.specs.FoundRaces.{found_in_slots}
use Rattle.hall_shards.proofs.shard.Shard.found.Given as goal

abbrev pub invariant-loop-slot : goal.invariant-loop-slot
invariant-loop-slot l =
    l.found.items ++ found_in_slots 16 l.self.number l.slot (drop l.slot l.self.histories) ≡ found_in_slots 16 l.self.number 0
    l.self.histories
