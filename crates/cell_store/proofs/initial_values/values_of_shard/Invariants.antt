use Rattle.std.proofs.Common.{◌≡◌, ◌+◌, ◌-◌, ◌*◌, ◌<◌, ℕ, pos, length, slice_index_or}
use Rattle.cell_store.proofs.initial_values.values_of_shard.Given as goal

abbrev pub decreases-loop-cell : goal.decreases-loop-cell
decreases-loop-cell l = length l.all - l.cell

abbrev pub invariant-loop-cell : goal.invariant-loop-cell
invariant-loop-cell l = record {
  at : l.cell ≡ l.shard + l.shards * length l.values.items;
  taken : (slot : ℕ) → slot < length l.values.items
      → slice_index_or l.values.items slot (pos 0) ≡ slice_index_or l.all (l.shard + l.shards * slot) (pos 0);
}
