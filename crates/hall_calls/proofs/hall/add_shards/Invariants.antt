use Rattle.std.proofs.Common.{◌≡◌, ◌≤◌, ◌<◌, ◌+◌, ◌++◌, ℕ, List, length}
use Rattle.std.specs.Prelude.{vec_capacity}
use Rattle.pipe_model.specs.Language.SyntaxTree.{tree_of}
use Rattle.hall_calls.specs.Closing.{shard_in}
use Rattle.hall_calls.specs.NewShards.{IsNewShard, shard_slots}
use Rattle.hall_shards.specs.ShardValues.{ShardValue}
use Rattle.hall_calls.proofs.hall.add_shards.Given as goal

abbrev pub invariant-loop-number : goal.invariant-loop-number
invariant-loop-number g l = record {
  passes : l.passes ≡ l.initial.passes;
  room : length l.slots.items + 16 ≤ vec_capacity l.slots + l.number;
  shards : (xs : List ShardValue) × (l.slots.items ≡ l.initial.slots.items ++ shard_slots xs) × (length xs ≡ l.number)
      × ((k : ℕ) → k < l.number → IsNewShard l.before (tree_of l.checked) l.initial.passes k (shard_in xs k));
}
