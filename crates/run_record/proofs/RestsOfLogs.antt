-- How many entries of shards are left after one more of them.
use Rattle.std.proofs.Common.{ℕ, zero, suc, ◌+◌, ◌<◌, List, [], ◌∷◌, length, get_or, set, arith}
use Rattle.pipe_model.specs.declared.ticket.ShardEntry.{ShardEntry}
use Rattle.run_record.specs.LogCursors.{left_in_shards}
use Rattle.run_record.specs.MergedLogs.{shard_at}

pub fewer_in_shards : (shards : List (List ShardEntry)) (cursors : List ℕ) (k : ℕ) → k < length cursors
    → get_or cursors k 0 < length (shard_at shards k)
    → left_in_shards shards (set cursors k (get_or cursors k 0 + 1)) < left_in_shards shards cursors
fewer_in_shards [] cursors k within some = absurd (omega (arith, some))
fewer_in_shards (s ∷ ss) [] k within some = absurd (omega (arith, within))
fewer_in_shards (s ∷ ss) (n ∷ ns) zero within some = omega (arith, some)
fewer_in_shards (s ∷ ss) (n ∷ ns) (suc k) within some =
    let less = fewer_in_shards ss ns k (omega (arith, within)) some in
    omega (arith, less)
