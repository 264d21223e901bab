use Rattle.std.proofs.Common.{◌++◌, ◌∙◌, List, ap, arith, length}
use Rattle.hall_calls.specs.NewShards.{shard_slots}
use Rattle.hall_table.specs.declared.slot.Slot.{Slot}
use Rattle.hall_calls.proofs.hall.first_slots.Goals as goal

pub add_shards-requires : goal.add_shards-requires
add_shards-requires g c =
    let long = ap length c.in_ok-slots.ensures.items in
    let room = c.in_ok-slots.ensures.room in
    omega (arith, long, room)

pub returns-in-Ok : goal.returns-in-Ok
returns-in-Ok g c =
    let q = c.in-Ok.ensures.shards in (
      q.0,
      q.1 ∙ ap (λ (l : List (Slot g.row.M.Denot)). l ++ shard_slots q.0) c.in_ok-slots.ensures.items,
      q.2,
      q.3,
    )
