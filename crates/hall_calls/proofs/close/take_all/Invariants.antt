use Rattle.std.proofs.Common.{◌≡◌, ◌≤◌}
use Rattle.std.specs.Prelude.{vec_capacity}
use Rattle.hall_calls.proofs.Closing.{HoldsFirst}
use Rattle.hall_calls.proofs.close.take_all.Given as goal

abbrev pub invariant-loop-k : goal.invariant-loop-k
invariant-loop-k g l = record {
  table : l.seat.table_id ≡ l.hall.table.shared.table_id;
  room : 16 ≤ vec_capacity l.shards;
  holds : HoldsFirst l.initial.seat.me.0.it l.book l.shards.items l.k l.seat.me.0.it;
}
