-- The labels of the first x elements are in the words.
use Rattle.std.proofs.Common.{◌≡◌}
use Rattle.om_shared.specs.Seats.{IsStored}
use Rattle.om_shared.proofs.pending.store_labels.Given as goal

abbrev pub invariant-loop-x : goal.invariant-loop-x
invariant-loop-x l = record {
  own : l.seat.table_id ≡ l.fn.seat.table_id;
  log : l.seat.me.0.log ≡ l.fn.seat.me.0.log;
  stored : IsStored l.words.key l.words.table_id.words l.sequence l.links l.x l.seat.me;
}
