-- Each slot is freed, and the last state of the table obeys the rule.
use Rattle.core.specs.Mem.Slots.{slots_filled, slots_len}
use Rattle.hall_table.specs.Openings.{start_in}
use Rattle.hall_calls.proofs.Freeing.{one_taken}
use Rattle.hall_table.proofs.Steps.{closed_hall}
use Rattle.hall_calls.proofs.close.free_table.Goals as goal

pub loop-i-preserved : goal.loop-i-preserved
loop-i-preserved g c =
    let o = c.take.ensures.others in
    one_taken (slots_filled c.loop-i.closed.slots) (slots_filled c.take.new.self.slots) c.loop-i.i (slots_len c.loop-i.closed.slots)
    (slots_len c.take.new.self.slots) o.1 o.2 c.loop-i.invariant

pub returns : goal.returns
returns g c = record {
  closed = λ b shard all.
      (let f = c.close_with-closed.ensures.values in
      closed_hall g.row.M.Denot (start_in c.args.table.shared.key) f.2.0 f.2.1.0 c.args.seat.id c.args.seat.me.0 f.2.1.1 b shard all);
}
