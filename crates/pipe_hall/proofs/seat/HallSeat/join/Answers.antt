-- The seat takes in the other, and one look shows what both had seen.
use Rattle.std.proofs.Common.{◌∙◌, arith, sym, ap}
use Rattle.hall_table.specs.Openings.{start_in}
use Rattle.hall_table.specs.Steps.{ViewAndSlots}
use Rattle.hall_table.specs.WorkerSeats.{HallState, WorkerSeat}
use Rattle.hall_table.proofs.Steps.{joins_worker, may_meet}
use Rattle.hall_calls.proofs.PayloadSeats.{idle_met, same_table}
use Rattle.pipe_hall.proofs.seat.HallSeat.join.Goals as goal

pub join_seat-requires : goal.join_seat-requires
join_seat-requires g c =
    let own = c.self.invariant.1 ∙ sym (ap (λ (h : HallState). h.hall.table) c.hall.view_is) in
    let w = c.hall.inside.locks.sized.0 in
    let theirs = ap (λ (k : WorkerSeat). k.hall.table) c.other.view_is
    ∙ (same_table c.args.other.hall c.args.self.now.hall c.requires.same_hall
    ∙ (sym (ap (λ (k : WorkerSeat). k.hall.table) c.self.view_is) ∙ own)) in (
      own,
      theirs,
      c.other.invariant.slots,
      omega (arith, w),
      joins_worker g.row.M.Denot (start_in c.hall.inside.locks.table.shared.key) _ _
          _ _ c.other.invariant.run,
    )

pub load-requires : goal.load-requires
load-requires g c =
    let own = c.self.invariant.1 ∙ sym (ap (λ (h : HallState). h.hall.table) c.hall.view_is) in
    let w = c.hall.inside.locks.sized.0 in (
      c.join_seat.ensures.0 ∙ own,
      omega (arith, w),
      may_meet g.row.M.Denot (start_in c.hall.inside.locks.table.shared.key) _ _
          c.join_seat.new.seat.me,
    )

pub invariant_of-self : goal.invariant_of-self
invariant_of-self g c =
    let e = c.join_seat.ensures in
    let i = c.self.invariant.0 in
    let q = c.load.ensures in (
      idle_met g.row.M.Denot c.join_seat.new.seat.me c.load.new.seat.me q.2.0 q.2.3 i.constants
          (ap (λ (k : ViewAndSlots g.row.M.Denot). k.0.it.constants) e.2 ∙ i.knows)
          (ap (λ (k : ViewAndSlots g.row.M.Denot). k.0.it.run) e.2 ∙ i.run)
          (ap (λ (k : ViewAndSlots g.row.M.Denot). k.0.it.held) e.2 ∙ i.held) (ap (λ (k : ViewAndSlots g.row.M.Denot). k.1) e.2 ∙ i.slots),
      q.0 ∙ (e.0 ∙ c.self.invariant.1),
      tt,
    )
