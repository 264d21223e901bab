-- A further seat is idle, as the one that it is split from.
use Rattle.std.proofs.Common.{◌∙◌, arith, sym, ap}
use Rattle.hall_table.specs.Openings.{start_in}
use Rattle.hall_table.specs.WorkerSeats.{HallState}
use Rattle.hall_table.proofs.Steps.{splits_worker}
use Rattle.hall_calls.proofs.PayloadSeats.{idle_after, idle_copy}
use Rattle.pipe_hall.proofs.seat.HallSeat.split.Goals as goal

pub split_seat-seat-requires : goal.split_seat-seat-requires
split_seat-seat-requires g c =
    let own = c.self.invariant.1 ∙ sym (ap (λ (h : HallState). h.hall.table) c.hall.view_is) in
    let w = c.hall.inside.locks.sized.0 in
    (own, omega (arith, w), splits_worker g.row.M.Denot (start_in c.hall.inside.locks.table.shared.key) _ _)

pub invariant_of-self : goal.invariant_of-self
invariant_of-self g c =
    let e = c.split_seat-seat.ensures in
    (idle_after _ c.self.inside.seat.me e.2 c.self.invariant.0, e.0 ∙ c.self.invariant.1, tt)

pub invariant_of-result : goal.invariant_of-result
invariant_of-result g c =
    let e = c.split_seat-seat.ensures in
    (idle_after _ _ e.4 (idle_copy g.row.M.Denot c.self.inside.seat.me c.self.invariant.0), e.3 ∙ c.self.invariant.1, tt)
