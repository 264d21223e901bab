use denote.Param.Send.{sendable}
use Rattle.std.proofs.Common.{◌∙◌, ap}
use Rattle.program_hall.proofs.carried.Carried.TheSendSync as carried
use Rattle.pipe_engine.proofs.JoinedSeats.{last_named, last_over, others_named}
use Rattle.pipe_hall.proofs.Crossing.{crosses}
use Rattle.hall_table.specs.WorkerSeats.{WorkerSeat, hall_name}
use Rattle.pipe_engine.proofs.workers.run_workers.Goals as goal

-- a seat may go to another thread
pub drive-requires-send-H : goal.drive-requires-send-H
drive-requires-send-H g c κs within = let brand = c.type_bounds.send-B in search (crosses, carried.the_send, sendable) depth 20

pub join_seats-requires : goal.join_seats-requires
join_seats-requires g c =
    let named = rw c.in-Some.ensures.items at c.in_ok-driven.ensures.named in
    record { named = others_named (hall_name c.further_seats.new.first.hall) c.pop.new.self.items c.in-Some.first named }

pub returns-clause-key : goal.returns-clause-key
returns-clause-key g c =
    let named = rw c.in-Some.ensures.items at c.in_ok-driven.ensures.named in
    ap hall_name c.join_seats.ensures.hall
    ∙ last_named (hall_name c.further_seats.new.first.hall) c.pop.new.self.items c.in-Some.first named
    ∙ ap (λ (s : WorkerSeat). hall_name s.hall) (c.further_seats.ensures.unchanged ∙ c.new-first.ensures)

pub returns-clause-over : goal.returns-clause-over
returns-clause-over g c =
    let over = rw c.in-Some.ensures.items at c.in_ok-driven.ensures.over in
    record { base = c.in-Some.first.seen; over = last_over c.pop.new.self.items c.in-Some.first over; later = c.join_seats.ensures.seen }
