-- The hall and a worker's seat may go to another thread where the payload may.
use denote.RattleType.{RattleType}
use denote.Ref.{NamedLft}
use denote.Param.Send.{IsSend, sendable, view_send}
use denote.Param.SendFields.{declared_send}
use Rattle.atomic_table.proofs.shared.Seat.TheSendSync as seats
use Rattle.om_shared.specs.declared.writer.OmWriter.{OmWriter}
use Rattle.pipe_frame.specs.declared.stands.Stands as Stands
use Rattle.frame_book.specs.declared.payload.Payload as Payload
use Rattle.pipe_hall.specs.contracts.seat.HallSeat as HallSeat
use Rattle.pipe_hall.specs.contracts.seat.HallSeat.TheInside as SeatFields
use Rattle.hall_table.specs.declared.carrier.Carrier as Carrier
use Rattle.hall_table.proofs.Crossing.{slot}
use Rattle.hall_calls.proofs.Crossing.{hall_send, hall_sync, key_send}

module _ (M : RattleType) (c : Carrier.Ghosts M.Denot) (p : Payload.Ghosts M.Denot OmWriter) (g : Stands.Ghosts M.Denot)
    (s : IsSend M) where
  pub seat_send : (a : NamedLft) → IsSend (HallSeat.the_row a M c p g)
  seat_send a =
      let in_slots = slot M g s in
      view_send (SeatFields.the_row a M c p g) _ _ _ _ (declared_send (SeatFields.the_type a M c p g)
      (search (hall_sync, seats.the_send, sendable) depth 20))

pub ruleset crosses = (hall_send, hall_sync, key_send, seat_send)
