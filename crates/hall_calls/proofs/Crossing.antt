-- A hall, and the bare seat of a worker, may go to another thread where the payload may.
use denote.RattleType.{RattleType}
use denote.Param.Send.{IsSend, IsSync, sendable, view_send, view_sync}
use denote.Param.SendFields.{declared_send, declared_sync}
use Rattle.atomic_table.proofs.shared.Seat.TheSendSync as seats
use Rattle.om_shared.specs.declared.writer.OmWriter.{OmWriter}
use Rattle.pipe_frame.specs.declared.stands.Stands as Stands
use Rattle.frame_book.specs.declared.payload.Payload as Payload
use Rattle.hall_calls.specs.contracts.hall.HallOf as HallOf
use Rattle.hall_calls.specs.contracts.hall.HallOf.TheInside as HallFields
use Rattle.hall_calls.specs.contracts.hall.HallKey as HallKey
use Rattle.hall_calls.specs.contracts.hall.HallKey.TheInside as KeyFields
use Rattle.hall_table.specs.declared.carrier.Carrier as Carrier
use Rattle.hall_table.proofs.Crossing.{slot, locks_send, locks_sync}

module _ (M : RattleType) (c : Carrier.Ghosts M.Denot) (p : Payload.Ghosts M.Denot OmWriter) (g : Stands.Ghosts M.Denot)
    (s : IsSend M) where
  pub hall_send : IsSend (HallOf.the_row M c p g)
  hall_send = view_send (HallFields.the_row M c p g) _ _ _ _
      (declared_send (HallFields.the_type M c p g) (search (locks_send, sendable) depth 20))

  pub hall_sync : IsSync (HallOf.the_row M c p g)
  hall_sync = view_sync (HallFields.the_row M c p g) _ _ _ _
      (declared_sync (HallFields.the_type M c p g) (search (locks_sync, sendable) depth 20))

  pub key_send : IsSend (HallKey.the_row M c g)
  key_send =
      let in_slots = slot M g s in
      view_send (KeyFields.the_row M c g) _ _ _ _ (declared_send (KeyFields.the_type M c g) (search (seats.the_send, sendable) depth 20))
