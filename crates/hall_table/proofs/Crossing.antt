-- The book, a slot and the locks of a hall may go to another thread where the payload may. A program has recursive parts, so none of
-- these has such a fact that is made with its type.
use denote.RattleType.{RattleType}
use denote.Param.Send.{IsSend, IsSync, sendable, view_send}
use denote.Param.SendFields.{declared_send, declared_sync, variants_send}
use Rattle.std.proofs.Crossing as std
use Rattle.atomic_table.proofs.owned.Table.TheSendSync as tables
use Rattle.pipe_model.proofs.list.ListOf.TheSendSync as lists
use Rattle.pipe_model.proofs.tree.Expr.TheLaws.TheKnot as expr
use Rattle.pipe_model.proofs.tree.Stmt.TheLaws.TheKnot as stmt
use Rattle.pipe_model.specs.contracts.tree.Program as Program
use Rattle.om_shared.proofs.writer.OmWriter.TheSendSync as writers
use Rattle.om_shared.specs.declared.writer.OmWriter.{OmWriter}
use Rattle.order_2d.proofs.two_orders.TwoOrders.TheSendSync as orders
use Rattle.order_2d.specs.declared.list_writer.ListWriter as ListWriter
use Rattle.pipe_frame.specs.declared.stands.Stands as Stands
use Rattle.frame_book.proofs.ledger.Tickets.TheSendSync as tickets
use Rattle.frame_rows.proofs.row.Iteration.TheSendSync as rows
use Rattle.frame_book.specs.contracts.book.Book as Book
use Rattle.frame_book.specs.contracts.book.Book.TheInside as BookFields
use Rattle.frame_book.specs.declared.payload.Payload as Payload
use Rattle.hall_shards.proofs.shard.Shard.TheSendSync as shards
use Rattle.hall_table.specs.contracts.locks.Locks as Locks
use Rattle.hall_table.specs.contracts.slot.Slot as Slot
use Rattle.hall_table.specs.contracts.witness.Witness as Witness
use Rattle.hall_table.specs.contracts.witness.Witness.TheInside as WitnessFields
use Rattle.hall_table.specs.declared.carrier.Carrier as Carrier

program : IsSend Program.the_row
program = search (std.crosses, expr.crosses, stmt.crosses, sendable) depth 60 fits 20000

book : (M L : RattleType) (g : Stands.Ghosts M.Denot) (h : ListWriter.Ghosts L.Denot) → IsSend M → IsSend L → IsSend (Book.the_row M L g h)
book M L g h s t =
    view_send (BookFields.the_row M L g h) _ _ _ _ (declared_send (BookFields.the_type M L g h)
    (search (program, lists.the_send, rows.the_send, orders.the_send, tickets.the_send, std.crosses, sendable) depth 20))

witness : (T : RattleType) → IsSend (Witness.the_row T)
witness T = view_send (WitnessFields.the_row T) _ _ _ _ (declared_send (WitnessFields.the_type T) (search (std.crosses, sendable) depth 20))

pub slot : (M : RattleType) (g : Stands.Ghosts M.Denot) → IsSend M → IsSend (Slot.the_row M g)
slot M g s = variants_send (Slot.enum M g) (search (book, writers.the_send, shards.the_send, witness, sendable) depth 20)

module _ (M : RattleType) (c : Carrier.Ghosts M.Denot) (p : Payload.Ghosts M.Denot OmWriter) (g : Stands.Ghosts M.Denot)
    (s : IsSend M) where
  pub locks_send : IsSend (Locks.the_row M c p g)
  locks_send = let in_slots = slot M g s in declared_send (Locks.the_type M c p g)
      (search (tables.the_send, std.crosses, sendable) depth 20)

  pub locks_sync : IsSync (Locks.the_row M c p g)
  locks_sync = let in_slots = slot M g s in declared_sync (Locks.the_type M c p g)
      (search (tables.the_sync, std.crosses, sendable) depth 20)
