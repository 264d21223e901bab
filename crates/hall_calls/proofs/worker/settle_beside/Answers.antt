-- The book comes back unchanged from the seat that was split off for it.
use Rattle.std.proofs.Common.{◌∙◌, arith, None}
use Rattle.hall_table.specs.Openings.{start_in}
use Rattle.hall_table.proofs.Steps.{splits_worker}
use Rattle.hall_calls.proofs.TakenBooks.{book_is, holds_beside, holds_call, lent_is, slot_there, unchanged}
use Rattle.hall_calls.proofs.worker.settle_beside.Goals as goal

pub split_seat-own-requires : goal.split_seat-own-requires
split_seat-own-requires g c =
    let w = c.args.hall.now.sized.0 in
    (c.requires.own, omega (arith, w), splits_worker g.row.M.Denot (start_in c.args.hall.now.table.shared.key) _ _)

pub slot_mut-slot-requires : goal.slot_mut-slot-requires
slot_mut-slot-requires g c =
    let t = c.take_book.ensures.taken in
    let h = holds_beside g.row.M.Denot c.args.seat.now.me c.split_seat-own.result.me c.take_book.new.seat.me t.0
    c.split_seat-own.ensures.4 t.1 in
    (c.take_book.ensures.own.0 ∙ (c.split_seat-own.ensures.3 ∙ c.requires.own), slot_there h)

pub book_mut-lent-requires : goal.book_mut-lent-requires
book_mut-lent-requires g c =
    let t = c.take_book.ensures.taken in
    let h = holds_beside g.row.M.Denot c.args.seat.now.me c.split_seat-own.result.me c.take_book.new.seat.me t.0
    c.split_seat-own.ensures.4 t.1 in
    record {
      there = (
        t.0,
        book_is h c.slot_mut-slot.result.now c.slot_mut-slot.ensures.value,
      );
    }

pub return_book-requires-clause-call : goal.return_book-requires-clause-call
return_book-requires-clause-call g c =
    let t = c.take_book.ensures.taken in
    let h = holds_beside g.row.M.Denot c.args.seat.now.me c.split_seat-own.result.me c.take_book.new.seat.me t.0
    c.split_seat-own.ensures.4 t.1 in
    let x = c.settle_orders.new.self in (
      t.0,
      x,
      None,
      holds_call h x,
      unchanged t.0 x (c.settle_orders.ensures ∙ lent_is h c.slot_mut-slot.result.now
          c.book_mut-lent.result.now c.slot_mut-slot.ensures.value c.book_mut-lent.ensures.value),
    )
