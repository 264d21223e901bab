-- The stop is the last event, or the run had been stopped.
use Rattle.std.proofs.Common.{◌∙◌, sym, ap, subst, None}
use Rattle.pipe_model.specs.Runs.RunLogs.{state_after}
use Rattle.pipe_frame.specs.HallViews.{BeginsWith}
use Rattle.frame_book.specs.BookStates.{HasRisingTickets}
use Rattle.hall_table.specs.SeatViews.{constants_of}
use Rattle.hall_table.specs.Steps.{ViewAndSlots}
use Rattle.hall_calls.proofs.BookCalls.{halted_call, halted_seen, halted_stops}
use Rattle.hall_calls.proofs.TakenBooks.{in_slot, slot_there, book_is, holds_call, lent, seen_after, stays_idle}
use Rattle.hall_calls.proofs.worker.stop_at.Goals as goal

pub return_book-requires-clause-call : goal.return_book-requires-clause-call
return_book-requires-clause-call g c =
    let x = c.stop.new.self in
    let h = lent c.slot_mut-slot.ensures.value c.book_mut-lent.ensures.value c.take_book.ensures.taken in
    let b = c.book_mut-lent.result.now in (
      b,
      x,
      None,
      holds_call h.holds x,
      halted_call b x c.stop.ensures
          c.entries.ensures.control (subst HasRisingTickets c.entries.ensures.log c.entries.ensures.rise),
    )

pub returns : goal.returns
returns g c =
    let x = c.stop.new.self in
    let slot = in_slot c.take_book.ensures.taken.1.holds x in
    let given = c.return_book.ensures.given x slot in
    let b = c.book_mut-lent.result.now in
    let h = lent c.slot_mut-slot.ensures.value c.book_mut-lent.ensures.value c.take_book.ensures.taken in
    let seen = seen_after h x given in
    record {
      own = c.return_book.ensures.own.0 ∙ c.take_book.ensures.own;
      idle = stays_idle h x given (ap constants_of c.stop.ensures) c.entries.ensures.control;
      later = subst (λ l. BeginsWith l c.args.seat.now.me.0.it.seen) (sym seen)
          (halted_seen b x c.args.seat.now.me.0.it.seen c.stop.ensures h.seen);
      stopped = ap (λ l. (state_after l).stopped) seen ∙ halted_stops b x c.stop.ensures;
      tokens = ap (λ (x : ViewAndSlots g.row.M.Denot). x.0.it.tokens) given ∙ h.counts;
    }

pub slot_mut-slot-requires : goal.slot_mut-slot-requires
slot_mut-slot-requires g c = (
  c.take_book.ensures.own ∙ c.requires.own,
  slot_there c.take_book.ensures.taken.1.holds,
)

pub book_mut-lent-requires : goal.book_mut-lent-requires
book_mut-lent-requires g c = record {
  there = (
    c.take_book.ensures.taken.0,
    book_is c.take_book.ensures.taken.1.holds c.slot_mut-slot.result.now c.slot_mut-slot.ensures.value,
  );
}
