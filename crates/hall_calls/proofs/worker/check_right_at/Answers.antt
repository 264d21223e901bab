-- An iteration has entered a stage, or nothing has changed.
use Rattle.std.proofs.Common.{◌∙◌, ◌+◌, [], ◌∷◌, sym, ap, subst, Some, None}
use Rattle.pipe_frame.specs.CallResults.{EnterReturns}
use Rattle.pipe_frame.specs.HallViews.{Sees}
use Rattle.pipe_frame.specs.SeatedTokens.{IsGivenToken}
use Rattle.pipe_frame.specs.declared.token.FrameToken.{FrameToken}
use Rattle.pipe_model.specs.declared.event.Event.TheVariants.{Enter}
use Rattle.pipe_frame.specs.TokenFields.{fields_of}
use Rattle.frame_book.specs.BookStates.{BookState, HasRisingTickets, Spent, events_of, item_or}
use Rattle.frame_book.specs.CallEffects.{kept_now}
use Rattle.hall_table.specs.BookCalls.{IsBookCall}
use Rattle.hall_table.specs.SeatViews.{constants_of}
use Rattle.hall_calls.proofs.BookCalls.{enter_call, events_stamped, unchanged_call}
use Rattle.hall_calls.proofs.TakenBooks.{in_slot, slot_there, book_is, holds_call, hall_is}
use Rattle.hall_calls.proofs.TakenBooks.{knows_after, lent, runs_after, same_events, sees, stays_idle}
use Rattle.hall_calls.proofs.TokenMoves.{none_moves, token_given}
use Rattle.hall_calls.proofs.worker.check_right_at.Goals as goal

pub return_token-requires : goal.return_token-requires
return_token-requires g c =
    let x = c.check_right-entered.new.self in
    let b = c.book_mut-lent.result.now in
    let h = lent c.slot_mut-slot.ensures.value c.book_mut-lent.ensures.value c.take_book.ensures.taken in
    let e = c.in-Some.ensures in
    let f = fields_of c.in-Some.token in
    record {
      own = c.take_book.ensures.own ∙ c.requires.own;
      call = (
        b,
        x,
        None,
        holds_call h.holds x,
        enter_call b x f (ap constants_of e.book) (ap (λ (y : BookState). y.tokens) e.book)
            (ap (λ (y : BookState). y.traces) e.book) e.token.out e.token.parts
            (kept_now (item_or Spent b.tokens f.iteration)) (ap (λ (y : BookState). y.log) e.book) c.entries.ensures.control
            (subst HasRisingTickets c.entries.ensures.log c.entries.ensures.rise) e.now,
        knows_after h x (ap constants_of c.in-Some.ensures.book),
        e.token,
      );
    }

pub return_book-requires-clause-call : goal.return_book-requires-clause-call
return_book-requires-clause-call g c =
    let x = c.check_right-entered.new.self in
    let h = lent c.slot_mut-slot.ensures.value c.book_mut-lent.ensures.value c.take_book.ensures.taken in
    let b = c.book_mut-lent.result.now in (
      b,
      x,
      None,
      holds_call h.holds x,
      subst (λ x. IsBookCall b None x None) (sym c.in-None.ensures.book) (unchanged_call b),
    )

pub returns-in-None : goal.returns-in-None
returns-in-None g c =
    let x = c.check_right-entered.new.self in
    let slot = in_slot c.take_book.ensures.taken.1.holds x in
    let given = c.return_book.ensures.given x slot in
    let b = c.book_mut-lent.result.now in
    let h = lent c.slot_mut-slot.ensures.value c.book_mut-lent.ensures.value c.take_book.ensures.taken in
    let e = c.in-None.ensures in
    record {
      own = c.return_book.ensures.own.0 ∙ c.take_book.ensures.own;
      idle = stays_idle h x given (ap constants_of e.book) c.entries.ensures.control;
      sees = sees h x given [] (λ q. EnterReturns {M = g.row.M.Denot} q (c.args.iteration + 1) None)
          (same_events b x e.book) e.returned;
      tokens = none_moves x h given;
      runs = tt;
      token = tt;
    }

pub returns-in-Some : goal.returns-in-Some
returns-in-Some g c =
    let x = c.check_right-entered.new.self in
    let slot = in_slot c.take_book.ensures.taken.1.holds x in
    let given = c.return_token.ensures.given x slot in
    let m = c.args.seat.now.me in
    let b = c.book_mut-lent.result.now in
    let h = lent c.slot_mut-slot.ensures.value c.book_mut-lent.ensures.value c.take_book.ensures.taken in
    let z = c.return_token.new.seat.me in
    let e = c.in-Some.ensures in
    let s = c.return_token.ensures.same in
    let u : FrameToken g.row.M.Denot = record c.in-Some.token { payload = g.M.Carrier.with_seat c.in-Some.token.payload (Some s.0) } in
    record {
      own = c.return_token.ensures.own ∙ c.take_book.ensures.own;
      idle = stays_idle h x given (ap constants_of e.book) c.entries.ensures.control;
      sees = subst (λ (y : FrameToken g.row.M.Denot). Sees m.0.it.seen z.0.it.seen (Enter y.iteration ∷ [])
          (λ q. EnterReturns q (c.args.iteration + 1) (Some y))) (sym s.1)
          (sees h x given (Enter u.iteration ∷ [])
          (λ q. EnterReturns {M = g.row.M.Denot} q (c.args.iteration + 1) (Some u))
          (ap (λ (y : BookState). events_of y.log) e.book
          ∙ events_stamped b.log (kept_now (item_or Spent b.tokens u.iteration)) (Enter u.iteration ∷ [])) e.returned);
      tokens = token_given x h given;
      runs = runs_after h x given (fields_of c.return_token.result) (c.return_token.ensures.runs x slot);
      token = subst (λ k. IsGivenToken g.M.Stands.ready_at g.M.Stands.tie k c.return_token.result)
          (hall_is h c.args.seat.now.table_id c.take_book.new.seat.table_id c.take_book.ensures.own) c.return_token.ensures.token;
    }

pub slot_mut-slot-requires : goal.slot_mut-slot-requires
slot_mut-slot-requires g c = (
  c.take_book.ensures.own ∙ c.requires.own,
  slot_there c.take_book.ensures.taken.1.holds,
)

pub book_mut-lent-requires : goal.book_mut-lent-requires
book_mut-lent-requires g c = record {
  there = (
    c.take_book.ensures.taken.0,
    book_is c.take_book.ensures.taken.1.holds c.slot_mut-slot.result.now c.slot_mut-slot.ensures.value,
  );
}
