-- A token was found, or nothing has changed.
use Rattle.std.proofs.Common.{◌∙◌, sym, ap, subst, Some, None}
use Rattle.pipe_frame.specs.CallResults.{RescueReturns}
use Rattle.pipe_frame.specs.HallViews.{RescueSees}
use Rattle.pipe_frame.specs.SeatedTokens.{IsGivenToken}
use Rattle.pipe_frame.specs.Ties.{HallName}
use Rattle.pipe_frame.specs.TokenFields.{fields_of}
use Rattle.pipe_frame.specs.declared.results.Rescue.TheVariants as rescue
use Rattle.pipe_frame.specs.declared.token.FrameToken.{FrameToken}
use Rattle.frame_book.specs.BookStates.{BookState, HasRisingTickets, events_of, state_of}
use Rattle.frame_book.specs.CallEffects.{IsReady}
use Rattle.hall_table.specs.SeatViews.{constants_of}
use Rattle.hall_table.specs.WorkerSeats.{name_of}
use Rattle.hall_calls.proofs.EndingCalls.{rescued_call, resumed_events}
use Rattle.hall_calls.proofs.Rescuing.{rescue_sees_of}
use Rattle.hall_calls.proofs.TakenBooks.{in_slot, slot_there, book_is, holds_call, hall_is}
use Rattle.hall_calls.proofs.TakenBooks.{knows_after, lent, name_is, none_found, nothing_found, runs_after}
use Rattle.hall_calls.proofs.TakenBooks.{seen_after, stays_idle}
use Rattle.pipe_frame.specs.TokenCounts.{Exchanges}
use Rattle.hall_calls.proofs.TokenMoves.{none_moves, none_rescued, token_given}
use Rattle.hall_calls.proofs.worker.rescue_at.Goals as goal

pub return_token-requires : goal.return_token-requires
return_token-requires g c =
    let x = c.rescue-found.new.self in
    let b = c.book_mut-lent.result.now in
    let h = lent c.slot_mut-slot.ensures.value c.book_mut-lent.ensures.value c.take_book.ensures.taken in
    let e = c.in-Token.ensures in
    record {
      own = c.take_book.ensures.own ∙ c.requires.own;
      call = (
        b,
        x,
        None,
        holds_call h.holds x,
        rescued_call b x (fields_of c.in-Token.token) e.book c.entries.ensures.control
            (subst HasRisingTickets c.entries.ensures.log c.entries.ensures.rise)
            e.token.out e.token.parts e.now,
        knows_after h x (ap constants_of c.in-Token.ensures.book),
        e.token,
      );
    }

pub return_book-requires : goal.return_book-requires
return_book-requires g c =
    let x = c.rescue-found.new.self in
    let h = lent c.slot_mut-slot.ensures.value c.book_mut-lent.ensures.value c.take_book.ensures.taken in
    let b = c.book_mut-lent.result.now in
    let q = nothing_found b x c.rescue-found.result c.in_default.not-Token c.rescue-found.ensures.book in
    record {
      own = c.take_book.ensures.own ∙ c.requires.own;
      call = (
        b,
        x,
        None,
        holds_call h.holds x,
        q.call,
      );
    }

pub returns-in-Token : goal.returns-in-Token
returns-in-Token g c =
    let x = c.rescue-found.new.self in
    let slot = in_slot c.take_book.ensures.taken.1.holds x in
    let given = c.return_token.ensures.given x slot in
    let m = c.args.seat.now.me in
    let b = c.book_mut-lent.result.now in
    let h = lent c.slot_mut-slot.ensures.value c.book_mut-lent.ensures.value c.take_book.ensures.taken in
    let z = c.return_token.new.seat.me in
    let e = c.in-Token.ensures in
    let s = c.return_token.ensures.same in
    let limit = (name_of c.args.seat.now.table_id m.0.it.constants).limit in
    let u : FrameToken g.row.M.Denot = record c.in-Token.token { payload = g.M.Carrier.with_seat c.in-Token.token.payload (Some s.0) } in
    record {
      own = c.return_token.ensures.own ∙ c.take_book.ensures.own;
      idle = stays_idle h x given (ap constants_of e.book) c.entries.ensures.control;
      sees = subst (λ (y : FrameToken g.row.M.Denot). RescueSees limit m.0.it.seen z.0.it.seen (rescue.Token y)) (sym s.1)
          (rescue_sees_of {M = g.row.M.Denot} limit m.0.it.seen z.0.it.seen b x (rescue.Token u) h.seen
          (seen_after h x given)
          (ap (λ (y : BookState). events_of y.log) e.book ∙ resumed_events b u.iteration)
          (subst (λ (k : HallName). RescueReturns {M = g.row.M.Denot} k.limit (state_of b) (IsReady b) (rescue.Token u))
          (sym (name_is c.args.seat.now.table_id h)) e.returned));
      tokens = token_given x h given;
      runs = runs_after h x given (fields_of c.return_token.result) (c.return_token.ensures.runs x slot);
      token = subst (λ k. IsGivenToken g.M.Stands.ready_at g.M.Stands.tie k c.return_token.result)
          (hall_is h c.args.seat.now.table_id c.take_book.new.seat.table_id c.take_book.ensures.own) c.return_token.ensures.token;
    }

pub returns-in_default : goal.returns-in_default
returns-in_default g c =
    let x = c.rescue-found.new.self in
    let slot = in_slot c.take_book.ensures.taken.1.holds x in
    let given = c.return_book.ensures.given x slot in
    let m = c.args.seat.now.me in
    let b = c.book_mut-lent.result.now in
    let h = lent c.slot_mut-slot.ensures.value c.book_mut-lent.ensures.value c.take_book.ensures.taken in
    let r = c.rescue-found.result in
    let z = c.return_book.new.seat.me in
    let q = nothing_found b x r c.in_default.not-Token c.rescue-found.ensures.book in
    record {
      own = c.return_book.ensures.own.0 ∙ c.take_book.ensures.own;
      idle = stays_idle h x given q.constants c.entries.ensures.control;
      sees = rescue_sees_of {M = g.row.M.Denot} _ m.0.it.seen z.0.it.seen b x r h.seen
          (seen_after h x given) q.adds
          (subst (λ (k : HallName). RescueReturns {M = g.row.M.Denot} k.limit (state_of b) (IsReady b) r)
          (sym (name_is c.args.seat.now.table_id h)) c.rescue-found.ensures.returned);
      tokens = subst (λ k. Exchanges k 0 m.0.it.tokens z.0.it.tokens) (sym (none_rescued r c.in_default.not-Token))
          (none_moves x h given);
      runs = none_found r _ c.in_default.not-Token;
      token = none_found r _ c.in_default.not-Token;
    }

pub slot_mut-slot-requires : goal.slot_mut-slot-requires
slot_mut-slot-requires g c = (
  c.take_book.ensures.own ∙ c.requires.own,
  slot_there c.take_book.ensures.taken.1.holds,
)

pub book_mut-lent-requires : goal.book_mut-lent-requires
book_mut-lent-requires g c = record {
  there = (
    c.take_book.ensures.taken.0,
    book_is c.take_book.ensures.taken.1.holds c.slot_mut-slot.result.now c.slot_mut-slot.ensures.value,
  );
}
