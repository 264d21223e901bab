-- The instance has ended; its iteration goes on at once, or not.
use Rattle.std.proofs.Common.{◌≡◌, ◌∙◌, ◌+◌, ◌++◌, ◌∷◌, [], IfSome, sym, ap, subst, refl, Some}
use Rattle.pipe_model.specs.Runs.RunLogs.{state_after}
use Rattle.pipe_model.specs.Runs.StageEnds.{stage_end_events}
use Rattle.pipe_model.specs.declared.event.Event.TheVariants.{Enter}
use Rattle.pipe_frame.specs.CallResults.{AdvanceReturns, StartsNothing, advance_events}
use Rattle.pipe_frame.specs.HallViews.{Sees}
use Rattle.pipe_frame.specs.SeatedTokens.{IsGivenToken}
use Rattle.pipe_frame.specs.TokenFields.{TokenFields, fields_of}
use Rattle.frame_book.specs.GivenTokens.{IsOutOf}
use Rattle.pipe_frame.specs.declared.results.Next.TheVariants as nexts
use Rattle.pipe_frame.specs.declared.token.FrameToken.{FrameToken}
use Rattle.frame_book.specs.BookStates.{HasRisingTickets, Out, events_of, state_of}
use Rattle.hall_table.specs.SeatViews.{constants_of}
use Rattle.hall_calls.proofs.BookCalls.{stopped_later}
use Rattle.hall_calls.proofs.EndingCalls.{enters_not_stopped, goes_on}
use Rattle.hall_calls.proofs.TakenBooks.{in_slot, slot_there, book_is, holds_call, advanced, ended_without, hall_is, knows_after, lent_with}
use Rattle.hall_calls.proofs.TakenBooks.{none_goes, runs_after, seen_after, sees, stays_idle}
use Rattle.pipe_frame.specs.TokenCounts.{Exchanges}
use Rattle.hall_calls.proofs.TokenMoves.{none_next, token_returned, token_given_and_returned}
use Rattle.hall_calls.proofs.worker.advance_at.Goals as goal

pub advance-next-requires-clause-stopped : goal.advance-next-requires-clause-stopped
advance-next-requires-clause-stopped g c =
    λ e. stopped_later c.args.seat.now.me.0.it.seen (events_of c.book_mut-lent.result.now.log)
    (lent_with c.slot_mut-slot.ensures.value c.book_mut-lent.ensures.value c.take_back.ensures.taken).1.seen (c.requires.stopped e)

pub return_token-requires : goal.return_token-requires
return_token-requires g c =
    let x = c.advance-next.new.self in
    let t = lent_with c.slot_mut-slot.ensures.value c.book_mut-lent.ensures.value c.take_back.ensures.taken in
    let b = c.book_mut-lent.result.now in
    let f = fields_of c.take_back.new.token in
    let same : f ≡ fields_of c.args.token = ap (λ (k : FrameToken g.row.M.Denot). fields_of k) c.take_back.ensures.token in
    let e = c.in-Go.ensures in
    record {
      own = c.take_back.ensures.own ∙ c.requires.own;
      call = (
        b,
        x,
        Some t.0,
        holds_call t.1.holds x,
        goes_on b x t.0 f c.args.trace c.args.end Out _ (t.2.fields ∙ sym same) (t.2.entries ∙ sym c.requires.trace)
            (fields_of c.in-Go.token)
            (enters_not_stopped (state_of b) f.iteration c.args.end e.returned.1) refl e.book c.entries.ensures.control
            (subst HasRisingTickets c.entries.ensures.log c.entries.ensures.rise)
            e.returned.2 e.token.0.out e.token.0.parts e.now,
        knows_after t.1 x
            (ap constants_of c.in-Go.ensures.book),
        e.token.0,
      );
    }

pub return_book-requires : goal.return_book-requires
return_book-requires g c =
    let x = c.advance-next.new.self in
    let t = lent_with c.slot_mut-slot.ensures.value c.book_mut-lent.ensures.value c.take_back.ensures.taken in
    let b = c.book_mut-lent.result.now in
    let f = fields_of c.take_back.new.token in
    let same : f ≡ fields_of c.args.token = ap (λ (k : FrameToken g.row.M.Denot). fields_of k) c.take_back.ensures.token in
    let e = c.advance-next.ensures in
    record {
      own = c.take_back.ensures.own ∙ c.requires.own;
      call = (
        b,
        x,
        Some t.0,
        holds_call t.1.holds x,
        ended_without b x t.0 f c.args.trace c.args.end c.advance-next.result c.in_default.not-Go
            (t.2.fields ∙ sym same) (t.2.entries ∙ sym c.requires.trace) e.returned e.book
            c.entries.ensures.control (subst HasRisingTickets c.entries.ensures.log c.entries.ensures.rise),
      );
    }

pub returns-in-Go : goal.returns-in-Go
returns-in-Go g c =
    let x = c.advance-next.new.self in
    let slot = in_slot c.take_back.ensures.taken.2.holds x in
    let given = c.return_token.ensures.given x slot in
    let m = c.args.seat.now.me in
    let t = lent_with c.slot_mut-slot.ensures.value c.book_mut-lent.ensures.value c.take_back.ensures.taken in
    let b = c.book_mut-lent.result.now in
    let f = fields_of c.take_back.new.token in
    let same : f ≡ fields_of c.args.token = ap (λ (k : FrameToken g.row.M.Denot). fields_of k) c.take_back.ensures.token in
    let z = c.return_token.new.seat.me in
    let e = c.in-Go.ensures in
    let s = c.return_token.ensures.same in
    let u : FrameToken g.row.M.Denot = record c.in-Go.token { payload = g.M.Carrier.with_seat c.in-Go.token.payload (Some s.0) } in
    let es = stage_end_events f.iteration c.args.end ++ Enter f.iteration ∷ [] in
    record {
      own = c.return_token.ensures.own ∙ c.take_back.ensures.own;
      idle = stays_idle t.1 x given (ap constants_of e.book) c.entries.ensures.control;
      sees = subst (λ (x : FrameToken g.row.M.Denot). Sees m.0.it.seen z.0.it.seen
          (stage_end_events c.args.token.iteration c.args.end ++ Enter c.args.token.iteration ∷ [])
          (λ q. AdvanceReturns q c.args.token.iteration c.args.token.index c.args.end (nexts.Go x))) (sym s.1)
          (subst (λ (k : TokenFields). Sees m.0.it.seen z.0.it.seen (stage_end_events k.iteration c.args.end ++ Enter k.iteration ∷ [])
          (λ q. AdvanceReturns q k.iteration k.index c.args.end (nexts.Go u))) same
          (sees t.1 x given es
          (λ q. AdvanceReturns q f.iteration f.index c.args.end (nexts.Go u))
          (advanced {M = g.row.M.Denot} b x f c.args.trace c.args.end (nexts.Go c.in-Go.token) e.book).1 e.returned));
      tokens = token_given_and_returned x t.1 given;
      runs = runs_after t.1 x given (fields_of c.return_token.result) (c.return_token.ensures.runs x slot);
      token = subst (λ k. IsGivenToken g.M.Stands.ready_at g.M.Stands.tie k c.return_token.result)
          (hall_is t.1 c.args.seat.now.table_id c.take_back.new.seat.table_id c.take_back.ensures.own) c.return_token.ensures.token;
      barred = tt;
    }

pub returns-in_default : goal.returns-in_default
returns-in_default g c =
    let x = c.advance-next.new.self in
    let slot = in_slot c.take_back.ensures.taken.2.holds x in
    let given = c.return_book.ensures.given x slot in
    let m = c.args.seat.now.me in
    let t = lent_with c.slot_mut-slot.ensures.value c.book_mut-lent.ensures.value c.take_back.ensures.taken in
    let b = c.book_mut-lent.result.now in
    let f = fields_of c.take_back.new.token in
    let same : f ≡ fields_of c.args.token = ap (λ (k : FrameToken g.row.M.Denot). fields_of k) c.take_back.ensures.token in
    let r = c.advance-next.result in
    let z = c.return_book.new.seat.me in
    let e = c.advance-next.ensures in
    let q = advanced b x f c.args.trace c.args.end r e.book in
    record {
      own = c.return_book.ensures.own.0 ∙ c.take_back.ensures.own;
      idle = stays_idle t.1 x given q.0 c.entries.ensures.control;
      sees = subst (λ (k : TokenFields). Sees m.0.it.seen z.0.it.seen (advance_events k.iteration c.args.end r)
          (λ s. AdvanceReturns s k.iteration k.index c.args.end r)) same
          (sees t.1 x given (advance_events f.iteration c.args.end r)
          (λ s. AdvanceReturns s f.iteration f.index c.args.end r) q.1 e.returned);
      tokens = subst (λ k. Exchanges k 1 m.0.it.tokens z.0.it.tokens) (sym (none_next r c.in_default.not-Go))
          (token_returned x t.1 given);
      runs = none_goes r _ c.in_default.not-Go;
      token = none_goes r _ c.in_default.not-Go;
      barred = subst (λ es. IfSome c.barred_right.result (λ i. StartsNothing (state_after es) (i + 1)))
          (sym (seen_after t.1 x given)) c.barred_right.ensures;
    }

pub advance-next-requires-clause-out : goal.advance-next-requires-clause-out
advance-next-requires-clause-out g c =
    let t = lent_with c.slot_mut-slot.ensures.value c.book_mut-lent.ensures.value c.take_back.ensures.taken in
    let same : fields_of c.take_back.new.token ≡ fields_of c.args.token =
    ap (λ (k : FrameToken g.row.M.Denot). fields_of k) c.take_back.ensures.token in
    subst (IsOutOf c.book_mut-lent.result.now) (sym same) t.2.out

pub slot_mut-slot-requires : goal.slot_mut-slot-requires
slot_mut-slot-requires g c = (
  c.take_back.ensures.own ∙ c.requires.own,
  slot_there c.take_back.ensures.taken.2.holds,
)

pub book_mut-lent-requires : goal.book_mut-lent-requires
book_mut-lent-requires g c = record {
  there = (
    c.take_back.ensures.taken.0,
    book_is c.take_back.ensures.taken.2.holds c.slot_mut-slot.result.now c.slot_mut-slot.ensures.value,
  );
}
