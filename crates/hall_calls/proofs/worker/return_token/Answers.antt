-- The token's payload has got the seat of its instance.
use Rattle.std.proofs.Common.{◌≡◌, sym, ap, subst, refl, Some}
use Rattle.pipe_frame.specs.RunningTokens.{IsTokenOf}
use Rattle.pipe_frame.specs.SeatedTokens.{IsGivenToken}
use Rattle.pipe_frame.specs.TokenFields.{fields_of}
use Rattle.pipe_frame.specs.declared.token.FrameToken.{FrameToken}
use Rattle.frame_book.specs.BookStates.{BookState, events_of}
use Rattle.hall_table.specs.SeatViews.{constants_of}
use Rattle.hall_calls.proofs.TakenBooks.{same_slot}
use Rattle.hall_table.specs.HallRule.{view_of}
use Rattle.hall_table.specs.Steps.{after_book, new_instance, run_seat}
use Rattle.hall_table.specs.WorkerSeats.{name_of}
use Rattle.hall_calls.proofs.PayloadSeats.{given_in}
use Rattle.hall_calls.proofs.worker.return_token.Goals as goal

pub returns-clause-token : goal.returns-clause-token
returns-clause-token g c =
    let z = c.args.seat.now.table_id in
    let v = c.args.seat.now.me.0.it in
    let r = c.requires.call in
    let x = r.1 in
    let s = c.return_book_and_token.ensures.token x r.3.slots in
    subst (IsGivenToken g.M.Stands.ready_at g.M.Stands.tie (name_of z v.constants)) (sym s.1)
    (given_in g.row.M.Denot g.M.Stands.ready_at g.M.Stands.tie g.M.Carrier.lists g.M.Carrier.seat g.M.Carrier.with_seat
    g.met.M.Carrier.tied g.met.M.Carrier.seat_is g.met.M.Carrier.seat_ready
    (name_of z v.constants) z x c.args.token s.0 (view_of (run_seat (after_book v x (Some (new_instance x (fields_of c.args.token)))))) s.2
    s.3 r.5 refl
    (ap (name_of z) r.5) r.6)

pub returns-clause-runs : goal.returns-clause-runs
returns-clause-runs g c = λ x slot.
    let r = c.requires.call in
    let s = c.return_book_and_token.ensures.token r.1 r.3.slots in
    let same : x ≡ r.1 = same_slot g.row.M.Denot c.args.seat.now.me x r.1 slot r.3.slots in
    subst (λ (b : BookState). IsTokenOf (events_of b.log) (fields_of c.return_book_and_token.result)) (sym same)
    (subst (λ (t : FrameToken g.row.M.Denot). IsTokenOf (events_of r.1.log) (fields_of t)) (sym s.1) r.6.out.token)

pub returns-clause-same : goal.returns-clause-same
returns-clause-same g c =
    let r = c.requires.call in
    let s = c.return_book_and_token.ensures.token r.1 r.3.slots in
    (s.0, s.1)

pub return_book_and_token-requires-clause-call : goal.return_book_and_token-requires-clause-call
return_book_and_token-requires-clause-call g c = let r = c.requires.call in (r.0, r.1, r.2, r.3, r.4)

pub return_book_and_token-requires-clause-constants : goal.return_book_and_token-requires-clause-constants
return_book_and_token-requires-clause-constants g c = let r = c.requires.call in (constants_of r.1, r.5)
