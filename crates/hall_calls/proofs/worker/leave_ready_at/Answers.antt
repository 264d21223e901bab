-- The book keeps the token.
use Rattle.std.proofs.Common.{◌∙◌, [], sym, ap, subst, set, Some, append-nil, None}
use Rattle.pipe_model.specs.Language.SyntaxTree.{tree_of}
use Rattle.pipe_frame.specs.Ties.{AreSeen, AreSeenLists, HallName}
use Rattle.pipe_frame.specs.TokenFields.{TokenFields, fields_of}
use Rattle.pipe_frame.specs.declared.token.FrameToken.{FrameToken}
use Rattle.frame_book.specs.BookStates.{BookState, Kept, events_of, replies_at}
use Rattle.hall_table.specs.SeatViews.{constants_of}
use Rattle.hall_table.specs.WorkerSeats.{name_of}
use Rattle.hall_calls.proofs.PayloadSeats.{lists_with}
use Rattle.hall_calls.proofs.EndingCalls.{left_call}
use Rattle.hall_calls.proofs.TakenBooks.{in_slot, slot_there, book_is, holds_call, lent_with, name_is, sees, stays_idle}
use Rattle.hall_calls.proofs.TokenMoves.{token_returned}
use Rattle.hall_calls.proofs.worker.leave_ready_at.Goals as goal

pub leave_ready-requires-clause-payload : goal.leave_ready-requires-clause-payload
leave_ready-requires-clause-payload g c =
    let t = lent_with c.slot_mut-slot.ensures.value c.book_mut-lent.ensures.value c.take_back.ensures.taken in
    let b = c.book_mut-lent.result.now in
    let p = c.args.token.payload in
    let payload = ap (λ (x : FrameToken g.row.M.Denot). x.payload) c.take_back.ensures.token in
    let i = c.args.token.iteration in
    let n = name_of c.args.seat.now.table_id c.args.seat.now.me.0.it.constants in
    let name = name_is c.args.seat.now.table_id t.1 in
    let lists = ap (λ x. (g.M.Stands.tie x).lists) payload
    ∙ lists_with g.row.M.Denot g.M.Stands.ready_at g.M.Stands.tie g.M.Carrier.lists g.M.Carrier.seat g.M.Carrier.with_seat
    g.met.M.Carrier.tied g.met.M.Carrier.seat_is g.met.M.Carrier.seat_ready p None in
    record {
      belongs = subst (λ l. AreSeenLists l b.lists.down b.lists.right) (sym lists)
          (subst (λ (x : HallName). AreSeenLists (g.M.Stands.tie p).lists x.lists.down x.lists.right) name c.requires.out.belongs);
      ready = subst (λ (k : FrameToken g.row.M.Denot). g.M.Stands.ready_at (tree_of b.program) b.input k.payload k.iteration
          (replies_at b k.iteration)) (sym c.take_back.ensures.token)
          (g.met.M.Carrier.seat_ready (tree_of b.program) b.input p None i (replies_at b i)
          (subst (λ (x : HallName). g.M.Stands.ready_at x.tree x.input p i (replies_at b i)) name
          (subst (λ l. g.M.Stands.ready_at n.tree n.input p i l) t.2.replies c.requires.ready)));
    }

pub leave_ready-requires-clause-knows : goal.leave_ready-requires-clause-knows
leave_ready-requires-clause-knows g c =
    let p = c.args.token.payload in
    let lists = lists_with g.row.M.Denot g.M.Stands.ready_at g.M.Stands.tie g.M.Carrier.lists g.M.Carrier.seat g.M.Carrier.with_seat
    g.met.M.Carrier.tied g.met.M.Carrier.seat_is g.met.M.Carrier.seat_ready p None in
    subst (λ (k : FrameToken g.row.M.Denot). AreSeen (g.M.Stands.tie k.payload).lists k.marks) (sym c.take_back.ensures.token)
    (subst (λ l. AreSeen l c.args.token.marks) (sym lists) c.requires.out.knows)

pub return_book-requires-clause-call : goal.return_book-requires-clause-call
return_book-requires-clause-call g c =
    let t = lent_with c.slot_mut-slot.ensures.value c.book_mut-lent.ensures.value c.take_back.ensures.taken in
    let b = c.book_mut-lent.result.now in
    let x = c.leave_ready.new.self in
    let e = c.leave_ready.ensures in
    let fields = ap (λ (k : FrameToken g.row.M.Denot). fields_of k) c.take_back.ensures.token in (
      b,
      x,
      Some t.0,
      holds_call t.1.holds x,
      left_call b x t.0 (ap constants_of e)
          (ap (λ (y : BookState). y.tokens) e ∙ ap (λ (f : TokenFields). set b.tokens f.iteration (Kept f)) (fields ∙ sym t.2.fields))
          (ap (λ (y : BookState). y.traces) e) (ap (λ (y : BookState). y.log) e)
          (t.2.entries ∙ c.requires.fresh),
    )

pub returns : goal.returns
returns g c =
    let x = c.leave_ready.new.self in
    let slot = in_slot c.take_back.ensures.taken.2.holds x in
    let given = c.return_book.ensures.given x slot in
    let t = lent_with c.slot_mut-slot.ensures.value c.book_mut-lent.ensures.value c.take_back.ensures.taken in
    let b = c.book_mut-lent.result.now in
    record {
      own = c.return_book.ensures.own.0 ∙ c.take_back.ensures.own;
      idle = stays_idle t.1 x given (ap constants_of c.leave_ready.ensures) c.entries.ensures.control;
      sees = sees t.1 x given [] (λ s. Unit {0})
          (ap (λ (x : BookState). events_of x.log) c.leave_ready.ensures ∙ sym (append-nil (events_of b.log))) tt;
      tokens = token_returned x t.1 given;
    }

pub slot_mut-slot-requires : goal.slot_mut-slot-requires
slot_mut-slot-requires g c = (
  c.take_back.ensures.own ∙ c.requires.own,
  slot_there c.take_back.ensures.taken.2.holds,
)

pub book_mut-lent-requires : goal.book_mut-lent-requires
book_mut-lent-requires g c = record {
  there = (
    c.take_back.ensures.taken.0,
    book_is c.take_back.ensures.taken.2.holds c.slot_mut-slot.result.now c.slot_mut-slot.ensures.value,
  );
}
