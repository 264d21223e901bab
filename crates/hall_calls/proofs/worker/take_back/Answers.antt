-- The payload has the seat of its token's instance.
use Rattle.std.proofs.Common.{◌≡◌, ◌∙◌, sym, ap, subst, refl, Some}
use Rattle.pipe_frame.specs.TokenFields.{TokenFields, fields_of}
use Rattle.frame_book.specs.BookStates.{replies_at}
use Rattle.frame_book.specs.GivenTokens.{IsOutOf}
use Rattle.hall_table.specs.InstanceSeats.{badge_view}
use Rattle.hall_table.specs.Steps.{ViewAndSlots}
use Rattle.hall_table.specs.WorkerSeats.{name_of}
use Rattle.hall_table.specs.declared.run_seat.RunSeat.{RunSeat}
use Rattle.hall_calls.proofs.PayloadSeats.{has_seat}
use Rattle.hall_calls.proofs.TakenBooks.{has_taken}
use Rattle.hall_calls.proofs.worker.take_back.Goals as goal

pub take_seat_of-run-requires : goal.take_seat_of-run-requires
take_seat_of-run-requires g c =
    let o = c.args.seat.now.me.0.it.constants in
    let z = c.args.seat.now.table_id in
    let h = has_seat g.row.M.Denot g.M.Stands.ready_at g.M.Stands.tie g.M.Carrier.lists g.M.Carrier.seat g.M.Carrier.with_seat
    g.met.M.Carrier.tied g.met.M.Carrier.seat_is
    g.met.M.Carrier.seat_ready c.args.token.now.payload (name_of z o) (fields_of c.args.token.now) z o refl c.requires.out in
    record { there = (h.run, h.is) }

pub join_instance-requires-clause-own : goal.join_instance-requires-clause-own
join_instance-requires-clause-own g c =
    let o = c.args.seat.now.me.0.it.constants in
    let z = c.args.seat.now.table_id in
    let h = has_seat g.row.M.Denot g.M.Stands.ready_at g.M.Stands.tie g.M.Carrier.lists g.M.Carrier.seat g.M.Carrier.with_seat
    g.met.M.Carrier.tied g.met.M.Carrier.seat_is
    g.met.M.Carrier.seat_ready c.args.token.now.payload (name_of z o) (fields_of c.args.token.now) z o refl c.requires.out in
    let same : h.run ≡ c.take_seat_of-run.result = (let w : Some h.run ≡ Some c.take_seat_of-run.result = sym h.is
    ∙ c.take_seat_of-run.ensures.seat in cc) in
    (c.requires.own, ap (λ (r : RunSeat). r.badge.table_id) (sym same) ∙ (h.table ∙ c.requires.own))

pub returns-clause-taken : goal.returns-clause-taken
returns-clause-taken g c =
    let i = c.requires.idle in
    let o = c.args.seat.now.me.0.it.constants in
    let z = c.args.seat.now.table_id in
    let h = has_seat g.row.M.Denot g.M.Stands.ready_at g.M.Stands.tie g.M.Carrier.lists g.M.Carrier.seat g.M.Carrier.with_seat
    g.met.M.Carrier.tied g.met.M.Carrier.seat_is
    g.met.M.Carrier.seat_ready c.args.token.now.payload (name_of z o) (fields_of c.args.token.now) z o refl c.requires.out in
    let same : h.run ≡ c.take_seat_of-run.result = (let w : Some h.run ≡ Some c.take_seat_of-run.result = sym h.is
    ∙ c.take_seat_of-run.ensures.seat in cc) in
    let j = c.join_instance.ensures.joined in
    let t = c.take_book.ensures.taken in
    let b = t.0 in
    let k = c.join_instance.new.seat.me in
    let run : k.0.it.run ≡ Some h.run_data = ap (λ (x : ViewAndSlots g.row.M.Denot). x.0.it.run) j
    ∙ (ap (λ (r : RunSeat). (badge_view r.badge.views).run) (sym same) ∙ h.run_is) in
    let r = t.2.run h.run_data run in (
      b,
      h.run_data,
      has_taken g.row.M.Denot c.args.seat.now.me k c.take_book.new.seat.me b (Some h.run_data) i
          (ap (λ (x : ViewAndSlots g.row.M.Denot). x.0.it.constants) j)
          (ap (λ (x : ViewAndSlots g.row.M.Denot). x.0.it.seen) j) (ap (λ (x : ViewAndSlots g.row.M.Denot). x.0.it.held) j)
          (ap (λ (x : ViewAndSlots g.row.M.Denot). x.1) j) run (ap (λ (x : ViewAndSlots g.row.M.Denot). x.0.it.tokens) j) t.1
          t.2,
      record {
        out = subst (IsOutOf b) h.fields r.out;
        fields = h.fields;
        replies = sym h.replies ∙ (r.replies ∙ ap (λ (f : TokenFields). replies_at b f.iteration) h.fields);
        entries = h.entries;
      },
    )
