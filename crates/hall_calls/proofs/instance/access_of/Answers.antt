use Rattle.std.proofs.Common.{◌≡◌, ◌<◌, ◌∙◌, subst, sym, ap, ap₂, refl, [], ◌∷◌, length, Some, None}
use Rattle.pipe_model.specs.Language.Programs.{store_of}
use Rattle.pipe_frame.specs.Ties.{AreElementsOf, AreSeen, AreSeenLists, HallName, SeenLists, Tie}
use Rattle.pipe_frame.specs.TokenFields.{fields_of}
use Rattle.pipe_frame.specs.declared.token.FrameToken.{FrameToken}
use Rattle.hall_table.specs.HallRule.{view_of}
use Rattle.hall_table.specs.WorkerSeats.{name_of}
use Rattle.hall_table.specs.InstanceSeats.{badge_view, is_instance_badge}
use Rattle.hall_table.specs.Lending.{seat_in}
use Rattle.hall_table.specs.Steps.{ViewAndSlots}
use Rattle.hall_table.specs.SeatAccesses.{ran, seat_done}
use Rattle.hall_table.specs.declared.view.View.{View}
use Rattle.hall_table.specs.declared.run_seat.RunSeat.{RunSeat}
use Rattle.hall_calls.proofs.PayloadSeats.{has_seat, lists_with, tie_with}
use Rattle.hall_calls.proofs.InstanceAccesses.{ran_badge, seat_again}
use Rattle.hall_table.proofs.Seating.{instance_badge}
use Rattle.hall_calls.proofs.instance.access_of.Goals as goal

pub take_seat_of-badge-requires : goal.take_seat_of-badge-requires
take_seat_of-badge-requires g c =
    let q = c.requires.out in
    let z = c.args.hall.now.table.shared.table_id in
    let n = name_of z (Some q.0) in
    let h = has_seat g.row.M.Denot g.M.Stands.ready_at g.M.Stands.tie g.M.Carrier.lists g.M.Carrier.seat g.M.Carrier.with_seat
    g.met.M.Carrier.tied g.met.M.Carrier.seat_is g.met.M.Carrier.seat_ready c.args.token.now.payload n (fields_of c.args.token.now) z
    (Some q.0) refl q.1 in
    record { there = (h.run, h.is) }

pub access_for-done-requires : goal.access_for-done-requires
access_for-done-requires g c =
    let q = c.requires.out in
    let z = c.args.hall.now.table.shared.table_id in
    let n = name_of z (Some q.0) in
    let h = has_seat g.row.M.Denot g.M.Stands.ready_at g.M.Stands.tie g.M.Carrier.lists g.M.Carrier.seat g.M.Carrier.with_seat
    g.met.M.Carrier.tied g.met.M.Carrier.seat_is g.met.M.Carrier.seat_ready c.args.token.now.payload n (fields_of c.args.token.now) z
    (Some q.0) refl q.1 in
    let same : h.run ≡ c.take_seat_of-badge.result = (let w : Some h.run ≡ Some c.take_seat_of-badge.result = sym h.is
    ∙ c.take_seat_of-badge.ensures.seat in cc) in
    let b = instance_badge c.take_seat_of-badge.result.badge.views c.take_seat_of-badge.result.of_instance in
    let e = c.into_seat-run.ensures in
    let m0 = c.into_seat-run.result.me in
    let view : m0.0 ≡ b.view = (let w : m0.0 ∷ [] ≡ b.view ∷ [] = sym e.2 ∙ b.is in cc) in
    let run_is : m0.0.it.run ≡ Some h.run_data = ap (λ (v : View). v.it.run) view
    ∙ (ap (λ vs. (badge_view vs).run) (sym b.is) ∙ (ap (λ (r : RunSeat). (badge_view r.badge.views).run) (sym same) ∙ h.run_is)) in
    let table : c.into_seat-run.result.table_id ≡ h.run.badge.table_id = e.0 ∙ ap (λ (r : RunSeat). r.badge.table_id) (sym same) in
    let constants : m0.0.it.constants ≡ (badge_view h.run.badge.views).constants = ap (λ (v : View). v.it.constants) view
    ∙ (ap (λ vs. (badge_view vs).constants) (sym b.is) ∙ ap (λ (r : RunSeat). (badge_view r.badge.views).constants) (sym same)) in
    let name : name_of c.into_seat-run.result.table_id m0.0.it.constants ≡ n = ap₂ name_of table constants ∙ h.hall in
    let lists_are : g.M.Carrier.lists c.take_seat_of-badge.new.payload ≡ g.M.Carrier.lists c.args.token.now.payload =
    ap g.M.Carrier.lists c.take_seat_of-badge.ensures.payload ∙ (g.met.M.Carrier.seat_is c.args.token.now.payload None).1 in
    let tie_lists : (g.M.Stands.tie c.args.token.now.payload).lists ≡ Some (g.M.Carrier.lists c.args.token.now.payload) =
    ap (λ (t : Tie). t.lists) (g.met.M.Carrier.tied c.args.token.now.payload) in
    record {
      own = table ∙ h.table;
      runs = record {
        constants = b.constants;
        knows = ap (λ (v : View). v.it.constants) view ∙ b.knows;
        run_data = h.run_data;
        run_is =
            run_is;
        fields = h.fields;
        held = ap (λ (v : View). v.it.held) view ∙ b.held;
        slots = e.3;
      };
      cell = subst (λ (x : HallName). c.args.cell.0 < length (store_of x.tree).values) (sym name) q.2;
      lists = subst (λ (x : HallName). AreSeenLists (Some (g.M.Carrier.lists c.take_seat_of-badge.new.payload)) x.lists.down x.lists.right)
          (sym name)
          (subst (λ (l : SeenLists). AreSeenLists (Some l) n.lists.down n.lists.right) (sym lists_are)
          (subst (λ o. AreSeenLists o n.lists.down n.lists.right) tie_lists q.1.belongs));
      known = subst (λ (l : SeenLists). AreElementsOf l.down_log l.right_log c.args.token.now.marks) (sym lists_are)
          (subst (λ o. AreSeen o c.args.token.now.marks) tie_lists q.1.knows);
    }

pub invariant_of-put_seat : goal.invariant_of-put_seat
invariant_of-put_seat g c =
    let e = c.into_seat-run.ensures in
    let m0 = c.into_seat-run.result.me in
    let views : c.into_badge.result.views ≡ view_of (ran m0.0.it c.access_for-done.result) ∷ [] = c.into_badge.ensures.2
    ∙ ap (λ (k : ViewAndSlots g.row.M.Denot). k.0 ∷ []) c.access_for-done.ensures.ran in
    record {
      of_instance = ap is_instance_badge views ∙ ran_badge m0.0 c.access_for-done.result
          (ap is_instance_badge (sym e.2) ∙ c.take_seat_of-badge.result.of_instance);
    }

pub returns-clause-fields : goal.returns-clause-fields
returns-clause-fields g c = ap (λ (t : FrameToken g.row.M.Denot). fields_of t) c.access_for-done.ensures.token

pub returns-clause-tie : goal.returns-clause-tie
returns-clause-tie g c =
    let e = c.into_seat-run.ensures in
    let m0 = c.into_seat-run.result.me in
    let o = c.access_for-done.result in
    let f = c.access_for-done.ensures in
    let views : c.into_badge.result.views ≡ view_of (ran m0.0.it o) ∷ [] = c.into_badge.ensures.2
    ∙ ap (λ (k : ViewAndSlots g.row.M.Denot). k.0 ∷ []) f.ran in
    let r : RunSeat = record { badge = c.into_badge.result; of_instance = _ } in
    let p = c.args.token.now.payload in
    let x = c.access_for-done.new.token.payload in
    let payload : x ≡ g.M.Carrier.with_seat p None = ap (λ (t : FrameToken g.row.M.Denot). t.payload) f.token
    ∙ c.take_seat_of-badge.ensures.payload in
    let lists : (g.M.Stands.tie x).lists ≡ (g.M.Stands.tie p).lists = ap (λ y. (g.M.Stands.tie y).lists) payload
    ∙ lists_with g.row.M.Denot g.M.Stands.ready_at g.M.Stands.tie g.M.Carrier.lists g.M.Carrier.seat g.M.Carrier.with_seat
    g.met.M.Carrier.tied g.met.M.Carrier.seat_is g.met.M.Carrier.seat_ready p None in
    let again : seat_in (Some r) ≡ seat_done (seat_in (Some c.take_seat_of-badge.result)) o =
    seat_again c.take_seat_of-badge.result r c.into_seat-run.result.table_id c.into_seat-run.result.id m0.0 o e.0 e.1 e.2
    (c.into_badge.ensures.0 ∙ f.own.0) (c.into_badge.ensures.1 ∙ f.own.1) views in
    let seat : seat_in (Some r) ≡ seat_done (g.M.Stands.tie p).seat o =
    again ∙ ap (λ s. seat_done s o) (ap seat_in (sym c.take_seat_of-badge.ensures.seat)
    ∙ sym (ap (λ (t : Tie). t.seat) (g.met.M.Carrier.tied p))) in
    ap g.M.Stands.tie c.put_seat.ensures
    ∙ (tie_with g.row.M.Denot g.M.Stands.ready_at g.M.Stands.tie g.M.Carrier.lists g.M.Carrier.seat g.M.Carrier.with_seat
    g.met.M.Carrier.tied g.met.M.Carrier.seat_is g.met.M.Carrier.seat_ready x r
    ∙ ap₂ (λ l s. let w : Tie = record { lists = l; seat = s } in w) lists seat)

pub returns-clause-whole : goal.returns-clause-whole
returns-clause-whole g c = λ tree h.
    (let p = c.args.token.now.payload in
    let x = c.access_for-done.new.token.payload in
    let r : RunSeat = record { badge = c.into_badge.result; of_instance = _ } in
    let payload : x ≡ g.M.Carrier.with_seat p None = ap (λ (t : FrameToken g.row.M.Denot). t.payload) c.access_for-done.ensures.token
    ∙ c.take_seat_of-badge.ensures.payload in
    subst (λ y. g.M.Stands.whole tree y) (sym c.put_seat.ensures) (g.met.M.Carrier.seat_whole tree x (Some r)
    (subst (λ y. g.M.Stands.whole tree y) (sym payload) (g.met.M.Carrier.seat_whole tree p None h))))

pub returns-clause-ready : goal.returns-clause-ready
returns-clause-ready g c = λ tree input i before h.
    (let p = c.args.token.now.payload in
    let x = c.access_for-done.new.token.payload in
    let r : RunSeat = record { badge = c.into_badge.result; of_instance = _ } in
    let payload : x ≡ g.M.Carrier.with_seat p None = ap (λ (t : FrameToken g.row.M.Denot). t.payload) c.access_for-done.ensures.token
    ∙ c.take_seat_of-badge.ensures.payload in
    subst (λ y. g.M.Stands.ready_at tree input y i before) (sym c.put_seat.ensures)
    (g.met.M.Carrier.seat_ready tree input x (Some r) i before
    (subst (λ y. g.M.Stands.ready_at tree input y i before) (sym payload) (g.met.M.Carrier.seat_ready tree input p None i before h))))
