use Rattle.std.proofs.Common.{◌≡◌, ◌∙◌, arith, refl, ap, [], ◌∷◌, Some}
use Rattle.pipe_frame.specs.TokenFields.{fields_of}
use Rattle.hall_table.specs.HallRule.{view_of}
use Rattle.hall_table.specs.InstanceSeats.{is_instance_badge}
use Rattle.hall_table.specs.Steps.{ViewAndSlots, after_book, new_instance, run_seat, without_run}
use Rattle.pipe_frame.specs.declared.token.FrameToken.{FrameToken}
use Rattle.hall_table.specs.declared.slot.Slot.TheVariants as slots
use Rattle.hall_table.specs.declared.view.View.{View}
use Rattle.hall_table.proofs.Steps.{splits_instance}
use Rattle.hall_table.proofs.Seating.{is_badge, seated}
use Rattle.hall_table.specs.Openings.{start_in}
use Rattle.hall_table.proofs.locks.Locks.return_book_and_token.Goals as goal

pub return_beside-requires-clause-call : goal.return_beside-requires-clause-call
return_beside-requires-clause-call g c =
    let m = c.args.seat.now.me in
    let r = c.requires.call in (
      c.args.token,
      r.1,
      m.0,
      r.0,
      r.2,
      ap (λ (k : FrameToken g.row.M.Denot). slots.Token k) c.of-witness.ensures,
      ap (λ cs. (m.0, cs)) r.3.slots,
      r.3.held,
      r.3.run,
      r.4,
    )

pub split_seat-run-requires : goal.split_seat-run-requires
split_seat-run-requires g c =
    let w = c.args.self.now.sized.0 in
    let r = c.requires.call in
    let t = c.return_beside.ensures.given c.args.token r.1
    (ap (λ (k : FrameToken g.row.M.Denot). slots.Token k) c.of-witness.ensures) r.3.slots in (
      c.return_beside.ensures.own.0 ∙ c.requires.own,
      omega (arith, w),
      splits_instance g.row.M.Denot (start_in c.args.self.now.table.shared.key) _ c.return_beside.new.seat.me.0
          (new_instance r.1 (fields_of c.args.token)) (ap (λ (k : ViewAndSlots g.row.M.Denot). k.0.it.run) t),
    )

pub invariant_of-put_seat : goal.invariant_of-put_seat
invariant_of-put_seat g c =
    let r = c.requires.call in
    let t = c.return_beside.ensures.given c.args.token r.1
    (ap (λ (k : FrameToken g.row.M.Denot). slots.Token k) c.of-witness.ensures) r.3.slots in
    let v : View = view_of (run_seat (after_book c.args.seat.now.me.0.it r.1
    (Some (new_instance r.1 (fields_of c.args.token))))) in
    let views : c.into_badge.result.views ≡ v ∷ [] = c.into_badge.ensures.2
    ∙ (ap (λ (k : ViewAndSlots g.row.M.Denot). k.0 ∷ []) c.split_seat-run.ensures.4
    ∙ ap (λ (k : ViewAndSlots g.row.M.Denot). view_of (run_seat k.0.it) ∷ []) t) in
    record {
      of_instance = ap is_instance_badge views ∙ is_badge v c.requires.constants.0
          (new_instance r.1 (fields_of c.args.token)) c.requires.constants.1 refl refl;
    }

pub returns-clause-given : goal.returns-clause-given
returns-clause-given g c = λ b slot.
    let t = c.return_beside.ensures.given c.args.token b
    (ap (λ (k : FrameToken g.row.M.Denot). slots.Token k) c.of-witness.ensures) slot in
    c.split_seat-run.ensures.2 ∙ ap (λ (k : ViewAndSlots g.row.M.Denot). (view_of (without_run k.0.it), k.1)) t

pub returns-clause-token : goal.returns-clause-token
returns-clause-token g c = λ b slot.
    let t = c.return_beside.ensures.given c.args.token b
    (ap (λ (k : FrameToken g.row.M.Denot). slots.Token k) c.of-witness.ensures) slot in
    let v : View = view_of (run_seat (after_book c.args.seat.now.me.0.it b
    (Some (new_instance b (fields_of c.args.token))))) in
    let views : c.into_badge.result.views ≡ v ∷ [] = c.into_badge.ensures.2
    ∙ (ap (λ (k : ViewAndSlots g.row.M.Denot). k.0 ∷ []) c.split_seat-run.ensures.4
    ∙ ap (λ (k : ViewAndSlots g.row.M.Denot). view_of (run_seat k.0.it) ∷ []) t) in
    seated g.row.M.Denot g.M.Carrier.with_seat c.args.token c.args.token c.put_seat.new.self _ c.args.seat.now.table_id v
    c.put_seat.ensures refl
    (c.into_badge.ensures.0 ∙ (c.split_seat-run.ensures.3 ∙ c.return_beside.ensures.own.0)) views
