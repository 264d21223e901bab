use Rattle.std.proofs.Common.{◌≡◌, ◌+◌, ◌%◌, ◌/◌, ◌∙◌, false, subst, sym, ap, [], ◌∷◌, refl, Some, inl, inr, ⊎_elim}
use Rattle.pipe_frame.specs.Ties.{AreSeenLists, HallName}
use Rattle.hall_table.specs.SeatViews.{SeatView, TheShard}
use Rattle.hall_table.specs.SeatAccesses.{MadeBy}
use Rattle.hall_table.specs.HallRule.{view_of}
use Rattle.hall_table.specs.WorkerSeats.{name_of}
use Rattle.hall_table.specs.Steps.{ShardSnapshot, ViewAndSlots, after_shard, after_log}
use Rattle.hall_calls.proofs.InstanceAccesses.{can_begin_in, same_lists, either_made, run_done, trace_done}
use Rattle.hall_calls.proofs.InstanceAccesses.{holds_only, in_slot, lent_shard, shard_is, shard_there}
use Rattle.hall_shards.specs.ShardValues.{ShardValue, history_at}
use Rattle.access_history.specs.KnownOrder.{may_ask}
use Rattle.hall_calls.proofs.instance.access_by.Goals as goal

pub slot_mut-slot-requires : goal.slot_mut-slot-requires
slot_mut-slot-requires g c =
    let t = c.take_shard_of-asks.ensures.taken in (
      c.take_shard_of-asks.ensures.own.0 ∙ c.requires.own,
      shard_there (1 + c.args.cell.0 % 16) c.requires.runs.1.slots t.1,
    )

pub shard_mut-lent-requires : goal.shard_mut-lent-requires
shard_mut-lent-requires g c = let t = c.take_shard_of-asks.ensures.taken in record {
  there = (
    t.0,
    lent_shard (1 + c.args.cell.0 % 16) c.requires.runs.1.slots t.1 c.slot_mut-slot.result.now c.slot_mut-slot.ensures.value,
  );
}

pub access-done-requires-clause-asks : goal.access-done-requires-clause-asks
access-done-requires-clause-asks g c =
    let r = c.requires.runs.1 in
    let t = c.take_shard_of-asks.ensures.taken in
    let same = shard_is (1 + c.args.cell.0 % 16) r.slots t.1 c.slot_mut-slot.ensures.value c.shard_mut-lent.ensures.value in
    λ e. subst (λ (z : ShardValue). may_ask (Some c.args.joined) c.args.who.node (history_at z.histories (c.args.cell.0 / 16)) ≡ false)
    (sym same) (t.3 e)

pub access-done-requires-clause-ready : goal.access-done-requires-clause-ready
access-done-requires-clause-ready g c =
    let r = c.requires.runs.1 in
    let t = c.take_shard_of-asks.ensures.taken in
    let same = shard_is (1 + c.args.cell.0 % 16) r.slots t.1 c.slot_mut-slot.ensures.value c.shard_mut-lent.ensures.value in
    can_begin_in c.args.run.now.table_id c.args.run.now.me.0.it t.0 c.shard_mut-lent.result.now c.args.cell.0
    r.constants t.2 r.knows c.requires.cell same

pub access-done-requires-clause-lists : goal.access-done-requires-clause-lists
access-done-requires-clause-lists g c =
    let r = c.requires.runs.1 in
    let z = c.args.run.now.table_id in
    let v = c.args.run.now.me.0.it in
    let x = c.shard_mut-lent.result.now in
    let i = 1 + c.args.cell.0 % 16 in
    let t = c.take_shard_of-asks.ensures.taken in
    let same = shard_is i r.slots t.1 c.slot_mut-slot.ensures.value c.shard_mut-lent.ensures.value in
    let snapshot = subst (ShardSnapshot v i) (sym same) t.2 in
    same_lists v i x r.constants c.args.passes.now snapshot r.knows
    (subst (λ (x : HallName). AreSeenLists (Some c.args.passes.now) x.lists.down x.lists.right) (ap (name_of z) r.knows) c.requires.lists)

pub return_shard-requires-clause-made : goal.return_shard-requires-clause-made
return_shard-requires-clause-made g c =
    let q = c.requires.runs in
    let r = q.1 in
    let n = c.take_shard_of-asks.new.run.me in
    let i = 1 + c.args.cell.0 % 16 in
    let t = c.take_shard_of-asks.ensures.taken in
    let x = c.shard_mut-lent.result.now in
    let y = c.access-done.new.self in
    let same = shard_is i r.slots t.1 c.slot_mut-slot.ensures.value c.shard_mut-lent.ensures.value in
    let e = c.access-done.ensures in
    let run_is : n.0.it.run ≡ Some r.run_data = ap (λ (k : ViewAndSlots g.row.M.Denot). k.0.it.run) t.1 ∙ r.run_is in (
      x,
      y,
      in_slot i r.slots t.1 y,
      holds_only i r.slots t.1 r.held ∙ ap (λ (z : ShardValue). (i, TheShard z) ∷ []) (sym same),
      ⊎_elim (λ (s : y ≡ x). inl s)
          (λ (s : MadeBy r.run_data (c.args.cell.0 % 16) x y). inr (r.run_data, run_is, s))
          (either_made c.args.who q.0 q.2 c.args.now c.args.joined c.args.cell.0 q.3 q.4 c.args.write x y
          c.args.trace.now c.access-done.new.trace c.access-done.result r.run_data r.fields e.none e.made),
    )

pub returns-clause-ran : goal.returns-clause-ran
returns-clause-ran g c =
    let q = c.requires.runs in
    let r = q.1 in
    let m = c.args.run.now.me in
    let n = c.take_shard_of-asks.new.run.me in
    let i = 1 + c.args.cell.0 % 16 in
    let k = c.take_shard_of-asks.ensures.taken in
    let x = c.shard_mut-lent.result.now in
    let y = c.access-done.new.self in
    let same = shard_is i r.slots k.1 c.slot_mut-slot.ensures.value c.shard_mut-lent.ensures.value in
    let e = c.access-done.ensures in
    let t = k.1 in
    let held = holds_only i r.slots k.1 r.held ∙ ap (λ (z : ShardValue). (i, TheShard z) ∷ []) (sym same) in
    let given = c.return_shard.ensures.given x y held (in_slot i r.slots k.1 y) in
    let v = m.0.it in
    let w : SeatView = after_shard n.0.it x y in
    given ∙ ap (λ (u : SeatView). (view_of u, [])) (run_done c.args.who q.0 q.2 c.args.now c.args.joined c.args.cell.0 q.3 q.4 c.args.write
    x y c.args.trace.now c.access-done.new.trace c.access-done.result v w refl
    (ap (λ (k : ViewAndSlots g.row.M.Denot). k.0.it.constants) t) (ap (λ (k : ViewAndSlots g.row.M.Denot). k.0.it.seen) t)
    (ap (λ (k : ViewAndSlots g.row.M.Denot). k.0.it.met) t) (ap (λ (k : ViewAndSlots g.row.M.Denot). k.0.it.tokens) t) r.held
    (ap (λ (k : ViewAndSlots g.row.M.Denot). after_log k.0.it.run x.log y.log) t) e.none e.made)

pub returns-clause-trace : goal.returns-clause-trace
returns-clause-trace g c =
    let q = c.requires.runs in
    let e = c.access-done.ensures in
    trace_done c.args.who q.0 q.2 c.args.now c.args.joined c.args.cell.0 q.3 q.4 c.args.write c.shard_mut-lent.result.now
    c.access-done.new.self c.args.trace.now c.access-done.new.trace c.access-done.result e.none e.made
