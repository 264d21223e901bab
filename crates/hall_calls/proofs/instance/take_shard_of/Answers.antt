-- Where the lists get labels first, the seat is as before when it takes the shard again.
use Rattle.std.proofs.Common.{◌≡◌, ◌+◌, ◌%◌, ◌/◌, ◌∙◌, ap, subst, sym, true, false, inl, Some}
use Rattle.access_history.specs.KnownOrder.{may_ask}
use Rattle.hall_shards.specs.ShardValues.{ShardValue, history_at}
use Rattle.hall_table.specs.SeatViews.{TheShard}
use Rattle.hall_table.specs.Steps.{ShardSnapshot, ViewAndSlots, having}
use Rattle.hall_calls.proofs.InstanceAccesses.{given_back, holds_only, in_slot, lent_shard, shard_is, shard_there, still_taken}
use Rattle.hall_calls.proofs.instance.take_shard_of.Goals as goal

pub slot_mut-slot-requires : goal.slot_mut-slot-requires
slot_mut-slot-requires g c = (
  c.take_shard.ensures.own.0 ∙ c.requires.own,
  shard_there (1 + c.args.cell.0 % 16) c.requires.runs.1.slots c.take_shard.ensures.taken.1,
)

pub shard_mut-lent-requires : goal.shard_mut-lent-requires
shard_mut-lent-requires g c = record {
  there = (
    c.take_shard.ensures.taken.0,
    lent_shard (1 + c.args.cell.0 % 16) c.requires.runs.1.slots c.take_shard.ensures.taken.1 c.slot_mut-slot.result.now
        c.slot_mut-slot.ensures.value,
  );
}

pub return_shard-requires-clause-made : goal.return_shard-requires-clause-made
return_shard-requires-clause-made g c =
    let i = 1 + c.args.cell.0 % 16 in
    let r = c.requires.runs.1 in
    let t = c.take_shard.ensures.taken in
    let y = c.shard_mut-lent.result.now in (
      t.0,
      y,
      in_slot i r.slots t.1 y,
      holds_only i r.slots t.1 r.held,
      inl (shard_is i r.slots t.1 c.slot_mut-slot.ensures.value c.shard_mut-lent.ensures.value),
    )

pub returns-clause-taken : goal.returns-clause-taken
returns-clause-taken g c =
    let i = 1 + c.args.cell.0 % 16 in
    let r = c.requires.runs.1 in
    let t = c.take_shard.ensures.taken in
    let y = c.shard_mut-lent.result.now in
    let same = shard_is i r.slots t.1 c.slot_mut-slot.ensures.value c.shard_mut-lent.ensures.value in
    let given = c.return_shard.ensures.given t.0 y (holds_only i r.slots t.1 r.held) (in_slot i r.slots t.1 y) in
    let back = c.settle_beside.ensures.unchanged ∙ given_back i r.slots t.1 same r.held given in
    let u = c.take_shard-2.ensures.taken in (
      u.0,
      u.1 ∙ ap (λ (k : ViewAndSlots g.row.M.Denot). having k i (TheShard u.0)) back,
      subst (λ (k : ViewAndSlots g.row.M.Denot). ShardSnapshot k.0.it i u.0) back u.2,
      λ e. absurd (let q : true ≡ false = e in cc),
    )

pub returns-then-not-asks-clause-taken : goal.returns-then-not-asks-clause-taken
returns-then-not-asks-clause-taken g c =
    let i = 1 + c.args.cell.0 % 16 in
    let r = c.requires.runs.1 in
    let t = c.take_shard.ensures.taken in
    let same = shard_is i r.slots t.1 c.slot_mut-slot.ensures.value c.shard_mut-lent.ensures.value in (
      t.0,
      still_taken i r.slots t.1 same,
      t.2,
      λ _. subst (λ (z : ShardValue). may_ask (Some c.args.joined) c.args.who (history_at z.histories (c.args.cell.0 / 16)) ≡ false) same
          (sym c.may_ask-asks.ensures ∙ c.if-not-asks.true),
    )

pub returns-then-has_labels-clause-taken : goal.returns-then-has_labels-clause-taken
returns-then-has_labels-clause-taken g c =
    let i = 1 + c.args.cell.0 % 16 in
    let r = c.requires.runs.1 in
    let t = c.take_shard.ensures.taken in (
      t.0,
      still_taken i r.slots t.1 (shard_is i r.slots t.1 c.slot_mut-slot.ensures.value c.shard_mut-lent.ensures.value),
      t.2,
      λ e. absurd (let q : true ≡ false = e in cc),
    )
