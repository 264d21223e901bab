-- Labels are stored one after the other, and rise at the end.
use Rattle.std.proofs.Common.{ℕ, ◌∙◌, List, length, ap, sym, subst, arith}
use Rattle.std.proofs.lemmas.Grind.{get_or_default_zero}
use Rattle.om_list.specs.KeptLists.{IsKept}
use Rattle.om_shared.specs.Rule.{RiseAlong}
use Rattle.om_shared.specs.Steps.{SeatState}
use Rattle.om_shared.proofs.NewElements.{stored_rises}
use Rattle.om_shared.proofs.PendingEntries.{all_stored, one_more_stored, rests_labelled}
use Rattle.om_shared.proofs.WriterSteps.{settles, stores_moved}
use Rattle.om_shared.proofs.pending.store_labels.Goals as goal

pub store-requires : goal.store-requires
store-requires c =
    let i = c.loop-x.invariant in
    let words = i.stored.seat.words_are in
    let count = c.requires.kept.count in
    let below = c.requires.below in
    let test = c.loop-x-test.true in (
      i.own ∙ c.requires.own,
      omega (arith, words, count, below, test),
      stores_moved c.args.words.now.key _ _ _ c.loop-x.x _ c.args.sequence i.stored.labels i.stored.seat.role,
    )

pub loop-x-preserved : goal.loop-x-preserved
loop-x-preserved c =
    let i = c.loop-x.invariant in
    let links = c.args.links.now in
    let count = c.requires.kept.count in
    let below = c.requires.below in
    let test = c.loop-x-test.true in
    let e = c.store.ensures in
    record {
      own = e.0 ∙ i.own;
      log = ap (λ (m : SeatState). m.0.log) e.2 ∙ i.log;
      stored = one_more_stored _ _ _ links c.loop-x.x _ c.loop-x.seat.me c.store.new.seat.me (omega (arith, count, below))
          (omega (arith, test))
          (c.index.ensures ∙ get_or_default_zero links.label.items c.loop-x.x c.index.result.now (omega (arith, test))) e.2 i.stored;
    }

pub store-requires-2 : goal.store-requires-2
store-requires-2 c =
    let r = c.requires in
    let i = c.loop-x.invariant in
    let words = i.stored.seat.words_are in
    let bounded = r.bounded in
    let long = ap (length {A = ℕ}) i.log in
    let test = c.loop-x-test.false in
    let agree = all_stored _ _ _ c.args.links.now c.loop-x.x c.loop-x.seat.me (omega (arith, test)) i.stored in
    let up = stored_rises c.args.links.now _ i.stored.labels r.kept agree in (
      i.own ∙ r.own,
      omega (arith, words),
      settles c.args.words.now.key _ _ c.loop-x.seat.me c.args.sequence i.stored.labels i.stored.seat.role
          (omega (arith, bounded, long))
          (subst (λ (l : List ℕ). RiseAlong i.stored.labels l) (sym i.log) up),
    )

pub returns-clause-resting : goal.returns-clause-resting
returns-clause-resting c =
    let r = c.requires in
    let i = c.loop-x.invariant in
    let below = r.below in
    let bounded = r.bounded in
    let long = ap (length {A = ℕ}) i.log in
    let test = c.loop-x-test.false in
    rests_labelled _ _ _ c.args.links.now c.loop-x.x c.loop-x.seat.me c.store-2.new.seat.me (omega (arith, test))
    (subst (IsKept c.args.links.now) (sym i.log) r.kept) (omega (arith, below, long)) r.odd (omega (arith, bounded, long))
    c.store-2.ensures.2 i.stored
