-- The insertion is the last entry of the log.
use Rattle.std.proofs.Common.{ℕ, ◌++◌, ◌∷◌, [], ◌∙◌, List, length, ap, sym, arith}
use Rattle.om_shared.proofs.PendingEntries.{more_pending}
use Rattle.om_shared.specs.Steps.{with_entry}
use Rattle.om_shared.proofs.WriterSteps.{announces, element_at}
use Rattle.run_laws.proofs.ListOrders.InsertionLists.{entries_insert_elements}
use Rattle.om_shared.proofs.pending.announce_after.Goals as goal

pub load-requires : goal.load-requires
load-requires c =
    let r = c.requires in
    let e = c.odd_sequence-moving.ensures in
    let b = e.moving in
    let words = b.seat.words_are in
    let long = ap (length {A = ℕ}) e.log in
    let there = r.there in
    let room = r.room in
    let odd = b.fits.0 in (
      e.own ∙ r.own,
      omega (arith, words, there, room),
      announces c.args.words.now.key _ _ c.odd_sequence-moving.new.seat.me c.args.x c.odd_sequence-moving.result b.labels
          b.seat.role odd (omega (arith, there, long)) (omega (arith, room, long)),
    )

pub returns-clause-moving : goal.returns-clause-moving
returns-clause-moving c =
    let r = c.requires in
    let e = c.odd_sequence-moving.ensures in
    let long = ap (length {A = ℕ}) e.log in
    let there = r.there in
    let room = r.room in
    more_pending _ _ _ (c.args.x ∷ []) c.args.links.now c.as_slice.result.now c.push_reserved.new.self.items
    c.odd_sequence-moving.new.seat.me c.load.new.seat.me
    (λ v. (entries_insert_elements c.odd_sequence-moving.new.seat.me.0.log c.args.x).names v
    (omega (arith, there, long)))
    (omega (arith, room, long))
    (c.push_reserved.ensures.items ∙ ap (λ (xs : List ℕ). xs ++ c.args.x ∷ []) (sym c.as_slice.ensures.value))
    (c.load.ensures.2 ∙ ap (λ (y : ℕ). (
      with_entry y c.odd_sequence-moving.new.seat.me.0.role c.odd_sequence-moving.new.seat.me.0,
      c.odd_sequence-moving.new.seat.me.1,
    )) (element_at c.args.x)) e.moving
