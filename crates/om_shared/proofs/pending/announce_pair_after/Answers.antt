-- The two insertions are the last entries of the log.
use Rattle.std.proofs.Common.{◌≡◌, ℕ, ◌+◌, ◌++◌, ◌∷◌, [], ◌∙◌, List, length, length-append, append_assoc, ap, sym, arith}
use Rattle.om_shared.proofs.PendingEntries.{more_pending}
use Rattle.om_shared.specs.Steps.{with_entries}
use Rattle.om_shared.proofs.WriterSteps.{announces_pair, element_at, pair_is_log}
use Rattle.om_shared.proofs.pending.announce_pair_after.Goals as goal

-- two pushes
pushed_pair : (old between new : List ℕ) (x y z : ℕ) → y ≡ z → between ≡ old ++ x ∷ [] → new ≡ between ++ y ∷ []
    → new ≡ old ++ x ∷ z ∷ []
pushed_pair old between new x y z e a b = b ∙ (ap (λ (xs : List ℕ). xs ++ y ∷ []) a
    ∙ (append_assoc old (x ∷ []) (y ∷ []) ∙ ap (λ (k : ℕ). old ++ x ∷ k ∷ []) e))

pub load-requires : goal.load-requires
load-requires c =
    let r = c.requires in
    let e = c.odd_sequence-moving.ensures in
    let b = e.moving in
    let words = b.seat.words_are in
    let long = ap (length {A = ℕ}) e.log in
    let there = r.there in
    let room = r.room in
    let odd = b.fits.0 in (
      e.own ∙ r.own,
      omega (arith, words, there, room),
      announces_pair c.args.words.now.key _ _ c.odd_sequence-moving.new.seat.me c.args.x c.odd_sequence-moving.result b.labels
          b.seat.role odd (omega (arith, there, long)) (omega (arith, room, long)),
    )

pub returns-clause-pending : goal.returns-clause-pending
returns-clause-pending c =
    let e = c.odd_sequence-moving.ensures in
    let b = e.moving in
    let parts = ap (length {A = ℕ}) b.log ∙ length-append b.done c.as_slice.result.now in
    let long = ap (length {A = ℕ}) e.log in
    let count = b.kept.count in
    let labels = c.len.ensures in
    let pending = c.len-2.ensures in
    let slice = c.as_slice.ensures.len in
    let number : c.len.result + c.len-2.result ≡ 1 + length c.args.seat.now.me.0.log =
    omega (arith, parts, count, labels, pending, slice, long) in
    pushed_pair c.args.pending.now.items c.push_reserved.new.self.items c.push_reserved-2.new.self.items c.args.x _ _ number
    c.push_reserved.ensures.items c.push_reserved-2.ensures.items

pub returns-clause-moving : goal.returns-clause-moving
returns-clause-moving c =
    let r = c.requires in
    let e = c.odd_sequence-moving.ensures in
    let b = e.moving in
    let parts = ap (length {A = ℕ}) b.log ∙ length-append b.done c.as_slice.result.now in
    let long = ap (length {A = ℕ}) e.log in
    let there = r.there in
    let room = r.room in
    let count = b.kept.count in
    let labels = c.len.ensures in
    let pending = c.len-2.ensures in
    let slice = c.as_slice.ensures.len in
    let number : c.len.result + c.len-2.result ≡ 1 + length c.odd_sequence-moving.new.seat.me.0.log =
    omega (arith, parts, count, labels, pending, slice) in
    more_pending _ _ _ (c.args.x ∷ (1 + length c.odd_sequence-moving.new.seat.me.0.log) ∷ []) c.args.links.now c.as_slice.result.now
    c.push_reserved-2.new.self.items c.odd_sequence-moving.new.seat.me c.load.new.seat.me
    (pair_is_log c.odd_sequence-moving.new.seat.me.0.log c.args.x (omega (arith, there, long))) (omega (arith, room, long))
    (pushed_pair c.as_slice.result.now c.push_reserved.new.self.items c.push_reserved-2.new.self.items c.args.x _ _ number
    (c.push_reserved.ensures.items ∙ ap (λ (xs : List ℕ). xs ++ c.args.x ∷ []) (sym c.as_slice.ensures.value))
    c.push_reserved-2.ensures.items)
    (c.load.ensures.2 ∙ ap (λ (y : ℕ). (
      with_entries (y ∷ (1 + length c.odd_sequence-moving.new.seat.me.0.log) ∷ [])
          c.odd_sequence-moving.new.seat.me.0.role c.odd_sequence-moving.new.seat.me.0,
      c.odd_sequence-moving.new.seat.me.1,
    ))
    (element_at c.args.x)) e.moving
