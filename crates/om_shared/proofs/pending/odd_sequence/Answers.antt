-- Labels move from the first pending insertion on.
use Rattle.std.proofs.Common.{◌∙◌, sym, arith, eqb-true}
use Rattle.std.proofs.lemmas.List.{nil_from_length}
use Rattle.om_shared.proofs.PendingEntries.{rests_without}
use Rattle.om_shared.proofs.WriterSteps.{starts_moving}
use Rattle.om_shared.proofs.pending.odd_sequence.Goals as goal

pub store-requires : goal.store-requires
store-requires c =
    let b = c.requires.between in
    let words = b.seat.words_are in
    let none = nil_from_length c.args.pending.now (eqb-true _ 0 (sym c.is_empty.ensures ∙ c.if-not-is_empty.false)) in
    let r = rests_without _ _ _ _ c.args.pending.now c.args.seat.now.me none b in
    (c.requires.own, omega (arith, words), starts_moving c.args.words.now.key _ _ _ c.args.sequence r.labels r.seat.role)
