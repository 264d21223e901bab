-- The element is in the chosen range, after each of whose elements a label is then free.
use Rattle.std.proofs.Common.{ap, arith}
use Rattle.std.specs.Vec.{vec_items}
use Rattle.om_list.proofs.ChosenLabels.{IsSmallestSparse, chosen_has, chosen_top, is_relabelled}
use Rattle.om_shared.proofs.Relabelling.{ready}
use Rattle.om_shared.proofs.insertion.relabel_around.Goals as goal

pub move_labels-requires-clause-top : goal.move_labels-requires-clause-top
move_labels-requires-clause-top c =
    let k = c.requires.resting.kept in
    let count = k.count in
    let range = c.choose_range-range.ensures in
    chosen_top c.args.links.now k.labelled c.args.x (omega (arith, c.requires.there, count)) _ _ range.low range.bounded_bits

pub relabel-requires-clause-top : goal.relabel-requires-clause-top
relabel-requires-clause-top c =
    let k = c.requires.resting.kept in
    let count = k.count in
    let range = c.choose_range-range.ensures in
    chosen_top c.args.links.now k.labelled c.args.x (omega (arith, c.requires.there, count)) _ _ range.low range.bounded_bits

pub returns-clause-ready : goal.returns-clause-ready
returns-clause-ready c =
    let e = c.relabel.ensures in
    ready _ _ _ c.args.links.now c.relabel.new.links c.choose_range-range.result c.args.seat.now.me c.move_labels.new.seat.me
    c.choose_range-range.ensures.count c.requires.resting c.move_labels.ensures.log c.move_labels.ensures.moved
    record { spread = e.spread; others = e.others } (ap vec_items e.next) e.long e.labelled

pub returns-clause-free : goal.returns-clause-free
returns-clause-free c =
    let k = c.requires.resting.kept in
    let count = k.count in
    let range = c.choose_range-range in
    c.relabel.ensures.free c.args.x
    (chosen_has c.args.links.now k.labelled c.args.x (omega (arith, c.requires.there, count)) range.result range.ensures.low)

pub returns-clause-relabelled : goal.returns-clause-relabelled
returns-clause-relabelled c =
    let e = c.choose_range-range.ensures in
    let f = c.relabel.ensures in
    let range = c.choose_range-range.result in
    let smallest : IsSmallestSparse c.args.links.now c.args.x range = record {
      some = e.positive_bits;
      bounded = e.bounded_bits;
      low = e.low;
      count = e.count;
      sparse = e.sparse;
      least = e.least;
    } in
    is_relabelled c.args.links.now c.relabel.new.links c.args.x range smallest
    record { spread = f.spread; others = f.others } f.long
