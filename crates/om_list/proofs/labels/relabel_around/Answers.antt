-- The element is in the chosen range, after each of whose elements a label is then free.
use Rattle.om_list.proofs.ChosenLabels.{IsSmallestSparse, chosen_has, chosen_top, is_relabelled}
use Rattle.om_list.proofs.labels.relabel_around.Goals as goal

pub relabel-requires-clause-top : goal.relabel-requires-clause-top
relabel-requires-clause-top c =
    let range = c.choose_range-range.ensures in
    chosen_top c.args.links.now c.requires.labelled c.args.x c.requires.there _ _ range.low range.bounded_bits

pub returns-clause-relabelled : goal.returns-clause-relabelled
returns-clause-relabelled c =
    let e = c.choose_range-range.ensures in
    let f = c.relabel.ensures in
    let range = c.choose_range-range.result in
    let smallest : IsSmallestSparse c.args.links.now c.args.x range = record {
      some = e.positive_bits;
      bounded = e.bounded_bits;
      low = e.low;
      count = e.count;
      sparse = e.sparse;
      least = e.least;
    } in
    is_relabelled c.args.links.now c.relabel.new.links c.args.x range smallest
    record { spread = f.spread; others = f.others } f.long

pub returns-clause-free : goal.returns-clause-free
returns-clause-free c =
    let range = c.choose_range-range in
    c.relabel.ensures.free c.args.x
    (chosen_has c.args.links.now c.requires.labelled c.args.x c.requires.there range.result range.ensures.low)
