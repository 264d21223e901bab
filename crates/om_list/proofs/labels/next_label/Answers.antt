-- A link that is not END leads to an element.
use Rattle.std.proofs.Common.{◌≢◌, slice_index, sym, ap, ◌∙◌, arith}
use Rattle.std.proofs.lemmas.Grind.{get_or_default_zero}
use Rattle.om_relabel.specs.declared.links.TheConstants.{END}
use Rattle.om_relabel.proofs.SpreadLabels.{label_of_link}
use Rattle.om_list.proofs.Insertions.{link_below}
use Rattle.om_list.proofs.labels.next_label.Goals as goal

pub index-requires : goal.index-requires
index-requires c =
    let links = c.args.links.now in
    let same = c.requires.labelled.same in
    let link = c.index-after.ensures ∙ get_or_default_zero links.next.items c.args.x c.index-after.result.now
    (omega (arith, c.requires.there, same)) in
    let below = link_below links c.requires.labelled c.args.x c.requires.there (λ q. c.if-after.false (link ∙ q)) in
    omega (arith, below, link)

pub returns : goal.returns
returns c =
    let links = c.args.links.now in
    let same = c.requires.labelled.same in
    let link = c.index-after.ensures ∙ get_or_default_zero links.next.items c.args.x c.index-after.result.now
    (omega (arith, c.requires.there, same)) in
    let apart : slice_index links.next.items c.args.x ≢ END = λ q. c.if-after.false (link ∙ q) in
    let below = link_below links c.requires.labelled c.args.x c.requires.there apart in
    let at = c.index.ensures ∙ get_or_default_zero links.label.items c.index-after.result.now c.index.result.now
    (omega (arith, below, link)) in
    at ∙ (ap (λ u. slice_index links.label.items u) link
    ∙ sym (label_of_link links.label.items (slice_index links.next.items c.args.x) apart))
