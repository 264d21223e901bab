-- One element more has its new label; at the end all have.
use Rattle.std.proofs.Common.{ℕ, ◌+◌, ◌<◌, ◌≤◌, length, slice_index, sym, ap, ◌∙◌, subst, arith, length-set}
use Rattle.std.proofs.lemmas.Grind.{get_or_default_zero}
use Rattle.std.specs.Vec.{vec_items, vec_len}
use Rattle.om_relabel.specs.LabelledLinks.{label_of}
use Rattle.om_relabel.specs.Links.{label_after}
use Rattle.om_relabel.proofs.SpreadLabels.{IsSparseRange, one_more_spread, range_element, range_next, relabelled, spread_is_free}
use Rattle.om_relabel.proofs.SpreadLabels.{spread_list_rises}
use Rattle.om_relabel.proofs.spreading.relabel.Goals as goal

pub index_mut-requires : goal.index_mut-requires
index_mut-requires c =
    let r = c.requires in
    let range : IsSparseRange c.args.links.now c.args.range.now =
    record { first = r.first; count = r.count; positive_bits = r.positive_bits; sparse = r.sparse; top = r.top } in
    let inside = range_element c.args.links.now r.labelled c.args.range.now range c.loop-k.k c.loop-k-test.true in
    let at = c.loop-k.invariant.element c.loop-k-test.true in
    let long = c.loop-k.invariant.long in
    omega (arith, inside, at, long)

pub index-element-requires : goal.index-element-requires
index-element-requires c =
    let r = c.requires in
    let range : IsSparseRange c.args.links.now c.args.range.now =
    record { first = r.first; count = r.count; positive_bits = r.positive_bits; sparse = r.sparse; top = r.top } in
    let inside = range_element c.args.links.now r.labelled c.args.range.now range c.loop-k.k c.loop-k-test.true in
    let at = c.loop-k.invariant.element c.loop-k-test.true in
    let same = r.labelled.same in
    let long = ap vec_len c.loop-k.invariant.next in
    omega (arith, inside, at, same, long)

pub loop-k-preserved : goal.loop-k-preserved
loop-k-preserved c =
    let r = c.requires in
    let links = c.args.links.now in
    let range : IsSparseRange c.args.links.now c.args.range.now =
    record { first = r.first; count = r.count; positive_bits = r.positive_bits; sparse = r.sparse; top = r.top } in
    let i = c.loop-k.invariant in
    let inside = range_element links r.labelled c.args.range.now range c.loop-k.k c.loop-k-test.true in
    let at = i.element c.loop-k-test.true in
    let same = r.labelled.same in
    let next = ap vec_items i.next in
    let long = i.long in
    let within : c.loop-k.element < length c.loop-k.links.next.items = omega (arith, inside, at, same, ap (length {A = ℕ}) next) in
    let link = c.index-element.ensures ∙ (get_or_default_zero c.loop-k.links.next.items c.loop-k.element c.index-element.result.now within
    ∙ (ap (λ ns. slice_index ns c.loop-k.element) next ∙ ap (λ n. slice_index links.next.items n) at)) in
    let one = one_more_spread links r.labelled c.args.range.now range c.loop-k.links.label.items
    (omega (arith, long)) c.loop-k.k c.loop-k.element c.spread.result
    c.loop-k-test.true at c.spread.ensures.label record { spread = i.spread; others = i.others } in
    record {
      element = λ m. link ∙ range_next links r.labelled c.args.range.now range c.loop-k.k m;
      next = i.next;
      prev = i.prev;
      long = length-set c.loop-k.links.label.items c.loop-k.element c.spread.result ∙ i.long;
      capacity = i.capacity;
      spread = one.spread;
      others = one.others;
    }

pub returns-clause-labelled : goal.returns-clause-labelled
returns-clause-labelled c =
    let r = c.requires in
    let links = c.args.links.now in
    let range : IsSparseRange c.args.links.now c.args.range.now =
    record { first = r.first; count = r.count; positive_bits = r.positive_bits; sparse = r.sparse; top = r.top } in
    let i = c.loop-k.invariant in
    relabelled links c.loop-k.links r.labelled (ap vec_items i.next) (ap vec_items i.prev) i.long
    (spread_list_rises links r.labelled c.args.range.now range (label_of c.loop-k.links)
    record { spread = λ k l. i.spread k (omega (arith, l, c.loop-k-test.false)); others = i.others })

pub returns-clause-free : goal.returns-clause-free
returns-clause-free c = λ x m.
    let r = c.requires in
    let links = c.args.links.now in
    let range : IsSparseRange c.args.links.now c.args.range.now =
    record { first = r.first; count = r.count; positive_bits = r.positive_bits; sparse = r.sparse; top = r.top } in
    let i = c.loop-k.invariant in
    let free = spread_is_free links r.labelled c.loop-k.links.label.items c.args.range.now range
    record { spread = λ k l. i.spread k (omega (arith, l, c.loop-k-test.false)); others = i.others } x m in
    subst (λ ns. label_of c.loop-k.links x + 2 ≤ label_after c.loop-k.links.label.items (slice_index ns x)) (sym (ap vec_items i.next)) free
