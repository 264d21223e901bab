-- Each range is within the next, and the range of all labels is sparse.
use Rattle.std.proofs.Common.{◌≡◌, ℕ, ◌+◌, ◌<◌, length, ap, ◌∙◌, subst, arith, inl, inr}
use Rattle.std.proofs.lemmas.Bool.{cases_lt}
use Rattle.std.proofs.lemmas.Grind.{get_or_default_zero}
use Rattle.om_relabel.specs.declared.links.TheConstants.{LABEL_BITS}
use Rattle.om_relabel.specs.LabelledLinks.{elements, label_of}
use Rattle.om_relabel.specs.Links.{first_of}
use Rattle.om_relabel.specs.Ranges.{IsSparse, aligned, elements_within, most_in}
use Rattle.om_relabel.proofs.SparseRanges.{aligned_fits, aligned_grows, aligned_zero, all_sparse}
use Rattle.om_relabel.proofs.Stretches.{around_count, range_count, range_first, single}
use Rattle.om_relabel.proofs.Walks.{count_few, label_below}
use Rattle.om_relabel.proofs.label_range.choose_range.Goals as goal

pub loop-stretch-init : goal.loop-stretch-init
loop-stretch-init c =
    let links = c.args.links.now in
    let label = c.index-label.ensures ∙ get_or_default_zero links.label.items c.args.x c.index-label.result.now c.requires.there in
    let zero_bits = aligned_zero c.index-label.result.now in
    record {
      label = label;
      bounded = omega arith;
      stretch = single links c.requires.labelled c.args.x c.requires.there;
      low = omega (arith, zero_bits, label);
      end = omega (arith, zero_bits, label);
      dense = λ k some bounded. absurd (omega (arith, some, bounded));
    }

pub overflow_add-low : goal.overflow_add-low
overflow_add-low c =
    let below = label_below c.args.links.now c.requires.labelled c.args.x c.requires.there in
    let label = c.loop-stretch.invariant.label in
    let bounded = c.loop-stretch.invariant.bounded in
    let fits = aligned_fits c.index-label.result.now (c.loop-stretch.bits + 1) (omega (arith, below, label)) (omega (arith, bounded)) in
    omega (arith, fits, c.aligned_low-low.ensures, c.width.ensures)

pub extended-stretch-requires-clause-low : goal.extended-stretch-requires-clause-low
extended-stretch-requires-clause-low c =
    let grows = aligned_grows c.index-label.result.now c.loop-stretch.bits in
    let low = c.loop-stretch.invariant.low in
    omega (arith, grows.0, low, c.aligned_low-low.ensures)

pub extended-stretch-requires-clause-end : goal.extended-stretch-requires-clause-end
extended-stretch-requires-clause-end c =
    let grows = aligned_grows c.index-label.result.now c.loop-stretch.bits in
    let end = c.loop-stretch.invariant.end in
    omega (arith, grows.1, end, c.aligned_low-low.ensures, c.width.ensures)

pub extended-stretch-requires-clause-top : goal.extended-stretch-requires-clause-top
extended-stretch-requires-clause-top c =
    let below = label_below c.args.links.now c.requires.labelled c.args.x c.requires.there in
    let label = c.loop-stretch.invariant.label in
    let bounded = c.loop-stretch.invariant.bounded in
    let fits = aligned_fits c.index-label.result.now (c.loop-stretch.bits + 1) (omega (arith, below, label)) (omega (arith, bounded)) in
    omega (arith, fits, c.aligned_low-low.ensures, c.width.ensures)

pub returns-then-from-most_elements-clause-first : goal.returns-then-from-most_elements-clause-first
returns-then-from-most_elements-clause-first c =
    let links = c.args.links.now in
    let s = c.extended-stretch.ensures in
    range_first links c.requires.labelled s.stretch c.aligned_low-low.result (c.aligned_low-low.result + c.width.result) s.low s.end
    s.before
    ∙ ap (λ w. first_of (elements_within (label_of links) c.aligned_low-low.result (c.aligned_low-low.result + w) (elements links)))
    c.width.ensures

pub returns-then-from-most_elements-clause-count : goal.returns-then-from-most_elements-clause-count
returns-then-from-most_elements-clause-count c =
    let links = c.args.links.now in
    let s = c.extended-stretch.ensures in
    range_count links s.stretch c.aligned_low-low.result (c.aligned_low-low.result + c.width.result) s.low s.end s.before s.after
    ∙ ap (λ w. length (elements_within (label_of links) c.aligned_low-low.result (c.aligned_low-low.result + w) (elements links)))
    c.width.ensures

pub loop-stretch-preserved : goal.loop-stretch-preserved
loop-stretch-preserved c =
    let links = c.args.links.now in
    let s = c.extended-stretch.ensures in
    let bits : ℕ = c.loop-stretch.bits + 1 in
    let label = c.loop-stretch.invariant.label in
    let low_is = c.aligned_low-low.ensures in
    let width_is = c.width.ensures in
    let s_low = s.low in
    let s_end = s.end in
    let many : most_in bits < c.extended-stretch.result.count =
    omega (arith, c.if-from-most_elements.false, c.from.ensures, c.most_elements.ensures) in
    record {
      label = label;
      bounded = elim (cases_lt bits LABEL_BITS) [
        | inl less ↦ less
        | inr wide ↦ (
            let count_is = s.stretch.count_is in
            let bounded = count_few links c.requires.labelled (label_of links c.extended-stretch.result.first)
            (label_of links c.extended-stretch.result.last + 1) in
            let sparse = all_sparse bits c.extended-stretch.result.count wide (omega (arith, count_is, bounded)) in
            absurd (omega (arith, sparse, many)))
      ];
      stretch = s.stretch;
      low = omega (arith, s_low, low_is);
      end = omega (arith, s_end, low_is, width_is);
      dense = λ k some bounded. elim (cases_lt k bits) [
        | inl less ↦ c.loop-stretch.invariant.dense k some (omega (arith, less))
        | inr last ↦ (
            let same : k ≡ bits = omega (arith, bounded, last) in
            let count = around_count links s.stretch c.args.x bits c.aligned_low-low.result c.width.result
            (low_is ∙ ap (λ n. aligned n bits) label) width_is s_low s_end s.before s.after in
            λ (sparse : IsSparse links c.args.x k).
            let at : IsSparse links c.args.x bits = subst (λ n. IsSparse links c.args.x n) same sparse in
            omega (arith, at, count, many))
      ];
    }
