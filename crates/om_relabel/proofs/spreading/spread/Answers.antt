-- Labels at equal distances of at least 2.
use Rattle.std.proofs.Common.{◌≡◌, ℕ, ◌+◌, ◌*◌, ◌/◌, ◌^◌, ap, ◌∙◌, arith}
use Rattle.om_relabel.specs.Ranges.{spread_label}
use Rattle.om_relabel.specs.declared.label_range.LabelRange.{LabelRange}
use Rattle.om_relabel.proofs.SparseRanges.{spread_apart, spread_end}
use Rattle.om_relabel.proofs.spreading.spread.Goals as goal

-- the label, as the code computes it
computed : (range : LabelRange) (k a b w : ℕ) → a ≡ k → b ≡ range.count → w ≡ 2 ^ range.bits
    → range.low + a * (w / b) ≡ spread_label range k
computed range k a b w ak bc width =
    ap (λ n. range.low + n * (w / b)) ak
    ∙ (ap (λ n. range.low + k * (n / b)) width ∙ ap (λ n. range.low + k * (2 ^ range.bits / n)) bc)

pub returns-clause-end : goal.returns-clause-end
returns-clause-end c =
    let e = computed c.args.range.now c.args.k c.from.result c.from-2.result c.width.result c.from.ensures c.from-2.ensures c.width.ensures
    in
    let end = spread_end c.args.range.now c.requires.positive_bits c.requires.sparse c.args.k c.requires.there in
    omega (arith, e, end)

pub returns-clause-apart : goal.returns-clause-apart
returns-clause-apart c = λ j l.
    let e = computed c.args.range.now c.args.k c.from.result c.from-2.result c.width.result c.from.ensures c.from-2.ensures c.width.ensures
    in
    let apart = spread_apart c.args.range.now c.requires.positive_bits c.requires.sparse j c.args.k l c.requires.there in
    omega (arith, e, apart)
