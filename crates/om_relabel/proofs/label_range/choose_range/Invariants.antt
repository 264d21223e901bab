-- The stretch is within the range of 2^bits labels, and no range so far was sparse.
use Rattle.std.proofs.Common.{◌≡◌, ℕ, ◌+◌, ◌-◌, ◌^◌, ◌<◌, ◌≤◌}
use Rattle.om_relabel.specs.declared.links.TheConstants.{LABEL_BITS}
use Rattle.om_relabel.specs.LabelledLinks.{label_of}
use Rattle.om_relabel.specs.Ranges.{IsSparse, aligned}
use Rattle.om_relabel.specs.Stretches.{IsStretch}
use Rattle.om_relabel.proofs.label_range.choose_range.Given as goal

abbrev pub invariant-loop-stretch : goal.invariant-loop-stretch
invariant-loop-stretch l = record {
  label : l.label ≡ label_of l.links l.x;
  bounded : l.bits < LABEL_BITS;
  stretch : IsStretch l.links l.stretch.first l.stretch.last l.stretch.count;
  low : aligned l.label l.bits ≤ label_of l.links l.stretch.first;
  end : label_of l.links l.stretch.last < aligned l.label l.bits + 2 ^ l.bits;
  dense : (k : ℕ) → 1 ≤ k → k ≤ l.bits → ¬ IsSparse l.links l.x k;
}

abbrev pub decreases-loop-stretch : goal.decreases-loop-stretch
decreases-loop-stretch l = LABEL_BITS - l.bits
