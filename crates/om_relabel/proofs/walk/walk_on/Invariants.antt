-- The elements after the first up to the current one are those that were counted.
use Rattle.std.proofs.Common.{◌≡◌, ◌+◌, ◌-◌, ◌<◌, ◌≤◌, length}
use Rattle.om_relabel.specs.LabelledLinks.{label_of}
use Rattle.om_relabel.specs.Ranges.{count_within}
use Rattle.om_relabel.proofs.walk.walk_on.Given as goal

abbrev pub invariant-loop-element : goal.invariant-loop-element
invariant-loop-element l = record {
  there : l.element < length l.links.label.items;
  below : label_of l.links l.element < l.end;
  on : label_of l.links l.from ≤ label_of l.links l.element;
  steps : l.steps ≡ count_within l.links (label_of l.links l.from + 1) (label_of l.links l.element + 1);
}

abbrev pub decreases-loop-element : goal.decreases-loop-element
decreases-loop-element l = l.end - label_of l.links l.element
