-- The elements from the current one to the first are those that were counted.
use Rattle.std.proofs.Common.{◌≡◌, ◌<◌, ◌≤◌, length}
use Rattle.om_relabel.specs.LabelledLinks.{label_of}
use Rattle.om_relabel.specs.Ranges.{count_within}
use Rattle.om_relabel.proofs.walk.walk_back.Given as goal

abbrev pub invariant-loop-element : goal.invariant-loop-element
invariant-loop-element l = record {
  there : l.element < length l.links.label.items;
  above : l.low ≤ label_of l.links l.element;
  back : label_of l.links l.element ≤ label_of l.links l.from;
  steps : l.steps ≡ count_within l.links (label_of l.links l.element) (label_of l.links l.from);
}

abbrev pub decreases-loop-element : goal.decreases-loop-element
decreases-loop-element l = label_of l.links l.element
