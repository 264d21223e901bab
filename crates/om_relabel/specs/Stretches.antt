-- Elements that are next to one another in the list.
use Rattle.std.specs.Prelude.{◌≡◌, ℕ, ◌+◌, ◌<◌, ◌≤◌, length}
use Rattle.om_relabel.specs.declared.links.Links.{Links}
use Rattle.om_relabel.specs.LabelledLinks.{label_of}
use Rattle.om_relabel.specs.Ranges.{count_within}

-- from `first` to `last` there are `count` elements
pub record IsStretch (links : Links) (first last count : ℕ) : Type 0 where
  pub first_there : first < length links.label.items
  pub last_there : last < length links.label.items
  pub order : label_of links first ≤ label_of links last
  pub count_is : count ≡ count_within links (label_of links first) (label_of links last + 1)
