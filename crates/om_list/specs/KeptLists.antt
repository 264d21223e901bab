-- What an order-maintenance list keeps.
use Rattle.std.specs.Prelude.{◌≡◌, ℕ, ◌+◌, ◌<◌, ◌≤◌, List, [], ◌∷◌, ◌++◌, ◌==◌, if◌then◌else◌, length, slice_index, slice_set}
use Rattle.pipe_model.specs.Orders.OrderList.{IsLog, list_of_log}
use Rattle.om_relabel.specs.declared.links.Links.{Links}
use Rattle.om_relabel.specs.declared.links.TheConstants.{END, MOST_ELEMENTS}
use Rattle.om_relabel.specs.LabelledLinks.{AreLabelled, elements}

-- the links lead along the list of the log, and the labels rise
pub record IsKept (links : Links) (log : List ℕ) : Type 0 where
  pub valid : IsLog 1 log
  pub count : length links.label.items ≡ length log + 1
  pub list : elements links ≡ list_of_log log
  pub labelled : AreLabelled links

-- an insertion allocates nothing, as long as there are fewer elements than the capacity
pub record HasRoom (capacity entries next prev label log : ℕ) : Type 0 where
  pub below : entries < capacity
  pub most : capacity ≤ MOST_ELEMENTS
  pub next_room : capacity ≤ next
  pub prev_room : capacity ≤ prev
  pub label_room : capacity ≤ label
  pub log_room : capacity ≤ log

-- the links with a new element after x
abbrev pub links_with : List ℕ → ℕ → List ℕ
links_with next x = slice_set next x (length next) ++ slice_index next x ∷ []

-- the links back with a new element between x and `after`
abbrev pub links_back : List ℕ → ℕ → ℕ → List ℕ
links_back prev x after = (if after == END then prev else slice_set prev after (length prev)) ++ x ∷ []
