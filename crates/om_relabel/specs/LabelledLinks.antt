-- Links and labels of the same elements.
use Rattle.std.specs.Prelude.{◌≡◌, ℕ, ◌<◌, ◌≤◌, List, length, slice_index, true}
use Rattle.pipe_model.specs.Orders.OrderList.{has}
use Rattle.om_relabel.specs.declared.links.Links.{Links}
use Rattle.om_relabel.specs.declared.links.TheConstants.{END, MOST_ELEMENTS, TOP}
use Rattle.om_relabel.specs.Labels.{LabelsRise}
use Rattle.om_relabel.specs.Links.{AreLinked, AreLinkedBack, chain}

-- the elements in the order of the list
abbrev pub elements : Links → List ℕ
elements links = chain links.next.items

abbrev pub label_of : Links → ℕ → ℕ
label_of links x = slice_index links.label.items x

-- the links lead from element 0 to all elements, which are numbered from 0, and back, and the labels rise along them
pub record AreLabelled (links : Links) : Type 0 where
  pub same : length links.next.items ≡ length links.label.items
  pub same_back : length links.prev.items ≡ length links.label.items
  pub some : 0 < length links.label.items
  pub bounded : length links.label.items ≤ MOST_ELEMENTS
  pub each : (x : ℕ) → x < length links.label.items → has x (elements links) ≡ true
  pub only : (x : ℕ) → has x (elements links) ≡ true → x < length links.label.items
  pub linked : AreLinked (λ x. slice_index links.next.items x) (elements links)
  pub back : AreLinkedBack (λ x. slice_index links.prev.items x) END (elements links)
  pub rises : LabelsRise (label_of links) 0 TOP (elements links)
