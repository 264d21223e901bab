-- How many elements a longer stretch has, and the elements of a range around one.
use Rattle.std.proofs.Common.{◌≡◌, ℕ, ◌+◌, ◌^◌, ◌<◌, ◌≤◌, length, ap, sym, ◌∙◌, arith}
use Rattle.om_relabel.specs.declared.links.Links.{Links}
use Rattle.om_relabel.specs.LabelledLinks.{AreLabelled, elements, label_of}
use Rattle.om_relabel.specs.Links.{first_of}
use Rattle.om_relabel.specs.Ranges.{aligned, count_within, elements_around, elements_within}
use Rattle.om_relabel.specs.Stretches.{IsStretch}
use Rattle.om_relabel.specs.declared.links.TheConstants.{TOP}
use Rattle.om_relabel.proofs.ElementsWithin.{count_adds, count_here, first_within}

-- with `back` more elements before and `on` more after
pub count_all : (links : Links) {first last count : ℕ} → IsStretch links first last count → (first' last' back on : ℕ)
    → label_of links first' ≤ label_of links first → label_of links last ≤ label_of links last'
    → back ≡ count_within links (label_of links first') (label_of links first)
    → on ≡ count_within links (label_of links last + 1) (label_of links last' + 1)
    → (back + count) + on ≡ count_within links (label_of links first') (label_of links last' + 1)
count_all links {first = first} {last = last} s first' last' back on before after back_is on_is =
    let order = s.order in
    let count_is = s.count_is in
    let left = count_adds (label_of links) (label_of links first') (label_of links first) (label_of links last' + 1) (elements links)
    before (omega (arith, order, after)) in
    let right = count_adds (label_of links) (label_of links first) (label_of links last + 1) (label_of links last' + 1) (elements links)
    (omega (arith, order)) (omega (arith, after)) in
    omega (arith, left, right, count_is, back_is, on_is)

-- one element
pub single : (links : Links) → AreLabelled links → (x : ℕ) → x < length links.label.items → IsStretch links x x 1
single links h x l = record {
  first_there = l;
  last_there = l;
  order = omega arith;
  count_is = sym (count_here (label_of links) 0 TOP (elements links) x h.rises (h.each x l));
}

-- if there are no elements around it, a stretch is all of a range
pub range_count : (links : Links) {first last count : ℕ} → IsStretch links first last count → (low end : ℕ)
    → low ≤ label_of links first → label_of links last < end → count_within links low (label_of links first) ≡ 0
    → count_within links (label_of links last + 1) end ≡ 0 → count ≡ length (elements_within (label_of links) low end (elements links))
range_count links {first = first} {last = last} s low end below above before after =
    let order = s.order in
    let count_is = s.count_is in
    let left = count_adds (label_of links) low (label_of links first) end (elements links) below (omega (arith, order, above)) in
    let right = count_adds (label_of links) (label_of links first) (label_of links last + 1) end (elements links)
    (omega (arith, order)) (omega (arith, above)) in
    omega (arith, left, right, count_is, before, after)

pub range_first : (links : Links) → AreLabelled links → {first last count : ℕ} → IsStretch links first last count → (low end : ℕ)
    → low ≤ label_of links first → label_of links last < end → count_within links low (label_of links first) ≡ 0
    → first ≡ first_of (elements_within (label_of links) low end (elements links))
range_first links h {first = first} s low end below above before =
    let order = s.order in
    sym (first_within (label_of links) low end 0 TOP (elements links) first h.rises (h.each first s.first_there) below
    (omega (arith, order, above)) before)

-- the same for the aligned range of 2^bits labels around x
pub around_count : (links : Links) {first last count : ℕ} → IsStretch links first last count → (x bits low width : ℕ)
    → low ≡ aligned (label_of links x) bits → width ≡ 2 ^ bits
    → low ≤ label_of links first → label_of links last < low + width → count_within links low (label_of links first) ≡ 0
    → count_within links (label_of links last + 1) (low + width) ≡ 0 → count ≡ length (elements_around links x bits)
around_count links s x bits low width low_is width_is below above before after =
    range_count links s low (low + width) below above before after
    ∙ (ap (λ l. length (elements_within (label_of links) l (l + width) (elements links))) low_is
    ∙ ap (λ w. length (elements_within (label_of links) (aligned (label_of links x) bits) (aligned (label_of links x) bits + w)
    (elements links))) width_is)
