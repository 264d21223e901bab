-- One step back or on along the list.
use Rattle.std.proofs.Common.{◌≡◌, ◌≢◌, ℕ, zero, suc, ◌+◌, ◌<◌, ◌≤◌, length, slice_index, refl, sym, ◌∙◌, subst, arith, inl, inr}
use Rattle.om_relabel.specs.declared.links.Links.{Links}
use Rattle.om_relabel.specs.declared.links.TheConstants.{END, MOST_ELEMENTS, TOP}
use Rattle.om_relabel.specs.LabelledLinks.{AreLabelled, elements, label_of}
use Rattle.om_relabel.specs.Links.{followed}
use Rattle.om_relabel.specs.Ranges.{count_within}
use Rattle.om_relabel.proofs.ElementsWithin.{after_element, before_element, count_adds, count_here, count_le, count_none}
use Rattle.om_relabel.proofs.RisingLabels.{label_within}

pub length_followed : (next : ℕ → ℕ) (x n : ℕ) → length (followed next x n) ≡ n
length_followed next x zero = refl
length_followed next x (suc n) = let rest = length_followed next (next x) n in omega (arith, rest)

pub element_count : (links : Links) → AreLabelled links → length (elements links) ≡ length links.label.items
element_count links h = length_followed (λ y. slice_index links.next.items y) 0 (length links.next.items) ∙ h.same

pub count_few : (links : Links) → AreLabelled links → (low end : ℕ) → count_within links low end ≤ MOST_ELEMENTS
count_few links h low end =
    let all = count_le (label_of links) low end (elements links) in
    let long = element_count links h in
    let bounded = h.bounded in
    omega (arith, all, long, bounded)

pub label_below : (links : Links) → AreLabelled links → (x : ℕ) → x < length links.label.items → label_of links x < TOP
label_below links h x l = (label_within (label_of links) 0 TOP (elements links) x h.rises (h.each x l)).1

-- ---- back

pub record StepsBack (links : Links) (e b : ℕ) : Type 0 where
  pub there : b < length links.label.items
  pub below : label_of links b < label_of links e
  pub none : count_within links (label_of links b + 1) (label_of links e) ≡ 0
  pub one : count_within links (label_of links b) (label_of links b + 1) ≡ 1

pub steps_back : (links : Links) → AreLabelled links → (e b : ℕ) → e < length links.label.items
    → b ≡ slice_index links.prev.items e → b ≢ END → StepsBack links e b
steps_back links h e b l link apart =
    elim (before_element (label_of links) (λ y. slice_index links.prev.items y) 0 TOP END (elements links) e h.rises h.back (h.each e l)) [
      | inl first ↦ absurd (apart (link ∙ first.link))
      | inr found ↦ subst (StepsBack links e) (sym link) record {
        there = h.only (slice_index links.prev.items e) found.there;
        below = found.below;
        none = found.none;
        one = count_here (label_of links) 0 TOP (elements links) (slice_index links.prev.items e) h.rises found.there;
      }
    ]

pub none_before : (links : Links) → AreLabelled links → (e b : ℕ) → e < length links.label.items
    → b ≡ slice_index links.prev.items e → b ≡ END → (low : ℕ) → count_within links low (label_of links e) ≡ 0
none_before links h e b l link end low =
    elim (before_element (label_of links) (λ y. slice_index links.prev.items y) 0 TOP END (elements links) e h.rises h.back (h.each e l)) [
      | inl first ↦ first.none low
      | inr found ↦ (
          let there = h.only (slice_index links.prev.items e) found.there in
          let bounded = h.bounded in
          absurd (omega (arith, there, bounded, link, end)))
    ]

pub none_from : (links : Links) → AreLabelled links → (e b low : ℕ) → e < length links.label.items
    → b ≡ slice_index links.prev.items e → b ≢ END → label_of links b < low → low ≤ label_of links e
    → count_within links low (label_of links e) ≡ 0
none_from links h e b low l link apart less above =
    let step = steps_back links h e b l link apart in
    let none = step.none in
    let parts = count_adds (label_of links) (label_of links b + 1) low (label_of links e) (elements links) (omega (arith, less)) above in
    omega (arith, none, parts)

pub one_more_back : (links : Links) → AreLabelled links → (e b from steps : ℕ) → StepsBack links e b
    → label_of links e ≤ label_of links from → steps ≡ count_within links (label_of links e) (label_of links from)
    → steps + 1 ≡ count_within links (label_of links b) (label_of links from)
one_more_back links h e b from steps step back so_far =
    let none = step.none in
    let one = step.one in
    let below = step.below in
    let parts = count_adds (label_of links) (label_of links b) (label_of links b + 1) (label_of links from) (elements links)
    (omega arith) (omega (arith, below, back)) in
    let rest = count_adds (label_of links) (label_of links b + 1) (label_of links e) (label_of links from) (elements links)
    (omega (arith, below)) back in
    omega (arith, none, one, parts, rest, so_far)

-- ---- on

pub record StepsOn (links : Links) (e a : ℕ) : Type 0 where
  pub there : a < length links.label.items
  pub above : label_of links e < label_of links a
  pub none : count_within links (label_of links e + 1) (label_of links a) ≡ 0
  pub one : count_within links (label_of links a) (label_of links a + 1) ≡ 1

pub steps_on : (links : Links) → AreLabelled links → (e a : ℕ) → e < length links.label.items
    → a ≡ slice_index links.next.items e → a ≢ END → StepsOn links e a
steps_on links h e a l link apart =
    elim (after_element (label_of links) (λ y. slice_index links.next.items y) 0 TOP (elements links) e h.rises h.linked (h.each e l)) [
      | inl last ↦ absurd (apart (link ∙ last.link))
      | inr found ↦ subst (StepsOn links e) (sym link) record {
        there = h.only (slice_index links.next.items e) found.there;
        above = found.above;
        none = found.none;
        one = count_here (label_of links) 0 TOP (elements links) (slice_index links.next.items e) h.rises found.there;
      }
    ]

pub none_after : (links : Links) → AreLabelled links → (e a : ℕ) → e < length links.label.items
    → a ≡ slice_index links.next.items e → a ≡ END → (end : ℕ) → count_within links (label_of links e + 1) end ≡ 0
none_after links h e a l link is_end end =
    elim (after_element (label_of links) (λ y. slice_index links.next.items y) 0 TOP (elements links) e h.rises h.linked (h.each e l)) [
      | inl last ↦ last.none end
      | inr found ↦ (
          let there = h.only (slice_index links.next.items e) found.there in
          let bounded = h.bounded in
          absurd (omega (arith, there, bounded, link, is_end)))
    ]

pub none_up_to : (links : Links) → AreLabelled links → (e a end : ℕ) → e < length links.label.items
    → a ≡ slice_index links.next.items e → a ≢ END → end ≤ label_of links a → label_of links e < end
    → count_within links (label_of links e + 1) end ≡ 0
none_up_to links h e a end l link apart above less =
    let step = steps_on links h e a l link apart in
    let none = step.none in
    let parts = count_adds (label_of links) (label_of links e + 1) end (label_of links a) (elements links) (omega (arith, less)) above in
    omega (arith, none, parts)

pub one_more_on : (links : Links) → AreLabelled links → (e a from steps : ℕ) → StepsOn links e a
    → label_of links from ≤ label_of links e → steps ≡ count_within links (label_of links from + 1) (label_of links e + 1)
    → steps + 1 ≡ count_within links (label_of links from + 1) (label_of links a + 1)
one_more_on links h e a from steps step on so_far =
    let none = step.none in
    let one = step.one in
    let above = step.above in
    let parts = count_adds (label_of links) (label_of links from + 1) (label_of links e + 1) (label_of links a + 1) (elements links)
    (omega (arith, on)) (omega (arith, above)) in
    let rest = count_adds (label_of links) (label_of links e + 1) (label_of links a) (label_of links a + 1) (elements links)
    (omega (arith, above)) (omega arith) in
    omega (arith, none, one, parts, rest, so_far)

-- a walk that has not begun
pub no_steps : (links : Links) (a : ℕ) → 0 ≡ count_within links a a
no_steps links a = sym (count_none (label_of links) a (elements links))
