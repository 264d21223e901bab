-- The label that an insertion chooses, by links and ranges.
use Rattle.std.proofs.Common.{◌≡◌, ◌≢◌, ℕ, ◌+◌, ◌-◌, ◌*◌, ◌/◌, ◌^◌, ◌<◌, ◌≤◌, List, [], ◌∷◌, ◌++◌, length, slice_index, true, refl, sym, ap}
use Rattle.std.proofs.Common.{◌∙◌, subst, arith, eq-eqb, ne_eqb, inl, inr}
use Rattle.std.proofs.lemmas.Bool.{cases_eq}
use Rattle.pipe_model.specs.Orders.OrderList.{has}
use Rattle.om_relabel.specs.declared.label_range.LabelRange.{LabelRange}
use Rattle.om_relabel.specs.declared.links.Links.{Links}
use Rattle.om_relabel.specs.declared.links.TheConstants.{END, LABEL_BITS, TOP}
use Rattle.om_relabel.specs.LabelledLinks.{AreLabelled, elements, label_of}
use Rattle.om_relabel.specs.Links.{AreLinked, chain, first_of, label_after}
use Rattle.om_relabel.specs.Ranges.{IsSparse, aligned, elements_of, elements_within, most_in}
use Rattle.om_relabel.proofs.ElementsWithin.{has_within}
use Rattle.om_relabel.proofs.RisingLabels.{has_head, has_later}
use Rattle.om_relabel.proofs.SparseRanges.{aligned_fits, aligned_high, aligned_low}
use Rattle.om_relabel.proofs.SpreadLabels.{IsSpread}
use Rattle.om_relabel.proofs.Walks.{label_below}
use Rattle.om_list.specs.ChosenLabels.{HasChosenLabel, HasMadeRoom, IsRelabelled, around, first_label, middle_after, next_label}

-- ---- the label of the next element, by its link

first_by_link : (labels : List ℕ) (u : ℕ) (xs : List ℕ) → u ≡ first_of xs → ((y : ℕ) → has y xs ≡ true → y ≢ END)
    → label_after labels u ≡ first_label xs labels
first_by_link labels u [] is inside = rw (eq-eqb u END is) refl
first_by_link labels u (z ∷ zs) is inside =
    rw (ne_eqb u END (λ q. inside z (has_head z zs) (sym is ∙ q))) (ap (λ y. slice_index labels y) is)

by_link : (next : ℕ → ℕ) (labels xs : List ℕ) (x : ℕ) → ((y : ℕ) → has y xs ≡ true → y ≢ END) → AreLinked next xs
    → has x xs ≡ true → label_after labels (next x) ≡ next_label xs labels x
by_link next labels [] x inside linked h = cc
by_link next labels (z ∷ zs) x inside linked h = elim (cases_eq z x) [
  | inl same ↦ rw (eq-eqb z x same)
      (first_by_link labels (next x) zs (ap next (sym same) ∙ linked.0) (λ y m. inside y (has_later z zs y m)))
  | inr apart ↦ rw (ne_eqb z x apart)
      (by_link next labels zs x (λ y m. inside y (has_later z zs y m)) linked.1 (rw (ne_eqb z x apart) at h))
]

pub next_by_link : (links : Links) → AreLabelled links → (x : ℕ) → x < length links.label.items
    → label_after links.label.items (slice_index links.next.items x) ≡ next_label (elements links) links.label.items x
next_by_link links h x l =
    let bounded = h.bounded in
    by_link (λ y. slice_index links.next.items y) links.label.items (elements links) x
    (λ y m. let below = h.only y m in λ q. omega (arith, q, below, bounded)) h.linked (h.each x l)

-- ---- room for a label

-- a label is free as it is
pub room_is_free : (links : Links) → AreLabelled links → (x : ℕ) → x < length links.label.items
    → label_of links x + 2 ≤ label_after links.label.items (slice_index links.next.items x)
    → HasMadeRoom (elements links) links.label.items x links.label.items
room_is_free links h x l free =
    let next = next_by_link links h x l in
    record {
      free = λ _. refl;
      crowded = λ crowded. absurd (crowded (omega (arith, free, next)));
    }

-- the smallest sparse range was spread
pub record IsSmallestSparse (links : Links) (x : ℕ) (range : LabelRange) : Type 0 where
  pub some : 1 ≤ range.bits
  pub bounded : range.bits ≤ LABEL_BITS
  pub low : range.low ≡ aligned (label_of links x) range.bits
  pub count : range.count ≡ length (elements_of links range)
  pub sparse : range.count ≤ most_in range.bits
  pub least : (bits : ℕ) → 1 ≤ bits → bits < range.bits → ¬ IsSparse links x bits

-- it ends below 2^62
pub chosen_top : (links : Links) → AreLabelled links → (x : ℕ) → x < length links.label.items → (low bits : ℕ)
    → low ≡ aligned (label_of links x) bits → bits ≤ LABEL_BITS → low + 2 ^ bits ≤ TOP
chosen_top links h x l low bits is bounded =
    let fits = aligned_fits (label_of links x) bits (label_below links h x l) bounded in
    omega (arith, fits, is)

-- and has the element
pub chosen_has : (links : Links) → AreLabelled links → (x : ℕ) → x < length links.label.items → (range : LabelRange)
    → range.low ≡ aligned (label_of links x) range.bits → has x (elements_of links range) ≡ true
chosen_has links h x l range low =
    let above = aligned_low (label_of links x) range.bits in
    let below = aligned_high (label_of links x) range.bits in
    has_within (label_of links) range.low (range.low + 2 ^ range.bits) (elements links) x (h.each x l)
    (omega (arith, low, above)) (omega (arith, low, below))

pub is_relabelled : (old new : Links) (x : ℕ) (range : LabelRange) → IsSmallestSparse old x range
    → IsSpread old (label_of new) range range.count → length new.label.items ≡ length old.label.items
    → IsRelabelled (elements old) old.label.items x new.label.items
is_relabelled old new x range s spread long =
    let xs : List ℕ = around (elements old) old.label.items x range.bits in
    let same : elements_of old range ≡ xs =
    ap (λ n. elements_within (label_of old) n (n + 2 ^ range.bits) (elements old)) s.low in
    let counts : range.count ≡ length xs = s.count ∙ ap (length {A = ℕ}) same in
    let sparse = s.sparse in
    record {
      bits = range.bits;
      some = s.some;
      bounded = s.bounded;
      sparse = omega (arith, sparse, counts);
      least = s.least;
      spread = λ k l. ap (λ ys. slice_index new.label.items (slice_index ys k)) (sym same)
          ∙ (spread.spread k (omega (arith, l, counts))
          ∙ (ap (λ n. n + k * (2 ^ range.bits / range.count)) s.low
          ∙ ap (λ n. aligned (label_of old x) range.bits + k * (2 ^ range.bits / n)) counts));
      others = λ y out. spread.others y (λ q. out (subst (λ ys. has y ys ≡ true) same q));
      long = long;
    }

pub room_is_made : (links : Links) → AreLabelled links → (x : ℕ) → x < length links.label.items
    → ¬ (label_of links x + 2 ≤ label_after links.label.items (slice_index links.next.items x)) → (labels : List ℕ)
    → IsRelabelled (elements links) links.label.items x labels → HasMadeRoom (elements links) links.label.items x labels
room_is_made links h x l crowded labels relabelled =
    let next = next_by_link links h x l in
    record {
      free = λ free. absurd (crowded (omega (arith, free, next)));
      crowded = λ _. relabelled;
    }

-- ---- the label of the new element

-- the middle, as it is computed
pub middle_is : (links : Links) → AreLabelled links → (x low high : ℕ) → x < length links.label.items → low ≡ label_of links x
    → high ≡ label_after links.label.items (slice_index links.next.items x)
    → low + (high - low) / 2 ≡ middle_after (elements links) links.label.items x
middle_is links h x low high l low_is high_is =
    ap (λ n. n + (high - n) / 2) low_is
    ∙ ap (λ n. label_of links x + (n - label_of links x) / 2) (high_is ∙ next_by_link links h x l)

pub label_is_chosen : (old between new : Links) (x low high : ℕ) → AreLabelled between → x < length between.label.items
    → between.next.items ≡ old.next.items → HasMadeRoom (elements old) old.label.items x between.label.items
    → low ≡ label_of between x → high ≡ label_after between.label.items (slice_index between.next.items x)
    → new.label.items ≡ between.label.items ++ (low + (high - low) / 2) ∷ []
    → HasChosenLabel (elements old) old.label.items x new.label.items
label_is_chosen old between new x low high h l next room low_is high_is pushed =
    let labels : List ℕ = between.label.items in
    let middle = middle_is between h x low high l low_is high_is ∙ ap (λ ns. middle_after (chain ns) labels x) next in
    record {
      before = labels;
      room = room;
      middle = pushed ∙ ap (λ n. labels ++ n ∷ []) middle;
    }
