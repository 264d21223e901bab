-- The labels of a range are spread anew. `label` is any function.
use Rattle.std.proofs.Common.{◌≡◌, ◌≢◌, ℕ, zero, suc, ◌+◌, ◌*◌, ◌/◌, ◌^◌, ◌<◌, ◌≤◌, max, List, [], ◌∷◌, length, get_or, slice_index}
use Rattle.std.proofs.Common.{slice_set, true, refl, sym, ap, ◌∙◌, subst, arith, eq-eqb, ne_eqb, inl, inr}
use Rattle.std.proofs.Math.Nat.{mul-div-le}
use Rattle.std.proofs.lemmas.Bool.{cases_eq, cases_lt}
use Rattle.std.proofs.lemmas.Grind.{get_or-set_at}
use Rattle.std.proofs.lemmas.List.{get_or-set_other}
use Rattle.pipe_model.specs.Orders.OrderList.{has}
use Rattle.om_relabel.specs.declared.label_range.LabelRange.{LabelRange}
use Rattle.om_relabel.specs.declared.links.Links.{Links}
use Rattle.om_relabel.specs.declared.links.TheConstants.{END, TOP}
use Rattle.om_relabel.specs.LabelledLinks.{AreLabelled, elements, label_of}
use Rattle.om_relabel.specs.Labels.{LabelsRise}
use Rattle.om_relabel.specs.Links.{AreLinked, AreLinkedBack, chain, first_of, label_after}
use Rattle.om_relabel.specs.Ranges.{elements_of, elements_within, most_in, spread_label}
use Rattle.om_relabel.proofs.ElementsWithin.{after_element, has_within, within_has, within_linked, within_low, within_rises, within_yes}
use Rattle.om_relabel.proofs.RisingLabels.{has_head, has_later, label_within, low_at_most_top, rises_at, rises_same}
use Rattle.om_relabel.proofs.SparseRanges.{gap_is_two, one_more_times, spread_apart, spread_end}

-- ---- by index

-- the element at an index is in the list
pub has_at : (xs : List ℕ) (k d : ℕ) → k < length xs → has (get_or xs k d) xs ≡ true
has_at [] k d l = absurd (omega (arith, l))
has_at (x ∷ xs) zero d l = has_head x xs
has_at (x ∷ xs) (suc k) d l = has_later x xs (get_or xs k d) (has_at xs k d (omega (arith, l)))

-- an element is at some index
pub index_of : (xs : List ℕ) (x : ℕ) → has x xs ≡ true → (k : ℕ) × (k < length xs) × (get_or xs k 0 ≡ x)
index_of [] x h = cc
index_of (z ∷ zs) x h = elim (cases_eq z x) [
  | inl same ↦ (0, omega arith, same)
  | inr apart ↦ (
      let later = index_of zs x (rw (ne_eqb z x apart) at h) in
      (suc later.0, (let l = later.1 in omega (arith, l)), later.2))
]

-- ---- labels that rise

-- labels at equal distances; the first is `base`
pub spread_rises : (label : ℕ → ℕ) (base gap end : ℕ) (xs : List ℕ) (k low : ℕ) → 1 ≤ gap
    → ((j : ℕ) → j < length xs → label (get_or xs j 0) ≡ base + (k + j) * gap) → low ≤ base + k * gap
    → base + (k + length xs) * gap ≤ end → LabelsRise label low end xs
spread_rises label base gap end [] k low some at below above =
    let e : k + 0 ≡ k = omega arith in
    let same : (k + 0) * gap ≡ k * gap = ap (λ m. m * gap) e in
    omega (arith, below, same, above)
spread_rises label base gap end (x ∷ xs) k low some at below above =
    let e : k + 0 ≡ k = omega arith in
    let here : label x ≡ base + k * gap = at 0 (omega arith) ∙ ap (λ m. base + m * gap) e in
    let next = one_more_times k gap in
    let wide : k + length (x ∷ xs) ≡ (k + 1) + length xs = omega arith in (
      omega (arith, below, here),
      spread_rises label base gap end xs (k + 1) (label x + 1) some
          (λ j l. let shift : k + suc j ≡ (k + 1) + j = omega arith in at (suc j) (omega (arith, l)) ∙ ap (λ m. base + m * gap) shift)
          (omega (arith, here, next, some)) (subst (λ m. base + m * gap ≤ end) wide above),
    )

-- an element of the range and those after it, with the new labels in the range and the old ones after it
rises_inside : (label label' : ℕ → ℕ) (low end bottom top m : ℕ) (xs : List ℕ) → LabelsRise label bottom top xs
    → ((y : ℕ) → end ≤ label y → label' y ≡ label y) → LabelsRise label' m end (elements_within label low end xs)
    → low ≤ bottom → end ≤ top → LabelsRise label' m top xs
rises_inside label label' low end bottom top m [] r after new l e = omega (arith, new, e)
rises_inside label label' low end bottom top m (x ∷ xs) r after new l e =
    let above = r.0 in
    elim (cases_lt (label x) end) [
      | inl inside ↦ (
          let both : LabelsRise label' m end (x ∷ elements_within label low end xs) =
          subst (LabelsRise label' m end) (within_yes label low end x xs (omega (arith, l, above)) inside) new in (
            both.0,
            rises_inside label label' low end (label x + 1) top (label' x + 1) xs r.1 after both.1 (omega (arith, l, above)) e,
          ))
      | inr high ↦ (
          let here : label' x ≡ label x = after x high in
          let bound = low_at_most_top label' m end (elements_within label low end (x ∷ xs)) new in (
            omega (arith, here, high, bound),
            subst (λ (n : ℕ). LabelsRise label' (n + 1) top xs) (sym here)
                (rises_same label label' (label x + 1) top xs
                (λ y h. let w = label_within label (label x + 1) top xs y r.1 h in let low_y = w.0 in after y (omega (arith, low_y, high)))
                r.1),
          ))
    ]

-- the labels of the range are replaced
pub rises_replaced : (label label' : ℕ → ℕ) (low end bottom top : ℕ) (xs : List ℕ) → LabelsRise label bottom top xs
    → ((y : ℕ) → label y < low → label' y ≡ label y) → ((y : ℕ) → end ≤ label y → label' y ≡ label y)
    → LabelsRise label' low end (elements_within label low end xs) → bottom ≤ low → end ≤ top → LabelsRise label' bottom top xs
rises_replaced label label' low end bottom top [] r before after new l e = r
rises_replaced label label' low end bottom top (x ∷ xs) r before after new l e =
    let above = r.0 in
    elim (cases_lt (label x) low) [
      | inl less ↦ (
          let here : label' x ≡ label x = before x less in (
            omega (arith, here, above),
            subst (λ (n : ℕ). LabelsRise label' (n + 1) top xs) (sym here)
                (rises_replaced label label' low end (label x + 1) top xs r.1 before after
                (subst (LabelsRise label' low end) (within_low label low end x xs less) new) (omega (arith, less)) e),
          ))
      | inr from_low ↦ (
          let all : LabelsRise label' low top (x ∷ xs) =
          rises_inside label label' low end low top low (x ∷ xs) (from_low, r.1) after new (omega arith) e in
          let first = all.0 in (
            omega (arith, first, l),
            all.1,
          ))
    ]

-- ---- a range of a list

-- a sparse range of the list
pub record IsSparseRange (links : Links) (range : LabelRange) : Type 0 where
  pub first : range.first ≡ first_of (elements_of links range)
  pub count : range.count ≡ length (elements_of links range)
  pub positive_bits : 1 ≤ range.bits
  pub sparse : range.count ≤ most_in range.bits
  pub top : range.low + 2 ^ range.bits ≤ TOP

-- the labels `label'` after the first n elements of the range have their new ones
pub record IsSpread (links : Links) (label' : ℕ → ℕ) (range : LabelRange) (n : ℕ) : Type 0 where
  pub spread : (k : ℕ) → k < n → label' (slice_index (elements_of links range) k) ≡ spread_label range k
  pub others : (x : ℕ) → has x (elements_of links range) ≢ true → label' x ≡ label_of links x

range_rises : (links : Links) → AreLabelled links → (range : LabelRange)
    → LabelsRise (label_of links) (max range.low 0) (range.low + 2 ^ range.bits) (elements_of links range)
range_rises links h range =
    within_rises (label_of links) range.low (range.low + 2 ^ range.bits) 0 TOP (elements links) h.rises (omega arith) (omega arith)

pub range_element : (links : Links) → AreLabelled links → (range : LabelRange) → IsSparseRange links range → (k : ℕ) → k < range.count
    → slice_index (elements_of links range) k < length links.label.items
range_element links h range s k l =
    let count = s.count in
    let found = within_has (label_of links) range.low (range.low + 2 ^ range.bits) (elements links) (get_or (elements_of links range) k 0)
    (has_at (elements_of links range) k 0 (omega (arith, l, count))) in
    h.only (get_or (elements_of links range) k 0) found.there

pub range_next : (links : Links) → AreLabelled links → (range : LabelRange) → IsSparseRange links range → (k : ℕ) → k + 1 < range.count
    → slice_index links.next.items (slice_index (elements_of links range) k) ≡ slice_index (elements_of links range) (k + 1)
range_next links h range s k l =
    let count = s.count in
    let one : suc k ≡ k + 1 = omega arith in
    within_linked (label_of links) (λ y. slice_index links.next.items y) range.low (range.low + 2 ^ range.bits) 0 TOP (elements links)
    h.rises h.linked k (omega (arith, l, count))
    ∙ ap (λ m. get_or (elements_of links range) m 0) one

-- one element more has its new label
pub one_more_spread : (links : Links) → AreLabelled links → (range : LabelRange) → IsSparseRange links range
    → (labels : List ℕ) → length links.label.items ≤ length labels → (k element label : ℕ) → k < range.count
    → element ≡ slice_index (elements_of links range) k → label ≡ spread_label range k
    → IsSpread links (λ y. slice_index labels y) range k
    → IsSpread links (λ y. slice_index (slice_set labels element label) y) range (k + 1)
one_more_spread links h range s labels long k element label l at label_is before =
    let ms : List ℕ = elements_of links range in
    let count = s.count in
    let inside = range_element links h range s k l in
    let here : has (get_or ms k 0) ms ≡ true = has_at ms k 0 (omega (arith, l, count)) in
    let rises = range_rises links h range in
    record {
      spread = λ j m. elim (cases_eq j k) [
        | inl same ↦ (
            let index : get_or ms j 0 ≡ element = ap (λ n. get_or ms n 0) same ∙ sym at in
            get_or-set_at labels element (get_or ms j 0) label 0 index (omega (arith, inside, at, long))
            ∙ (label_is ∙ ap (spread_label range) (sym same)))
        | inr apart ↦ (
            let earlier : j < k = omega (arith, m, apart) in
            let less = rises_at (label_of links) (max range.low 0) (range.low + 2 ^ range.bits) ms j k 0 rises earlier
            (omega (arith, l, count)) in
            let other : get_or ms j 0 ≢ element = λ q.
            let equal : label_of links (get_or ms j 0) ≡ label_of links (get_or ms k 0) = ap (label_of links) (q ∙ at) in
            omega (arith, less, equal) in
            get_or-set_other labels element (get_or ms j 0) label 0 other ∙ before.spread j earlier)
      ];
      others = λ x out.
          let other : x ≢ element = λ q. out (subst (λ y. has y ms ≡ true) (sym (q ∙ at)) here) in
          get_or-set_other labels element x label 0 other ∙ before.others x out;
    }

-- ---- the list with the new labels

other_low : (links : Links) (label' : ℕ → ℕ) (range : LabelRange) (n : ℕ) → IsSpread links label' range n → (y : ℕ)
    → label_of links y < range.low → label' y ≡ label_of links y
other_low links label' range n d y l = d.others y (λ q.
    let w = within_has (label_of links) range.low (range.low + 2 ^ range.bits) (elements links) y q in
    let above = w.above in
    omega (arith, above, l))

other_high : (links : Links) (label' : ℕ → ℕ) (range : LabelRange) (n : ℕ) → IsSpread links label' range n → (y : ℕ)
    → range.low + 2 ^ range.bits ≤ label_of links y → label' y ≡ label_of links y
other_high links label' range n d y l = d.others y (λ q.
    let w = within_has (label_of links) range.low (range.low + 2 ^ range.bits) (elements links) y q in
    let below = w.below in
    omega (arith, below, l))

some_spread_rises : (links : Links) → AreLabelled links → (range : LabelRange) → IsSparseRange links range → 0 < range.count
    → (label' : ℕ → ℕ) → IsSpread links label' range range.count → LabelsRise label' 0 TOP (elements links)
some_spread_rises links h range s some label' d =
    let count = s.count in
    let top = s.top in
    let gap : ℕ = 2 ^ range.bits / range.count in
    let two = gap_is_two range.count range.bits some s.positive_bits s.sparse in
    let all : range.count * gap ≤ 2 ^ range.bits = mul-div-le (2 ^ range.bits) range.count in
    let none : 0 * gap ≡ 0 = omega arith in
    let long : 0 + length (elements_of links range) ≡ range.count = omega (arith, count) in
    let total : (0 + length (elements_of links range)) * gap ≡ range.count * gap = ap (λ n. n * gap) long in
    let inside : LabelsRise label' range.low (range.low + 2 ^ range.bits) (elements_of links range) =
    spread_rises label' range.low gap (range.low + 2 ^ range.bits) (elements_of links range) 0 range.low (omega (arith, two))
    (λ j l. let e : j ≡ 0 + j = omega arith in d.spread j (omega (arith, l, count)) ∙ ap (λ n. range.low + n * gap) e)
    (omega arith) (omega (arith, all, total)) in
    rises_replaced (label_of links) label' range.low (range.low + 2 ^ range.bits) 0 TOP (elements links) h.rises
    (other_low links label' range range.count d) (other_high links label' range range.count d) inside (omega arith) top

-- the new labels rise
pub spread_list_rises : (links : Links) → AreLabelled links → (range : LabelRange) → IsSparseRange links range
    → (label' : ℕ → ℕ) → IsSpread links label' range range.count → LabelsRise label' 0 TOP (elements links)
spread_list_rises links h range s label' d =
    let count = s.count in
    elim (cases_lt 0 range.count) [
      | inl some ↦ some_spread_rises links h range s some label' d
      | inr none ↦ rises_same (label_of links) label' 0 TOP (elements links)
          (λ y m. d.others y (λ q. let k = index_of (elements_of links range) y q in let l = k.1 in omega (arith, l, count, none))) h.rises
    ]

-- ---- and a label is free after each element of the range

-- the index of an element of the range
range_index : (links : Links) (range : LabelRange) → (x : ℕ) → has x (elements_of links range) ≡ true
    → (k : ℕ) × (k < length (elements_of links range)) × (get_or (elements_of links range) k 0 ≡ x)
range_index links range x m = index_of (elements_of links range) x m

label_at_end : (links : Links) (label' : ℕ → ℕ) (range : LabelRange) → IsSparseRange links range → IsSpread links label' range range.count
    → (x : ℕ) → has x (elements_of links range) ≡ true → label' x + 2 ≤ range.low + 2 ^ range.bits
label_at_end links label' range s d x m =
    let count = s.count in
    let found = range_index links range x m in
    let inside = found.1 in
    let at : label' x ≡ spread_label range found.0 = ap label' (sym found.2) ∙ d.spread found.0 (omega (arith, inside, count)) in
    let end = spread_end range s.positive_bits s.sparse found.0 (omega (arith, inside, count)) in
    omega (arith, at, end)

labels_apart : (links : Links) → AreLabelled links → (label' : ℕ → ℕ) (range : LabelRange) → IsSparseRange links range
    → IsSpread links label' range range.count → (x y : ℕ) → has x (elements_of links range) ≡ true
    → has y (elements_of links range) ≡ true → label_of links x < label_of links y → label' x + 2 ≤ label' y
labels_apart links h label' range s d x y m n less =
    let ms : List ℕ = elements_of links range in
    let count = s.count in
    let rises = range_rises links h range in
    let a = range_index links range x m in
    let b = range_index links range y n in
    let a_inside = a.1 in
    let b_inside = b.1 in
    let a_at : label' x ≡ spread_label range a.0 = ap label' (sym a.2) ∙ d.spread a.0 (omega (arith, a_inside, count)) in
    let b_at : label' y ≡ spread_label range b.0 = ap label' (sym b.2) ∙ d.spread b.0 (omega (arith, b_inside, count)) in
    let a_old : label_of links (get_or ms a.0 0) ≡ label_of links x = ap (label_of links) a.2 in
    let b_old : label_of links (get_or ms b.0 0) ≡ label_of links y = ap (label_of links) b.2 in
    elim (cases_lt a.0 b.0) [
      | inl order ↦ (
          let apart = spread_apart range s.positive_bits s.sparse a.0 b.0 order (omega (arith, b_inside, count)) in
          omega (arith, a_at, b_at, apart))
      | inr not_order ↦ elim (cases_eq a.0 b.0) [
        | inl same ↦ (
            let e : label_of links (get_or ms a.0 0) ≡ label_of links (get_or ms b.0 0) = ap (λ k. label_of links (get_or ms k 0)) same in
            absurd (omega (arith, e, a_old, b_old, less)))
        | inr other ↦ (
            let r = rises_at (label_of links) (max range.low 0) (range.low + 2 ^ range.bits) ms b.0 a.0 0 rises
            (omega (arith, not_order, other)) a_inside in
            absurd (omega (arith, r, a_old, b_old, less)))
      ]
    ]

-- the label of the element after another, by the new labels in a list
pub label_of_end : (labels : List ℕ) (u : ℕ) → u ≡ END → label_after labels u ≡ TOP
label_of_end labels u e = rw (eq-eqb u END e) refl

pub label_of_link : (labels : List ℕ) (u : ℕ) → u ≢ END → label_after labels u ≡ slice_index labels u
label_of_link labels u n = rw (ne_eqb u END n) refl

pub spread_is_free : (links : Links) → AreLabelled links → (labels : List ℕ) (range : LabelRange) → IsSparseRange links range
    → IsSpread links (λ y. slice_index labels y) range range.count → (x : ℕ) → has x (elements_of links range) ≡ true
    → slice_index labels x + 2 ≤ label_after labels (slice_index links.next.items x)
spread_is_free links h labels range s d x m =
    let label' : ℕ → ℕ = λ y. slice_index labels y in
    let u : ℕ = slice_index links.next.items x in
    let top = s.top in
    let end = label_at_end links label' range s d x m in
    let old = within_has (label_of links) range.low (range.low + 2 ^ range.bits) (elements links) x m in
    elim (after_element (label_of links) (λ y. slice_index links.next.items y) 0 TOP (elements links) x h.rises h.linked old.there) [
      | inl last ↦ (
          let after = label_of_end labels u last.link in
          omega (arith, after, end, top))
      | inr found ↦ (
          let there = h.only u found.there in
          let bounded = h.bounded in
          let after = label_of_link labels u (λ q. omega (arith, q, there, bounded)) in
          let above = found.above in
          elim (cases_lt (label_of links u) (range.low + 2 ^ range.bits)) [
            | inl inside ↦ (
                let x_low = old.above in
                let u_in = has_within (label_of links) range.low (range.low + 2 ^ range.bits) (elements links) u found.there
                (omega (arith, x_low, above)) inside in
                let apart = labels_apart links h label' range s d x u m u_in above in
                omega (arith, after, apart))
            | inr high ↦ (
                let kept = other_high links label' range range.count d u high in
                omega (arith, after, end, kept, high))
          ])
    ]

-- ---- links and labels

pub relabelled : (old new : Links) → AreLabelled old → new.next.items ≡ old.next.items → new.prev.items ≡ old.prev.items
    → length new.label.items ≡ length old.label.items → LabelsRise (label_of new) 0 TOP (elements old) → AreLabelled new
relabelled old new h next prev long rises =
    let list : elements old ≡ elements new = ap chain (sym next) in
    let same = h.same in
    let same_back = h.same_back in
    let some = h.some in
    let bounded = h.bounded in
    record {
      same = omega (arith, ap (length {A = ℕ}) next, same, long);
      same_back = omega (arith, ap (length {A = ℕ}) prev, same_back, long);
      some = omega (arith, some, long);
      bounded = omega (arith, bounded, long);
      each = λ x l. subst (λ xs. has x xs ≡ true) list (h.each x (omega (arith, l, long)));
      only = λ x m. (let l = h.only x (subst (λ xs. has x xs ≡ true) (sym list) m) in omega (arith, l, long));
      linked = subst (AreLinked (λ x. slice_index new.next.items x)) list
          (subst (λ ns. AreLinked (λ x. slice_index ns x) (elements old)) (sym next) h.linked);
      back = subst (AreLinkedBack (λ x. slice_index new.prev.items x) END) list
          (subst (λ ps. AreLinkedBack (λ x. slice_index ps x) END (elements old)) (sym prev) h.back);
      rises = subst (LabelsRise (label_of new) 0 TOP) list rises;
    }
