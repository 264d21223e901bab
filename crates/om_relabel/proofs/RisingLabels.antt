-- Labels that rise along a list, given by any function.
use Rattle.std.proofs.Common.{◌≡◌, ◌≢◌, ℕ, zero, suc, ◌+◌, ◌<◌, ◌≤◌, ◌↔◌, List, [], ◌∷◌, length, get_or, true, refl, sym, ap, ◌∙◌, subst}
use Rattle.std.proofs.Common.{arith, eq-eqb, ne_eqb, inl, inr}
use Rattle.std.proofs.lemmas.Bool.{cases_eq}
use Rattle.pipe_model.specs.Orders.OrderList.{has, IsBeforeIn}
use Rattle.om_relabel.specs.Labels.{LabelsRise}

-- the head of a list is in it
pub has_head : (x : ℕ) (xs : List ℕ) → has x (x ∷ xs) ≡ true
has_head x xs = rw (eq-eqb x x refl) refl

-- and so are the elements after it
pub has_later : (x : ℕ) (xs : List ℕ) (y : ℕ) → has y xs ≡ true → has y (x ∷ xs) ≡ true
has_later x xs y h = elim (cases_eq x y) [
  | inl same ↦ rw (eq-eqb x y same) refl
  | inr apart ↦ rw (ne_eqb x y apart) h
]

pub low_at_most_top : (label : ℕ → ℕ) (low top : ℕ) (xs : List ℕ) → LabelsRise label low top xs → low ≤ top
low_at_most_top label low top [] r = r
low_at_most_top label low top (x ∷ xs) r =
    let rest = low_at_most_top label (label x + 1) top xs r.1 in
    let here = r.0 in
    omega (arith, rest, here)

-- the label of each element is within the bounds
pub label_within : (label : ℕ → ℕ) (low top : ℕ) (xs : List ℕ) (x : ℕ) → LabelsRise label low top xs → has x xs ≡ true
    → (low ≤ label x) × (label x < top)
label_within label low top [] x r h = cc
label_within label low top (y ∷ ys) x r h = elim (cases_eq y x) [
  | inl same ↦ (
      let rest = low_at_most_top label (label y + 1) top ys r.1 in
      let here = r.0 in
      let e : label y ≡ label x = ap label same in
      (omega (arith, here, e), omega (arith, rest, e)))
  | inr apart ↦ (
      let later = label_within label (label y + 1) top ys x r.1 (rw (ne_eqb y x apart) at h) in
      let here = r.0 in
      (omega (arith, later.0, here), later.1))
]

-- two elements are in the order of their labels
pub before_by_label : (label : ℕ → ℕ) (low top : ℕ) (xs : List ℕ) (x y : ℕ) → LabelsRise label low top xs
    → has x xs ≡ true → has y xs ≡ true → IsBeforeIn xs x y ↔ (label x < label y)
before_by_label label low top [] x y r h k = cc
before_by_label label low top (z ∷ zs) x y r h k = elim (cases_eq z x) [
  | inl e ↦ elim (cases_eq z y) [
    | inl f ↦ (
        let a : label x ≡ label y = ap label (sym e ∙ f) in
        rw (eq-eqb z x e, eq-eqb z y f) ((λ l. absurd (omega (arith, l))), (λ l. absurd (omega (arith, l, a)))))
    | inr m ↦ (
        let w = label_within label (label z + 1) top zs y r.1 (rw (ne_eqb z y m) at k) in
        let a : label z ≡ label x = ap label e in
        rw (eq-eqb z x e, ne_eqb z y m) ((λ _. omega (arith, w.0, a)), (λ _. omega arith)))
  ]
  | inr n ↦ elim (cases_eq z y) [
    | inl f ↦ (
        let v = label_within label (label z + 1) top zs x r.1 (rw (ne_eqb z x n) at h) in
        let a : label z ≡ label y = ap label f in
        rw (ne_eqb z x n, eq-eqb z y f) ((λ l. absurd (omega (arith, l))), (λ l. absurd (omega (arith, l, v.0, a)))))
    | inr m ↦ (
        let t = before_by_label label (label z + 1) top zs x y r.1 (rw (ne_eqb z x n) at h) (rw (ne_eqb z y m) at k) in
        rw (ne_eqb z x n, ne_eqb z y m) ((λ l. t.0 (omega (arith, l))), (λ l. let q = t.1 l in omega (arith, q))))
  ]
]

-- other labels that are the same along the list rise too
pub rises_same : (label label' : ℕ → ℕ) (low top : ℕ) (xs : List ℕ)
    → ((y : ℕ) → has y xs ≡ true → label' y ≡ label y) → LabelsRise label low top xs → LabelsRise label' low top xs
rises_same label label' low top [] same r = r
rises_same label label' low top (x ∷ xs) same r =
    let here : label' x ≡ label x = same x (has_head x xs) in
    let low_x = r.0 in
    let rest = rises_same label label' (label x + 1) top xs (λ y h. same y (has_later x xs y h)) r.1 in
    (omega (arith, here, low_x), subst (λ (n : ℕ). LabelsRise label' (n + 1) top xs) (sym here) rest)

-- the label at each index is at least the lower bound
label_at_within : (label : ℕ → ℕ) (low top : ℕ) (xs : List ℕ) (k d : ℕ) → LabelsRise label low top xs → k < length xs
    → low ≤ label (get_or xs k d)
label_at_within label low top [] k d r l = absurd (omega (arith, l))
label_at_within label low top (x ∷ xs) zero d r l = r.0
label_at_within label low top (x ∷ xs) (suc k) d r l =
    let later = label_at_within label (label x + 1) top xs k d r.1 (omega (arith, l)) in
    let here = r.0 in
    omega (arith, later, here)

-- the labels rise by index, so no element is at two indices
pub rises_at : (label : ℕ → ℕ) (low top : ℕ) (xs : List ℕ) (j k d : ℕ) → LabelsRise label low top xs → j < k
    → k < length xs → label (get_or xs j d) < label (get_or xs k d)
rises_at label low top [] j k d r l w = absurd (omega (arith, w))
rises_at label low top (x ∷ xs) j zero d r l w = absurd (omega (arith, l))
rises_at label low top (x ∷ xs) zero (suc k) d r l w =
    let later = label_at_within label (label x + 1) top xs k d r.1 (omega (arith, w)) in
    omega (arith, later)
rises_at label low top (x ∷ xs) (suc j) (suc k) d r l w =
    rises_at label (label x + 1) top xs j k d r.1 (omega (arith, l)) (omega (arith, w))

-- the head of a list is nowhere else in it
pub head_once : (label : ℕ → ℕ) (low top z : ℕ) (zs : List ℕ) → LabelsRise label low top (z ∷ zs) → (y : ℕ)
    → has y zs ≡ true → y ≢ z
head_once label low top z zs r y h = λ (e : y ≡ z).
    let w = label_within label (label z + 1) top zs y r.1 h in
    let a : label y ≡ label z = ap label e in
    omega (arith, w.0, a)
