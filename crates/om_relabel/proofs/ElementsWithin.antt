-- The elements whose labels are within bounds, where the labels rise along the list. `label` is any function.
use Rattle.std.proofs.Common.{◌≡◌, ℕ, zero, suc, ◌+◌, ◌<◌, ◌≤◌, max, List, [], ◌∷◌, length, get_or, true, refl, sym, ap, ◌∙◌, subst, arith}
use Rattle.std.proofs.Common.{ne_eqb, ◌⊎◌, inl, inr}
use Rattle.std.proofs.lemmas.Bool.{cases_eq, cases_lt, le-leb, le-ltb, lt-leb, lt-ltb}
use Rattle.pipe_model.specs.Orders.OrderList.{has}
use Rattle.om_relabel.specs.declared.links.TheConstants.{END}
use Rattle.om_relabel.specs.Labels.{LabelsRise}
use Rattle.om_relabel.specs.Links.{AreLinked, AreLinkedBack, first_of}
use Rattle.om_relabel.specs.Ranges.{elements_within}
use Rattle.om_relabel.proofs.RisingLabels.{has_head, has_later, label_within}

-- ---- one element more

pub within_yes : (label : ℕ → ℕ) (low end x : ℕ) (xs : List ℕ) → low ≤ label x → label x < end
    → elements_within label low end (x ∷ xs) ≡ x ∷ elements_within label low end xs
within_yes label low end x xs l m = rw (le-leb low (label x) l, lt-ltb (label x) end m) refl

pub within_low : (label : ℕ → ℕ) (low end x : ℕ) (xs : List ℕ) → label x < low
    → elements_within label low end (x ∷ xs) ≡ elements_within label low end xs
within_low label low end x xs l = rw (lt-leb low (label x) l) refl

pub within_high : (label : ℕ → ℕ) (low end x : ℕ) (xs : List ℕ) → end ≤ label x
    → elements_within label low end (x ∷ xs) ≡ elements_within label low end xs
within_high label low end x xs l = elim (cases_lt (label x) low) [
  | inl less ↦ within_low label low end x xs less
  | inr above ↦ rw (le-leb low (label x) above, le-ltb (label x) end l) refl
]

-- ---- how many elements there are

-- of two ranges side by side
pub count_adds : (label : ℕ → ℕ) (a b c : ℕ) (xs : List ℕ) → a ≤ b → b ≤ c
    → length (elements_within label a c xs) ≡ length (elements_within label a b xs) + length (elements_within label b c xs)
count_adds label a b c [] l m = refl
count_adds label a b c (x ∷ xs) l m =
    let rest = count_adds label a b c xs l m in
    elim (cases_lt (label x) a) [
      | inl less ↦ (
          let e = within_low label a c x xs less in
          let f = within_low label a b x xs less in
          let g = within_low label b c x xs (omega (arith, less, l)) in
          omega (arith, rest, ap (length {A = ℕ}) e, ap (length {A = ℕ}) f, ap (length {A = ℕ}) g))
      | inr from_a ↦ elim (cases_lt (label x) b) [
        | inl first ↦ (
            let e = within_yes label a c x xs from_a (omega (arith, first, m)) in
            let f = within_yes label a b x xs from_a first in
            let g = within_low label b c x xs first in
            omega (arith, rest, ap (length {A = ℕ}) e, ap (length {A = ℕ}) f, ap (length {A = ℕ}) g))
        | inr from_b ↦ elim (cases_lt (label x) c) [
          | inl second ↦ (
              let e = within_yes label a c x xs from_a second in
              let f = within_high label a b x xs from_b in
              let g = within_yes label b c x xs from_b second in
              omega (arith, rest, ap (length {A = ℕ}) e, ap (length {A = ℕ}) f, ap (length {A = ℕ}) g))
          | inr from_c ↦ (
              let e = within_high label a c x xs from_c in
              let f = within_high label a b x xs from_b in
              let g = within_high label b c x xs from_c in
              omega (arith, rest, ap (length {A = ℕ}) e, ap (length {A = ℕ}) f, ap (length {A = ℕ}) g))
        ]
      ]
    ]

-- of a range without labels
pub count_none : (label : ℕ → ℕ) (a : ℕ) (xs : List ℕ) → length (elements_within label a a xs) ≡ 0
count_none label a xs = let twice = count_adds label a a a xs (omega arith) (omega arith) in omega (arith, twice)

-- of a range that ends before the labels begin
pub count_below : (label : ℕ → ℕ) (a end low top : ℕ) (xs : List ℕ) → LabelsRise label low top xs → end ≤ low
    → length (elements_within label a end xs) ≡ 0
count_below label a end low top [] r l = refl
count_below label a end low top (x ∷ xs) r l =
    let here = r.0 in
    let e = within_high label a end x xs (omega (arith, here, l)) in
    let rest = count_below label a end (label x + 1) top xs r.1 (omega (arith, here, l)) in
    omega (arith, rest, ap (length {A = ℕ}) e)

-- an element is the only one with its label
pub count_here : (label : ℕ → ℕ) (low top : ℕ) (xs : List ℕ) (e : ℕ) → LabelsRise label low top xs → has e xs ≡ true
    → length (elements_within label (label e) (label e + 1) xs) ≡ 1
count_here label low top [] e r h = cc
count_here label low top (x ∷ xs) e r h = elim (cases_eq x e) [
  | inl same ↦ (
      let at : label x ≡ label e = ap label same in
      let one = within_yes label (label e) (label e + 1) x xs (omega (arith, at)) (omega (arith, at)) in
      let rest = count_below label (label e) (label e + 1) (label x + 1) top xs r.1 (omega (arith, at)) in
      omega (arith, rest, ap (length {A = ℕ}) one))
  | inr apart ↦ (
      let there : has e xs ≡ true = rw (ne_eqb x e apart) at h in
      let within = label_within label (label x + 1) top xs e r.1 there in
      let less = within.0 in
      let none = within_low label (label e) (label e + 1) x xs (omega (arith, less)) in
      let rest = count_here label (label x + 1) top xs e r.1 there in
      omega (arith, rest, ap (length {A = ℕ}) none))
]

-- ---- neighbours

-- an element is the first, or has one before it
pub record IsFirst (label prev : ℕ → ℕ) (before : ℕ) (xs : List ℕ) (e : ℕ) : Type 0 where
  pub link : prev e ≡ before
  pub none : (a : ℕ) → length (elements_within label a (label e) xs) ≡ 0

pub record HasBefore (label prev : ℕ → ℕ) (xs : List ℕ) (e : ℕ) : Type 0 where
  pub there : has (prev e) xs ≡ true
  pub below : label (prev e) < label e
  pub none : length (elements_within label (label (prev e) + 1) (label e) xs) ≡ 0

pub before_element : (label prev : ℕ → ℕ) (low top before : ℕ) (xs : List ℕ) (e : ℕ) → LabelsRise label low top xs
    → AreLinkedBack prev before xs → has e xs ≡ true → IsFirst label prev before xs e ⊎ HasBefore label prev xs e
before_element label prev low top before [] e r b h = cc
before_element label prev low top before (x ∷ xs) e r b h = elim (cases_eq x e) [
  | inl same ↦ (
      let at : label x ≡ label e = ap label same in
      inl record {
        link = ap prev (sym same) ∙ b.0;
        none = λ a. (
            let high = within_high label a (label e) x xs (omega (arith, at)) in
            let rest = count_below label a (label e) (label x + 1) top xs r.1 (omega (arith, at)) in
            omega (arith, rest, ap (length {A = ℕ}) high));
      })
  | inr apart ↦ (
      let there : has e xs ≡ true = rw (ne_eqb x e apart) at h in
      let within = label_within label (label x + 1) top xs e r.1 there in
      let less = within.0 in
      elim (before_element label prev (label x + 1) top x xs e r.1 b.1 there) [
        | inl first ↦ (
            let link = first.link in
            let at : label (prev e) ≡ label x = ap label link in
            let low_x = within_low label (label (prev e) + 1) (label e) x xs (omega (arith, at)) in
            let rest = first.none (label (prev e) + 1) in
            inr record {
              there = subst (λ y. has y (x ∷ xs) ≡ true) (sym link) (has_head x xs);
              below = omega (arith, at, less);
              none = omega (arith, rest, ap (length {A = ℕ}) low_x);
            })
        | inr later ↦ (
            let inside = label_within label (label x + 1) top xs (prev e) r.1 later.there in
            let above = inside.0 in
            let low_x = within_low label (label (prev e) + 1) (label e) x xs (omega (arith, above)) in
            let rest = later.none in
            inr record {
              there = has_later x xs (prev e) later.there;
              below = later.below;
              none = omega (arith, rest, ap (length {A = ℕ}) low_x);
            })
      ])
]

-- an element is the last, or has one after it
pub record IsLast (label next : ℕ → ℕ) (xs : List ℕ) (e : ℕ) : Type 0 where
  pub link : next e ≡ END
  pub none : (end : ℕ) → length (elements_within label (label e + 1) end xs) ≡ 0

pub record HasAfter (label next : ℕ → ℕ) (xs : List ℕ) (e : ℕ) : Type 0 where
  pub there : has (next e) xs ≡ true
  pub above : label e < label (next e)
  pub none : length (elements_within label (label e + 1) (label (next e)) xs) ≡ 0

after_head : (label next : ℕ → ℕ) (top x : ℕ) (xs : List ℕ) → LabelsRise label (label x + 1) top xs
    → next x ≡ first_of xs → IsLast label next (x ∷ xs) x ⊎ HasAfter label next (x ∷ xs) x
after_head label next top x [] r c = inl record {
  link = c;
  none = λ end. (let low = within_low label (label x + 1) end x [] (omega arith) in ap (length {A = ℕ}) low);
}
after_head label next top x (w ∷ ws) r c =
    let at : label (next x) ≡ label w = ap label c in
    let less = r.0 in
    let low_x = within_low label (label x + 1) (label (next x)) x (w ∷ ws) (omega arith) in
    let high_w = within_high label (label x + 1) (label (next x)) w ws (omega (arith, at)) in
    let rest = count_below label (label x + 1) (label (next x)) (label w + 1) top ws r.1 (omega (arith, at)) in
    inr record {
      there = subst (λ y. has y (x ∷ (w ∷ ws)) ≡ true) (sym c) (has_later x (w ∷ ws) w (has_head w ws));
      above = omega (arith, at, less);
      none = omega (arith, rest, ap (length {A = ℕ}) low_x, ap (length {A = ℕ}) high_w);
    }

pub after_element : (label next : ℕ → ℕ) (low top : ℕ) (xs : List ℕ) (e : ℕ) → LabelsRise label low top xs
    → AreLinked next xs → has e xs ≡ true → IsLast label next xs e ⊎ HasAfter label next xs e
after_element label next low top [] e r c h = cc
after_element label next low top (x ∷ xs) e r c h = elim (cases_eq x e) [
  | inl same ↦ subst (λ y. IsLast label next (x ∷ xs) y ⊎ HasAfter label next (x ∷ xs) y) same (after_head label next top x xs r.1 c.0)
  | inr apart ↦ (
      let there : has e xs ≡ true = rw (ne_eqb x e apart) at h in
      let within = label_within label (label x + 1) top xs e r.1 there in
      let less = within.0 in
      elim (after_element label next (label x + 1) top xs e r.1 c.1 there) [
        | inl last ↦ inl record {
          link = last.link;
          none = λ end. (
              let low_x = within_low label (label e + 1) end x xs (omega (arith, less)) in
              let rest = last.none end in
              omega (arith, rest, ap (length {A = ℕ}) low_x));
        }
        | inr later ↦ (
            let low_x = within_low label (label e + 1) (label (next e)) x xs (omega (arith, less)) in
            let rest = later.none in
            inr record {
              there = has_later x xs (next e) later.there;
              above = later.above;
              none = omega (arith, rest, ap (length {A = ℕ}) low_x);
            })
      ])
]

-- ---- the first element

pub first_within : (label : ℕ → ℕ) (low end bottom top : ℕ) (xs : List ℕ) (f : ℕ) → LabelsRise label bottom top xs
    → has f xs ≡ true → low ≤ label f → label f < end → length (elements_within label low (label f) xs) ≡ 0
    → first_of (elements_within label low end xs) ≡ f
first_within label low end bottom top [] f r h l m none = cc
first_within label low end bottom top (x ∷ xs) f r h l m none = elim (cases_eq x f) [
  | inl same ↦ (
      let at : label x ≡ label f = ap label same in
      ap first_of (within_yes label low end x xs (omega (arith, at, l)) (omega (arith, at, m))) ∙ same)
  | inr apart ↦ (
      let there : has f xs ≡ true = rw (ne_eqb x f apart) at h in
      let within = label_within label (label x + 1) top xs f r.1 there in
      let less = within.0 in
      elim (cases_lt (label x) low) [
        | inl before ↦ (
            let skipped = within_low label low (label f) x xs before in
            ap first_of (within_low label low end x xs before)
            ∙ first_within label low end (label x + 1) top xs f r.1 there l m (sym (ap (length {A = ℕ}) skipped) ∙ none))
        | inr from_low ↦ (
            let found = within_yes label low (label f) x xs from_low (omega (arith, less)) in
            absurd (omega (arith, none, ap (length {A = ℕ}) found)))
      ])
]

-- ---- the elements

pub count_le : (label : ℕ → ℕ) (low end : ℕ) (xs : List ℕ) → length (elements_within label low end xs) ≤ length xs
count_le label low end [] = omega arith
count_le label low end (x ∷ xs) =
    let rest = count_le label low end xs in
    elim (cases_lt (label x) low) [
      | inl less ↦ (let e = within_low label low end x xs less in omega (arith, rest, ap (length {A = ℕ}) e))
      | inr from_low ↦ elim (cases_lt (label x) end) [
        | inl inside ↦ (let e = within_yes label low end x xs from_low inside in omega (arith, rest, ap (length {A = ℕ}) e))
        | inr high ↦ (let e = within_high label low end x xs high in omega (arith, rest, ap (length {A = ℕ}) e))
      ]
    ]

-- an element of the list is among them exactly if its label is within the bounds
pub has_within : (label : ℕ → ℕ) (low end : ℕ) (xs : List ℕ) (y : ℕ) → has y xs ≡ true → low ≤ label y → label y < end
    → has y (elements_within label low end xs) ≡ true
has_within label low end [] y h l m = cc
has_within label low end (x ∷ xs) y h l m = elim (cases_eq x y) [
  | inl same ↦ (
      let at : label x ≡ label y = ap label same in
      let e = within_yes label low end x xs (omega (arith, at, l)) (omega (arith, at, m)) in
      subst (λ ys. has y ys ≡ true) (sym e)
      (subst (λ z. has z (x ∷ elements_within label low end xs) ≡ true) same (has_head x (elements_within label low end xs))))
  | inr apart ↦ (
      let rest = has_within label low end xs y (rw (ne_eqb x y apart) at h) l m in
      elim (cases_lt (label x) low) [
        | inl less ↦ subst (λ ys. has y ys ≡ true) (sym (within_low label low end x xs less)) rest
        | inr from_low ↦ elim (cases_lt (label x) end) [
          | inl inside ↦ subst (λ ys. has y ys ≡ true) (sym (within_yes label low end x xs from_low inside))
              (has_later x (elements_within label low end xs) y rest)
          | inr high ↦ subst (λ ys. has y ys ≡ true) (sym (within_high label low end x xs high)) rest
        ]
      ])
]

pub record IsWithin (label : ℕ → ℕ) (low end : ℕ) (xs : List ℕ) (y : ℕ) : Type 0 where
  pub there : has y xs ≡ true
  pub above : low ≤ label y
  pub below : label y < end

wider : (label : ℕ → ℕ) (low end x : ℕ) (xs : List ℕ) (y : ℕ) → IsWithin label low end xs y → IsWithin label low end (x ∷ xs) y
wider label low end x xs y w = record { there = has_later x xs y w.there; above = w.above; below = w.below }

pub within_has : (label : ℕ → ℕ) (low end : ℕ) (xs : List ℕ) (y : ℕ) → has y (elements_within label low end xs) ≡ true
    → IsWithin label low end xs y
within_has label low end [] y h = cc
within_has label low end (x ∷ xs) y h = elim (cases_lt (label x) low) [
  | inl less ↦ wider label low end x xs y
      (within_has label low end xs y (subst (λ ys. has y ys ≡ true) (within_low label low end x xs less) h))
  | inr from_low ↦ elim (cases_lt (label x) end) [
    | inr high ↦ wider label low end x xs y
        (within_has label low end xs y (subst (λ ys. has y ys ≡ true) (within_high label low end x xs high) h))
    | inl inside ↦ (
        let found : has y (x ∷ elements_within label low end xs) ≡ true =
        subst (λ ys. has y ys ≡ true) (within_yes label low end x xs from_low inside) h in
        elim (cases_eq x y) [
          | inl same ↦ subst (λ z. IsWithin label low end (x ∷ xs) z) same
              record { there = has_head x xs; above = from_low; below = inside }
          | inr apart ↦ wider label low end x xs y (within_has label low end xs y (rw (ne_eqb x y apart) at found))
        ])
  ]
]

-- their labels rise too
pub within_rises : (label : ℕ → ℕ) (low end bottom top : ℕ) (xs : List ℕ) → LabelsRise label bottom top xs → low ≤ end
    → bottom ≤ end → LabelsRise label (max low bottom) end (elements_within label low end xs)
within_rises label low end bottom top [] r l m = omega (arith, l, m)
within_rises label low end bottom top (x ∷ xs) r l m =
    let here = r.0 in
    elim (cases_lt (label x) low) [
      | inl less ↦ subst (LabelsRise label (max low bottom) end) (sym (within_low label low end x xs less))
          (let bound : max low (label x + 1) ≡ max low bottom = omega (arith, less, here) in
          subst (λ b. LabelsRise label b end (elements_within label low end xs)) bound
          (within_rises label low end (label x + 1) top xs r.1 l (omega (arith, less, l))))
      | inr from_low ↦ elim (cases_lt (label x) end) [
        | inl inside ↦ subst (LabelsRise label (max low bottom) end) (sym (within_yes label low end x xs from_low inside)) (
          omega (arith, from_low, here),
          (let bound : max low (label x + 1) ≡ label x + 1 = omega (arith, from_low) in
              subst (λ b. LabelsRise label b end (elements_within label low end xs)) bound
              (within_rises label low end (label x + 1) top xs r.1 l (omega (arith, inside)))),
        )
        | inr high ↦ (
            let none = nothing (elements_within label low end xs)
            (count_below label low end (label x + 1) top xs r.1 (omega (arith, high))) in
            subst (LabelsRise label (max low bottom) end) (sym (within_high label low end x xs high ∙ none)) (omega (arith, l, m)))
      ]
    ]
  where
    nothing : (ys : List ℕ) → length ys ≡ 0 → ys ≡ []
    nothing [] e = refl
    nothing (y ∷ ys) e = absurd (omega (arith, e))

-- they are next to one another
first_is : (label : ℕ → ℕ) (low end top x : ℕ) (xs : List ℕ) → LabelsRise label (label x + 1) top xs → low ≤ label x
    → 0 < length (elements_within label low end xs) → first_of xs ≡ get_or (elements_within label low end xs) 0 0
first_is label low end top x [] r l some = absurd (omega (arith, some))
first_is label low end top x (w ∷ ws) r l some =
    let less = r.0 in
    elim (cases_lt (label w) end) [
      | inl inside ↦ (let e = within_yes label low end w ws (omega (arith, l, less)) inside in ap (λ ys. get_or ys 0 0) (sym e))
      | inr high ↦ (
          let e = within_high label low end w ws high in
          let none = count_below label low end (label w + 1) top ws r.1 (omega (arith, high)) in
          absurd (omega (arith, none, some, ap (length {A = ℕ}) e)))
    ]

-- the link of the first, or of a later one, with one more element before
linked_at_next : (next : ℕ → ℕ) (x k : ℕ) (ys : List ℕ) → (0 < length ys → next x ≡ get_or ys 0 0)
    → ((j : ℕ) → suc j < length ys → next (get_or ys j 0) ≡ get_or ys (suc j) 0) → suc k < length (x ∷ ys)
    → next (get_or (x ∷ ys) k 0) ≡ get_or (x ∷ ys) (suc k) 0
linked_at_next next x zero ys first later l = first (omega (arith, l))
linked_at_next next x (suc k) ys first later l = later k (omega (arith, l))

pub within_linked : (label next : ℕ → ℕ) (low end bottom top : ℕ) (xs : List ℕ) → LabelsRise label bottom top xs
    → AreLinked next xs → (k : ℕ) → suc k < length (elements_within label low end xs)
    → next (get_or (elements_within label low end xs) k 0) ≡ get_or (elements_within label low end xs) (suc k) 0
within_linked label next low end bottom top [] r c k l = absurd (omega (arith, l))
within_linked label next low end bottom top (x ∷ xs) r c k l =
    let rest : (j : ℕ) → suc j < length (elements_within label low end xs)
    → next (get_or (elements_within label low end xs) j 0) ≡ get_or (elements_within label low end xs) (suc j) 0 =
    within_linked label next low end (label x + 1) top xs r.1 c.1 in
    elim (cases_lt (label x) low) [
      | inl less ↦ (
          let e = within_low label low end x xs less in
          subst (λ ys. next (get_or ys k 0) ≡ get_or ys (suc k) 0) (sym e) (rest k (subst (λ (ys : List ℕ). suc k < length ys) e l)))
      | inr from_low ↦ elim (cases_lt (label x) end) [
        | inr high ↦ (
            let e = within_high label low end x xs high in
            subst (λ ys. next (get_or ys k 0) ≡ get_or ys (suc k) 0) (sym e) (rest k (subst (λ (ys : List ℕ). suc k < length ys) e l)))
        | inl inside ↦ (
            let e = within_yes label low end x xs from_low inside in
            subst (λ ys. next (get_or ys k 0) ≡ get_or ys (suc k) 0) (sym e)
            (linked_at_next next x k (elements_within label low end xs)
            (λ some. c.0 ∙ first_is label low end top x xs r.1 from_low some) rest
            (subst (λ (ys : List ℕ). suc k < length ys) e l)))
      ]
    ]
