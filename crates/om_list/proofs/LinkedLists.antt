-- Lists that are kept as links, and an insertion of an element with a label between two others.
use Rattle.std.proofs.Common.{◌≡◌, ◌≢◌, ℕ, zero, suc, ◌+◌, ◌<◌, List, [], ◌∷◌, length, true, refl, sym, ap, ◌∙◌, subst, arith, eq-eqb}
use Rattle.std.proofs.Common.{ne_eqb, ◌⊎◌, inl, inr}
use Rattle.std.proofs.lemmas.Bool.{cases_eq}
use Rattle.pipe_model.specs.Orders.OrderList.{has, insert_after}
use Rattle.om_relabel.specs.declared.links.TheConstants.{END}
use Rattle.om_relabel.specs.Labels.{LabelsRise}
use Rattle.om_relabel.specs.Links.{AreLinked, AreLinkedBack, first_of, followed, label_or}
use Rattle.om_relabel.proofs.RisingLabels.{has_head, has_later, head_once}

-- following the links gives the list
pub followed_is : (next : ℕ → ℕ) (xs : List ℕ) (n : ℕ) → n ≡ length xs → AreLinked next xs
    → followed next (first_of xs) n ≡ xs
followed_is next [] zero e c = refl
followed_is next [] (suc n) e c = absurd (omega (arith, e))
followed_is next (x ∷ xs) zero e c = absurd (omega (arith, e))
followed_is next (x ∷ xs) (suc n) e c =
    ap (λ l. x ∷ l) (ap (λ y. followed next y n) c.0 ∙ followed_is next xs n (omega (arith, e)) c.1)

-- a link leads to an element, or is END
pub link_within : (next : ℕ → ℕ) (xs : List ℕ) (x : ℕ) → AreLinked next xs → has x xs ≡ true
    → (next x ≡ END) ⊎ (has (next x) xs ≡ true)
link_within next [] x c h = cc
link_within next (z ∷ zs) x c h = elim (cases_eq z x) [
  | inl same ↦ subst (λ y. (next y ≡ END) ⊎ (has (next y) (z ∷ zs) ≡ true)) same (first zs c.0)
  | inr apart ↦ elim (link_within next zs x c.1 (rw (ne_eqb z x apart) at h)) [
    | inl end ↦ inl end
    | inr there ↦ inr (has_later z zs (next x) there)
  ]
]
  where
    first : (ys : List ℕ) → next z ≡ first_of ys → (next z ≡ END) ⊎ (has (next z) (z ∷ ys) ≡ true)
    first [] e = inl e
    first (w ∷ ws) e = inr (subst (λ u. has u (z ∷ (w ∷ ws)) ≡ true) (sym e) (has_later z (w ∷ ws) w (has_head w ws)))

-- how the links change if element e is inserted after x
pub record LinksAfter (next next' : ℕ → ℕ) (x e : ℕ) : Type 0 where
  pub here : next' x ≡ e
  pub new : next' e ≡ next x
  pub other : (y : ℕ) → y < e → y ≢ x → next' y ≡ next y

linked_same : (next next' : ℕ → ℕ) (xs : List ℕ) → ((y : ℕ) → has y xs ≡ true → next' y ≡ next y)
    → AreLinked next xs → AreLinked next' xs
linked_same next next' [] same c = tt
linked_same next next' (x ∷ xs) same c =
    (same x (has_head x xs) ∙ c.0, linked_same next next' xs (λ y h. same y (has_later x xs y h)) c.1)

pub first_inserted : (x e : ℕ) (xs : List ℕ) → first_of (insert_after x e xs) ≡ first_of xs
first_inserted x e [] = refl
first_inserted x e (y ∷ ys) = elim (cases_eq y x) [
  | inl same ↦ rw (eq-eqb y x same) refl
  | inr apart ↦ rw (ne_eqb y x apart) refl
]

pub length_inserted : (x e : ℕ) (xs : List ℕ) → has x xs ≡ true → length (insert_after x e xs) ≡ length xs + 1
length_inserted x e [] h = cc
length_inserted x e (y ∷ ys) h = elim (cases_eq y x) [
  | inl same ↦ rw (eq-eqb y x same) (omega arith)
  | inr apart ↦ (
      let rest = length_inserted x e ys (rw (ne_eqb y x apart) at h) in
      rw (ne_eqb y x apart) (omega (arith, rest)))
]

-- after an insertion the links are the links of the list with the new element
pub linked_inserted : (next next' label : ℕ → ℕ) (low top : ℕ) (xs : List ℕ) (x e : ℕ) → LabelsRise label low top xs
    → ((y : ℕ) → has y xs ≡ true → y < e) → LinksAfter next next' x e → AreLinked next xs
    → AreLinked next' (insert_after x e xs)
linked_inserted next next' label low top [] x e r below changed c = tt
linked_inserted next next' label low top (z ∷ zs) x e r below changed c = elim (cases_eq z x) [
  | inl same ↦ rw (eq-eqb z x same) (
    ap next' same ∙ changed.here,
    (
      changed.new ∙ (ap next (sym same) ∙ c.0),
      linked_same next next' zs (λ y h. changed.other y (below y (has_later z zs y h))
          (λ q. head_once label low top z zs r y h (q ∙ sym same))) c.1,
    ),
  )
  | inr apart ↦ rw (ne_eqb z x apart) (
    changed.other z (below z (has_head z zs)) apart ∙ (c.0 ∙ sym (first_inserted x e zs)),
    linked_inserted next next' label (label z + 1) top zs x e r.1 (λ y h. below y (has_later z zs y h)) changed c.1,
  )
]

-- the labels still rise if the new element's label is between the labels of x and of the next element
pub rises_inserted : (next label : ℕ → ℕ) (low top : ℕ) (xs : List ℕ) (x e : ℕ)
    → ((y : ℕ) → has y xs ≡ true → y ≢ END) → LabelsRise label low top xs → AreLinked next xs → label x < label e
    → label e < label_or label top (next x) → LabelsRise label low top (insert_after x e xs)
rises_inserted next label low top [] x e ends r c above below = r
rises_inserted next label low top (z ∷ zs) x e ends r c above below = elim (cases_eq z x) [
  | inl same ↦ (
      let after : next x ≡ first_of zs = ap next (sym same) ∙ c.0 in
      let a : label z ≡ label x = ap label same in
      rw (eq-eqb z x same) (
        r.0,
        (
          omega (arith, a, above),
          rest zs (λ y h. ends y (has_later z zs y h)) r.1
              (subst (λ u. label e < label_or label top u) after below),
        ),
      ))
  | inr apart ↦ rw (ne_eqb z x apart) (
    r.0,
    rises_inserted next label (label z + 1) top zs x e
        (λ y h. ends y (has_later z zs y h)) r.1 c.1 above below,
  )
]
  where
    rest : (ys : List ℕ) → ((y : ℕ) → has y ys ≡ true → y ≢ END) → LabelsRise label (label z + 1) top ys
        → label e < label_or label top (first_of ys) → LabelsRise label (label e + 1) top ys
    rest [] no_end rises less = omega (arith, less)
    rest (w ∷ ws) no_end rises less =
        let less' : label e < label w = rw (ne_eqb w END (no_end w (has_head w ws))) at less in
        (omega (arith, less'), rises.1)

-- how the links back change if element e is inserted between x and `after`
pub record BackAfter (prev prev' : ℕ → ℕ) (x e after : ℕ) : Type 0 where
  pub new : prev' e ≡ x
  pub next : after ≢ END → prev' after ≡ e
  pub other : (y : ℕ) → y < e → y ≢ after → prev' y ≡ prev y

back_same : (prev prev' : ℕ → ℕ) (before : ℕ) (xs : List ℕ) → ((y : ℕ) → has y xs ≡ true → prev' y ≡ prev y)
    → AreLinkedBack prev before xs → AreLinkedBack prev' before xs
back_same prev prev' before [] same b = tt
back_same prev prev' before (x ∷ xs) same b =
    (same x (has_head x xs) ∙ b.0, back_same prev prev' x xs (λ y h. same y (has_later x xs y h)) b.1)

-- after the new element
back_rest : (prev prev' label : ℕ → ℕ) (low top : ℕ) (xs : List ℕ) (x e : ℕ) → LabelsRise label low top xs
    → ((y : ℕ) → has y xs ≡ true → (y < e) × (y ≢ END)) → BackAfter prev prev' x e (first_of xs) → AreLinkedBack prev x xs
    → AreLinkedBack prev' e xs
back_rest prev prev' label low top [] x e r below changed b = tt
back_rest prev prev' label low top (w ∷ ws) x e r below changed b = (
  changed.next (below w (has_head w ws)).1,
  back_same prev prev' w ws (λ y h. changed.other y (below y (has_later w ws y h)).0 (head_once label low top w ws r y h)) b.1,
)

-- after an insertion the links back are the links back of the list with the new element
pub back_inserted : (next prev prev' label : ℕ → ℕ) (low top before : ℕ) (xs : List ℕ) (x e : ℕ) → LabelsRise label low top xs
    → ((y : ℕ) → has y xs ≡ true → (y < e) × (y ≢ END)) → AreLinked next xs → has x xs ≡ true
    → BackAfter prev prev' x e (next x) → AreLinkedBack prev before xs → AreLinkedBack prev' before (insert_after x e xs)
back_inserted next prev prev' label low top before [] x e r below c h changed b = tt
back_inserted next prev prev' label low top before (z ∷ zs) x e r below c h changed b = elim (cases_eq z x) [
  | inl same ↦ (
      let after : next x ≡ first_of zs = ap next (sym same) ∙ c.0 in
      let apart : z ≢ next x = λ q. first_apart zs (λ y m. head_once label low top z zs r y m) (λ m. (below z (has_head z zs)).1 m)
      (q ∙ after) in
      rw (eq-eqb z x same) (
        changed.other z (below z (has_head z zs)).0 apart ∙ b.0,
        (
          changed.new ∙ sym same,
          back_rest prev prev' label (label z + 1) top zs x e r.1 (λ y m. below y (has_later z zs y m))
              (subst (BackAfter prev prev' x e) after changed) (subst (λ y. AreLinkedBack prev y zs) same b.1),
        ),
      ))
  | inr apart ↦ (
      let there : has x zs ≡ true = rw (ne_eqb z x apart) at h in
      let other : z ≢ next x = λ q. elim (link_within next zs x c.1 there) [
        | inl end ↦ (below z (has_head z zs)).1 (q ∙ end)
        | inr later ↦ head_once label low top z zs r (next x) later (sym q)
      ] in
      rw (ne_eqb z x apart) (
        changed.other z (below z (has_head z zs)).0 other ∙ b.0,
        back_inserted next prev prev' label (label z + 1) top z zs x e r.1 (λ y m. below y (has_later z zs y m)) c.1 there changed b.1,
      ))
]
  where
    first_apart : (ys : List ℕ) → ((y : ℕ) → has y ys ≡ true → y ≢ z) → z ≢ END → z ≢ first_of ys
    first_apart [] other end = end
    first_apart (w ∷ ws) other end = λ q. other w (has_head w ws) (sym q)
