-- Whether links and labels belong together, by tests that the checker computes.
use Rattle.std.proofs.Common.{◌≡◌, sym, subst, refl, ℕ, zero, suc, ◌+◌, ◌<◌, arith, List, [], ◌∷◌, Bool, true, false, ◌&&◌, length, eqb}
use Rattle.std.proofs.Common.{inl, inr, if◌then◌else◌}
use Rattle.std.proofs.Math.Dec.{leb}
use Rattle.std.proofs.lemmas.Bool.{cases_lt, eqb-true, leb-true}
use Rattle.pipe_model.specs.Orders.OrderList.{has}
use Rattle.om_relabel.specs.LabelledLinks.{AreLabelled, elements, label_of}
use Rattle.om_relabel.specs.Labels.{LabelsRise}
use Rattle.om_relabel.specs.Links.{AreLinked, AreLinkedBack, chain, first_of}
use Rattle.om_relabel.specs.declared.links.Links.{Links}
use Rattle.om_relabel.specs.declared.links.TheConstants.{END, MOST_ELEMENTS, TOP}
use Rattle.std.specs.Prelude.{slice_index}

both : (a b : Bool) → (a && b) ≡ true → (a ≡ true) × (b ≡ true)
both true b h = (refl, h)
both false b h = absurd (let q : false ≡ true = h in cc)

-- ---- links

abbrev leads : (ℕ → ℕ) → List ℕ → Bool
leads next [] = true
leads next (x ∷ xs) = eqb (next x) (first_of xs) && leads next xs

are_linked : (next : ℕ → ℕ) (l : List ℕ) → leads next l ≡ true → AreLinked next l
are_linked next [] h = tt
are_linked next (x ∷ xs) h = let t = both (eqb (next x) (first_of xs)) (leads next xs) h in
    (eqb-true (next x) (first_of xs) t.0, are_linked next xs t.1)

abbrev leads_back : (ℕ → ℕ) → ℕ → List ℕ → Bool
leads_back prev before [] = true
leads_back prev before (x ∷ xs) = eqb (prev x) before && leads_back prev x xs

are_linked_back : (prev : ℕ → ℕ) (before : ℕ) (l : List ℕ) → leads_back prev before l ≡ true → AreLinkedBack prev before l
are_linked_back prev before [] h = tt
are_linked_back prev before (x ∷ xs) h = let t = both (eqb (prev x) before) (leads_back prev x xs) h in
    (eqb-true (prev x) before t.0, are_linked_back prev x xs t.1)

-- ---- labels

abbrev rises : (ℕ → ℕ) → ℕ → ℕ → List ℕ → Bool
rises label low top [] = leb low top
rises label low top (x ∷ xs) = leb low (label x) && rises label (label x + 1) top xs

labels_rise : (label : ℕ → ℕ) (low top : ℕ) (l : List ℕ) → rises label low top l ≡ true → LabelsRise label low top l
labels_rise label low top [] h = leb-true low top h
labels_rise label low top (x ∷ xs) h =
    let t = both (leb low (label x)) (rises label (label x + 1) top xs) h in
    (leb-true low (label x) t.0, labels_rise label (label x + 1) top xs t.1)

-- ---- elements

abbrev has_all : ℕ → List ℕ → Bool
has_all zero l = true
has_all (suc n) l = has n l && has_all n l

each_has : (n : ℕ) (l : List ℕ) → has_all n l ≡ true → (x : ℕ) → x < n → has x l ≡ true
each_has zero l h x w = absurd (omega (arith, w))
each_has (suc n) l h x w =
    let t = both (has n l) (has_all n l) h in
    elim (cases_lt x n) [
      | inl less ↦ each_has n l t.1 x less
      | inr ge ↦ (let e : x ≡ n = omega (arith, w, ge) in subst (λ k. has k l ≡ true) (sym e) t.0)
    ]

abbrev all_below : ℕ → List ℕ → Bool
all_below n [] = true
all_below n (y ∷ ys) = leb (y + 1) n && all_below n ys

only_below : (n : ℕ) (l : List ℕ) → all_below n l ≡ true → (x : ℕ) → has x l ≡ true → x < n
only_below n [] h x e = absurd (let q : false ≡ true = e in cc)
only_below n (y ∷ ys) h x e = by (eqb y x) refl e (only_below n ys (both (leb (y + 1) n) (all_below n ys) h).1 x)
  where
    t : (leb (y + 1) n ≡ true) × (all_below n ys ≡ true)
    t = both (leb (y + 1) n) (all_below n ys) h

    by : (b : Bool) → eqb y x ≡ b → (if b then true else has x ys) ≡ true → (has x ys ≡ true → x < n) → x < n
    by true same g later = let a = eqb-true y x same in let w = leb-true (y + 1) n t.0 in omega (arith, a, w)
    by false other g later = later g

-- ---- all tests

-- the links with these next elements and elements before, and with these labels
abbrev pub are_labelled : (next prev label : List ℕ) → Bool
are_labelled next prev label =
    eqb (length next) (length label) && (eqb (length prev) (length label) && (leb 1 (length label) && (leb (length label) MOST_ELEMENTS
    && (has_all (length label) (chain next) && (all_below (length label) (chain next) && (leads (λ x. slice_index next x) (chain next)
    && (leads_back (λ x. slice_index prev x) END (chain next) && rises (λ x. slice_index label x) 0 TOP (chain next))))))))

labelled_by_test : (links : Links) → are_labelled links.next.items links.prev.items links.label.items ≡ true → AreLabelled links
labelled_by_test links h =
    let n = length links.label.items in
    let a = both _ _ h in
    let b = both _ _ a.1 in
    let c = both _ _ b.1 in
    let d = both _ _ c.1 in
    let e = both _ _ d.1 in
    let f = both _ _ e.1 in
    let g = both _ _ f.1 in
    let i = both _ _ g.1 in
    record {
      same = eqb-true (length links.next.items) n a.0;
      same_back = eqb-true (length links.prev.items) n b.0;
      some = leb-true 1 n c.0;
      bounded = leb-true n MOST_ELEMENTS d.0;
      each = each_has n (elements links) e.0;
      only = only_below n (elements links) f.0;
      linked = are_linked (λ x. slice_index links.next.items x) (elements links) g.0;
      back = are_linked_back (λ x. slice_index links.prev.items x) END (elements links) i.0;
      rises = labels_rise (label_of links) 0 TOP (elements links) i.1;
    }

pub labelled_lists : (links : Links) (next prev label : List ℕ) → links.next.items ≡ next → links.prev.items ≡ prev
    → links.label.items ≡ label
    → are_labelled next prev label ≡ true → AreLabelled links
labelled_lists links next prev label a b c h = labelled_by_test links (rw (a, b, c) h)
