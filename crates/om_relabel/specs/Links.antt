-- A list as links from each element to the next. The link of the last element is END.
use Rattle.std.specs.Prelude.{◌≡◌, ℕ, zero, suc, List, [], ◌∷◌, ◌==◌, if◌then◌else◌, length, slice_index}
use Rattle.om_relabel.specs.declared.links.TheConstants.{END, TOP}

-- the first element; END if there is none
abbrev pub first_of : List ℕ → ℕ
first_of [] = END
first_of (x ∷ xs) = x

-- each element's link is the next element
abbrev pub AreLinked : (ℕ → ℕ) → List ℕ → Type 0
AreLinked next [] = Unit {0}
AreLinked next (x ∷ xs) = (next x ≡ first_of xs) × AreLinked next xs

-- each element's link is the element before it; the first element's link is `before`
abbrev pub AreLinkedBack : (ℕ → ℕ) → ℕ → List ℕ → Type 0
AreLinkedBack prev before [] = Unit {0}
AreLinkedBack prev before (x ∷ xs) = (prev x ≡ before) × AreLinkedBack prev x xs

-- n elements from x on, by their links
abbrev pub followed : (ℕ → ℕ) → ℕ → ℕ → List ℕ
followed next x zero = []
followed next x (suc n) = x ∷ followed next (next x) n

-- all elements from element 0 on, by their links
abbrev pub chain : List ℕ → List ℕ
chain next = followed (λ x. slice_index next x) 0 (length next)

-- the label of the element that a link leads to; `top` for END
abbrev pub label_or : (ℕ → ℕ) → ℕ → ℕ → ℕ
label_or label top u = if u == END then top else label u

-- the same, for labels in a list
abbrev pub label_after : List ℕ → ℕ → ℕ
label_after labels u = label_or (λ x. slice_index labels x) TOP u
