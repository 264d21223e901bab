-- What is among the elements of a list.
use Rattle.std.proofs.Common.{List, ◌++◌, [], ◌∷◌, ◌⊎◌, inr, inl, ◌≡◌, refl, ℕ, zero, suc, ◌<◌, length, get_or, arith}
use Rattle.pipe_model.specs.Races.DeterminacyRaces.{Among, Here, Later}

-- an element of the first list is among both
pub among_left : {A : Type 0} (x : A) (xs ys : List A) → Among x xs → Among x (xs ++ ys)
among_left x [] ys m = elim m [ ]
among_left x (z ∷ xs) ys Here = Here
among_left x (z ∷ xs) ys (Later y m) = Later z (among_left x xs ys m)

-- an element of the second list is among both
pub among_right : {A : Type 0} (x : A) (xs ys : List A) → Among x ys → Among x (xs ++ ys)
among_right x [] ys m = m
among_right x (z ∷ xs) ys m = Later z (among_right x xs ys m)

-- an element of both is one of the first or of the second
pub among_either : {A : Type 0} (x : A) (xs ys : List A) → Among x (xs ++ ys) → Among x xs ⊎ Among x ys
among_either x [] ys m = inr m
among_either x (z ∷ xs) ys Here = inl Here
among_either x (z ∷ xs) ys (Later y m) = elim (among_either x xs ys m) [ inl l ↦ inl (Later z l) | inr r ↦ inr r ]

-- a list of one element has no other
pub only_one : {A : Type 0} (x y : A) → Among x (y ∷ []) → x ≡ y
only_one x y Here = refl
only_one x y (Later z m) = elim m [ ]

-- nothing is among the elements of an empty list
pub none_among : {A : Type 0} (x : A) → Among x [] → ⊥
none_among x m = elim m [ ]

-- what is at an index is among the elements
pub among_at : {A : Type 0} (xs : List A) (k : ℕ) (d : A) → k < length xs → Among (get_or xs k d) xs
among_at [] k d w = absurd (omega (arith, w))
among_at (x ∷ xs) zero d w = Here
among_at (x ∷ xs) (suc k) d w = Later x (among_at xs k d (omega (arith, w)))
