-- Marks at which the checker finds no fault.
use Rattle.std.proofs.Common.{◌≡◌, ◌∙◌, ap, refl, ℕ, List, [], ◌∷◌, ◌++◌, ◌+◌, Option, Some, None}
use Rattle.pipe_model.specs.Language.CheckingRules.{Fault, CheckingRule, broken_at, fault_or, first_fault, limit_fault_or}
use Rattle.pipe_model.specs.Language.Marks.{Mark}

abbrev pub AreUnbroken : List Mark → Type 0
AreUnbroken [] = Unit {0}
AreUnbroken (m ∷ ms) = (broken_at m ≡ None) × AreUnbroken ms

pub none_or_none : (o : Option CheckingRule) (n : ℕ) (rest : Option Fault) → fault_or o n rest ≡ None → (o ≡ None) × (rest ≡ None)
none_or_none None n rest h = (refl, h)
none_or_none (Some rule) n rest h = absurd (cc)

pub unbroken : (n : ℕ) (ms : List Mark) → first_fault n ms ≡ None → AreUnbroken ms
unbroken n [] h = tt
unbroken n (m ∷ ms) h =
    let both = none_or_none (broken_at m) n (first_fault (n + 1) ms) h in
    (both.0, unbroken (n + 1) ms both.1)

pub faultless : (n : ℕ) (ms : List Mark) → AreUnbroken ms → first_fault n ms ≡ None
faultless n [] u = refl
faultless n (m ∷ ms) u = ap (λ o. fault_or o n (first_fault (n + 1) ms)) u.0 ∙ faultless (n + 1) ms u.1

pub unbroken_left : (xs ys : List Mark) → AreUnbroken (xs ++ ys) → AreUnbroken xs
unbroken_left [] ys u = tt
unbroken_left (x ∷ xs) ys u = (u.0, unbroken_left xs ys u.1)

pub unbroken_right : (xs ys : List Mark) → AreUnbroken (xs ++ ys) → AreUnbroken ys
unbroken_right [] ys u = u
unbroken_right (x ∷ xs) ys u = unbroken_right xs ys u.1

pub unbroken_both : (xs ys : List Mark) → AreUnbroken xs → AreUnbroken ys → AreUnbroken (xs ++ ys)
unbroken_both [] ys u v = v
unbroken_both (x ∷ xs) ys u v = (u.0, unbroken_both xs ys u.1 v)

-- a program without a fault has its limits in their ranges, and no mark with a fault
pub limits_and_marks : (o : Option ℕ) (rest : Option Fault) → limit_fault_or o rest ≡ None → (o ≡ None) × (rest ≡ None)
limits_and_marks None rest h = (refl, h)
limits_and_marks (Some which) rest h = absurd (cc)
