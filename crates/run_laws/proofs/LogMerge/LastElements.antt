-- A list is empty or has a last element.
use Rattle.std.proofs.Common.{List, [], ◌∷◌, ◌++◌}

pub data LastOf {A : Type 0} : List A → Type 0 where
  IsEmpty : LastOf []
  HasLast : (xs : List A) (x : A) → LastOf (xs ++ x ∷ [])

pub last_of_list : {A : Type 0} (xs : List A) → LastOf xs
last_of_list [] = IsEmpty
last_of_list (x ∷ xs) = elim (last_of_list xs) as (λ l h. LastOf (x ∷ l)) [
  | IsEmpty ↦ HasLast [] x
  | HasLast ys y ↦ HasLast (x ∷ ys) y
]
