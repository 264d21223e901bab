-- Labels along a list of elements, given by any function.
use Rattle.std.specs.Prelude.{ℕ, ◌+◌, ◌≤◌, List, [], ◌∷◌}

-- the labels rise strictly along the list, from `low` on, and stay below `top`
abbrev pub LabelsRise : (ℕ → ℕ) → ℕ → ℕ → List ℕ → Type 0
LabelsRise label low top [] = low ≤ top
LabelsRise label low top (x ∷ xs) = (low ≤ label x) × LabelsRise label (label x + 1) top xs
