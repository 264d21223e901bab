-- Sums over lists.
use Rattle.std.specs.Prelude.{ℕ, List, [], ◌∷◌, ◌+◌}

-- the sum of a measure over a list
abbrev pub total : {X : Type 0} → (X → ℕ) → List X → ℕ
total m [] = 0
total m (x ∷ xs) = m x + total m xs
