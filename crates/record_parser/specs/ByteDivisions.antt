-- Bytes that are divided at a byte.
use Rattle.std.specs.Prelude.{◌≢◌, ℕ, List, All}

-- the byte is not among these
abbrev pub IsFreeOf : ℕ → List ℕ → Type 0
IsFreeOf b bytes = All (λ (x : ℕ). x ≢ b) bytes
