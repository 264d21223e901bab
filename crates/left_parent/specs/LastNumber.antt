-- The last number of a list that is at most another.
use Rattle.std.specs.Prelude.{ℕ, ℤ, ◌<◌, pos, ◌<ℤ◌, ◌≤ℤ◌, List, length, slice_index_or}

-- the number at index j is at most s, and all after it are greater
pub record IsLastUpTo (numbers : List ℤ) (j : ℕ) (s : ℤ) : Type 0 where
  pub within : j < length numbers
  pub up_to : slice_index_or numbers j (pos 0) ≤ℤ s
  pub last : (k : ℕ) → j < k → k < length numbers → s <ℤ slice_index_or numbers k (pos 0)

-- the numbers rise
abbrev pub AreRising : List ℤ → Type 0
AreRising numbers = (j k : ℕ) → j < k → k < length numbers → slice_index_or numbers j (pos 0) <ℤ slice_index_or numbers k (pos 0)
