-- Searches in marks, which have numbers in the order of the text.
use Rattle.std.specs.Prelude.{◌≡◌, ◌≤◌, ℕ, List, Bool, length, ◌+◌, Result, Ok, Err, Some, None}
use Rattle.pipe_model.specs.declared.bounds.TheConstants.{LARGEST_PROGRAM}
use Rattle.wave_laws.specs.Waves.MarkFlags.{first_true}

-- the number of the first mark found, or else the number after the last one, if the first one has the number `next`
abbrev pub Finds : Result ℕ ℕ → ℕ → List Bool → Type 0
Finds (Ok end) next flags = (first_true next flags ≡ None) × (end ≡ next + length flags)
Finds (Err found) next flags = first_true next flags ≡ Some found

-- the numbers of the marks are within the bound on programs
abbrev pub Fits : ℕ → List Bool → Type 0
Fits next flags = next + length flags ≤ LARGEST_PROGRAM
