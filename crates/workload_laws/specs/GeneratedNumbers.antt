-- The numbers of a generated input.
use Rattle.std.specs.Prelude.{◌≤◌, ℕ, ℤ, zero, suc, pos, List, [], ◌∷◌}
use Rattle.pipe_gen.specs.Workload.{input_text, item}
use Rattle.pipe_gen.specs.declared.workload.TheConstants.{MOST_SIZE}
use Rattle.pipe_io.specs.InputFile.{AreNumbersOf}

-- `count` items of a seed, from this index on
abbrev pub items_from : (seed index count : ℕ) → List ℤ
items_from seed index zero = []
items_from seed index (suc n) = pos (item seed index) ∷ items_from seed (suc index) n

-- each generated input is read as its items
abbrev pub GeneratedInputsAreRead : Type 0
GeneratedInputsAreRead = (seed size : ℕ) → size ≤ MOST_SIZE → AreNumbersOf (input_text seed size) (items_from seed 1 size)
