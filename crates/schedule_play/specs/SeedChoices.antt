-- The choices of a seed.
use Rattle.std.specs.Prelude.{ℕ, List, map}
use Rattle.std.specs.List.{range_with_len}
use Rattle.pipe_gen.specs.Choices.{choice}

-- the first `count` choices of a seed; the first has index 1
abbrev pub first_choices : (seed count : ℕ) → List ℕ
first_choices seed count = map (choice seed) (range_with_len 1 count)
