-- The generated workload: a source of a given size, and its input, whose items are made from a seed.
use Rattle.std.specs.Prelude.{ℕ, zero, suc, ◌%◌, List, [], ◌∷◌, ◌++◌, codes}
use Rattle.std.specs.Fmt.{decimal}
use Rattle.std.specs.List.{flat_map}
use Rattle.pipe_gen.specs.Choices.{choice}
use Rattle.pipe_gen.specs.declared.workload.TheConstants.{ITEM_VALUES}

-- ---- the input

-- item `index` of the input, counted from 1
abbrev pub item : (seed index : ℕ) → ℕ
item seed index = choice seed index % ITEM_VALUES

-- a number on a line
abbrev pub number_line : ℕ → List ℕ
number_line n = decimal n ++ codes "\n"

-- the first `size` items of the seed, each on a line
abbrev pub input_text : (seed size : ℕ) → List ℕ
input_text seed zero = []
input_text seed (suc k) = input_text seed k ++ number_line (item seed (suc k))

-- ---- the source

-- the limits of a source of this size
abbrev pub limits_line : ℕ → List ℕ
limits_line size = codes "limits iterations " ++ (decimal size ++ (codes ", stages 6, steps 100, emits " ++ (decimal size ++ codes ";\n")))

-- the lines after the limits
abbrev pub pipeline_lines : List (List ℕ)
pipeline_lines =
    codes "cell sum = 0;"
    ∷ codes "pipe_while (more()) {"
    ∷ codes "  let x = take();"
    ∷ codes "  pipe_continue(1);"
    ∷ codes "  let a = x * 3 + 1;"
    ∷ codes "  pipe_continue(2);"
    ∷ codes "  a = a % 1024;"
    ∷ codes "  pipe_continue(3);"
    ∷ codes "  a = a * a;"
    ∷ codes "  pipe_continue(4);"
    ∷ codes "  a = a % 1000;"
    ∷ codes "  pipe_wait(5);"
    ∷ codes "  sum = sum + a;"
    ∷ codes "  emit sum;"
    ∷ codes "}"
    ∷ []

-- the source of this size
abbrev pub source_text : ℕ → List ℕ
source_text size = limits_line size ++ flat_map (λ line. line ++ codes "\n") pipeline_lines
