-- Numbers that are mixed from a seed and an index, and from nothing else.
use Rattle.std.specs.Prelude.{ℕ, ◌+◌, ◌*◌, ◌/◌, ◌%◌, bit_xor}
use Rattle.pipe_gen.specs.declared.choices.TheConstants.{BYTE_VALUES, CHOICE_VALUES, INDEX_FACTOR, MIX_FACTOR, SEED_FACTOR}

-- a number below 65536, with its upper byte mixed into its lower byte
abbrev pub mixed : ℕ → ℕ
mixed n = bit_xor n (n / BYTE_VALUES)

-- choice `index` of a seed
abbrev pub choice : (seed index : ℕ) → ℕ
choice seed index = mixed (MIX_FACTOR * mixed ((SEED_FACTOR * seed + INDEX_FACTOR * index) % CHOICE_VALUES) % CHOICE_VALUES)
