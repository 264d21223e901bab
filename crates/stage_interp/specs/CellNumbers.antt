-- How many cells a memory can have.
use Rattle.std.specs.Prelude.{ℕ}

-- as many as 32-bit numbers of cells can name
abbrev pub most_cell_ids : ℕ
most_cell_ids = 4294967296
