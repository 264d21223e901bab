-- The rules of a table of operators: as facts about each row, and as one test of the whole table.
use Rattle.std.specs.Prelude.{◌≡◌, ◌≢◌, ℕ, ◌+◌, ◌<◌, ◌≤◌, Bool, true, not, List, [], ◌∷◌, length, nat_le, ◌==◌, ◌&&◌, slice_index_or, All}
use Rattle.std.specs.List.{list_all}
use Rattle.std.specs.Str.{bytes_eq}
use Rattle.op_table.specs.declared.table.OpRow.{OpRow}
use Rattle.op_table.specs.Tables.{text_of}

-- the table obeys its rules at each row
pub record ObeysRules (rows : List OpRow) : Type 0 where
  pub lengths : All (λ row. (1 ≤ row.length) × (row.length ≤ 2)) rows
  pub levels : All (λ row. (1 ≤ row.level) × (row.level ≤ 6)) rows
  pub codes : (k : ℕ) (d : OpRow) → k < length rows → (slice_index_or rows k d).code ≡ k + 1
  pub differ : (j k : ℕ) (d : OpRow) → j < k → k < length rows → text_of (slice_index_or rows j d) ≢ text_of (slice_index_or rows k d)

-- the lengths and levels of the row are in their ranges, and it has this code
abbrev pub is_row_with : ℕ → OpRow → Bool
is_row_with code row = (row.code == code) && (nat_le 1 row.length && (nat_le row.length 2 && (nat_le 1 row.level && nat_le row.level 6)))

-- the rows obey the rules, and their codes rise one by one from this one
abbrev pub obey_from : ℕ → List OpRow → Bool
obey_from code [] = true
obey_from code (row ∷ rows) = is_row_with code row &&
    (list_all (λ other. not (bytes_eq (text_of row) (text_of other))) rows && obey_from (code + 1) rows)
