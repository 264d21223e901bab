-- Cells: the value of each cell after a list of accesses, by what was written to it.
-- Cell 1 is the output: each write to it is one output, and its value is their number.
use Rattle.std.specs.Prelude.{◌≡◌, ℕ, ℤ, List, [], ◌∷◌, ◌++◌, Bool, true, false, pos, length, slice_index_or, ◌==◌, if◌then◌else◌, min}
use Rattle.std.specs.Prelude.{take}
use Rattle.pipe_model.specs.declared.access.Access.{Access}
use Rattle.pipe_model.specs.declared.access.AccessKind.{AccessKind}
use Rattle.pipe_model.specs.declared.access.AccessKind.TheVariants.{Read, Write}

-- what the cells hold before the first access, by cell number, and how many numbers the output keeps
pub record InitialStore : Type 0 where
  pub values : List ℤ
  pub output_limit : ℕ

-- the value written, if this is a write to the cell
abbrev pub wrote_as : AccessKind → Bool → ℤ → List ℤ
wrote_as Read same v = []
wrote_as Write true v = v ∷ []
wrote_as Write false v = []

-- what an access writes to cell c: one value or none
abbrev pub wrote : ℕ → Access → List ℤ
wrote c a = wrote_as a.kind (a.cell.0 == c) a.value

-- the values that were written to cell c, in order
abbrev pub written : ℕ → List Access → List ℤ
written c [] = []
written c (a ∷ rest) = wrote c a ++ written c rest

-- the last of a list, or d if it is empty
abbrev pub last_or : ℤ → List ℤ → ℤ
last_or d [] = d
last_or d (v ∷ vs) = last_or v vs

-- the value of cell c after these writes to it; for the output their number, up to the limit
abbrev pub value_from : InitialStore → ℕ → List ℤ → ℤ
value_from store c vs = if c == 1 then pos (min (length vs) store.output_limit) else last_or (slice_index_or store.values c (pos 0)) vs

-- the value of cell c after these accesses
abbrev pub value_after : InitialStore → List Access → ℕ → ℤ
value_after store accesses c = value_from store c (written c accesses)

-- the output after these accesses
abbrev pub output_of : InitialStore → List Access → List ℤ
output_of store accesses = take store.output_limit (written 1 accesses)

-- the access is a write, or has the value of its cell
abbrev pub HasReply : InitialStore → List Access → Access → Type 0
HasReply store before a = a.kind ≡ Read → a.value ≡ value_after store before a.cell.0
