-- The possible results of reading a part of a file.
use Rattle.std.specs.Prelude.{◌≡◌, ℕ, ◌-◌, ◌≤◌, ◌↔◌, List, length, take, drop, Option, Some, None, Bool, true, false}
use Rattle.pipe_io.specs.declared.files.ReadPart.{ReadPart}
use Rattle.pipe_io.specs.declared.files.ReadPart.TheVariants.{Got, Missing, Failed}

-- the content of the files by name; none if there is no such file
abbrev pub Content : Type 0
Content = List ℕ → Option (List ℕ)

-- whether the read failed
abbrev pub is_read_fault : ReadPart → Bool
is_read_fault (Got n) = false
is_read_fault Missing = false
is_read_fault Failed = true

-- how many bytes were read
abbrev pub bytes_read : ReadPart → ℕ
bytes_read (Got n) = n
bytes_read Missing = 0
bytes_read Failed = 0

-- the number of bytes read is at most the length of the part
abbrev pub IsWithin : ReadPart → List ℕ → Type 0
IsWithin (Got n) part = n ≤ length part
IsWithin Missing part = Unit {0}
IsWithin Failed part = Unit {0}

-- the first n bytes of the part are those at offset `place`, and n is 0 exactly at the end or past it
pub record IsPartAt (bytes : List ℕ) (place n : ℕ) (part : List ℕ) : Type 0 where
  pub same : take n part ≡ take n (drop place bytes)
  pub there : n ≤ length bytes - place
  pub ends : (n ≡ 0) ↔ (length bytes ≤ place)

-- unless the read failed, its result is right for this file, or for a missing file, at offset `place`
abbrev pub ReadsFrom : Option (List ℕ) → ℕ → ReadPart → List ℕ → Type 0
ReadsFrom None place (Got n) part = ⊥
ReadsFrom None place Missing part = Unit {0}
ReadsFrom None place Failed part = Unit {0}
ReadsFrom (Some bytes) place (Got n) part = IsPartAt bytes place n part
ReadsFrom (Some bytes) place Missing part = ⊥
ReadsFrom (Some bytes) place Failed part = Unit {0}
