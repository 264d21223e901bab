-- The results of reading a whole file and of writing a whole text.
use Rattle.std.specs.Prelude.{◌≡◌, ℕ, ◌≤◌, ◌<◌, List, [], length, take, Option, Some, None, Bool, true, false}
use Rattle.pipe_io.specs.declared.files.ReadPart.{ReadPart}
use Rattle.pipe_io.specs.declared.files.ReadPart.TheVariants as reads
use Rattle.pipe_io.specs.declared.whole.WriteEnd.{WriteEnd}
use Rattle.pipe_io.specs.declared.whole.WriteEnd.TheVariants as ends
use Rattle.pipe_io.specs.declared.whole.Whole.{Whole}
use Rattle.pipe_io.specs.declared.whole.Whole.TheVariants.{Bytes, TooLong, Missing, Failed}

-- whether a read failed
abbrev pub is_file_fault : Whole → Bool
is_file_fault (Bytes bytes) = false
is_file_fault (TooLong bytes) = false
is_file_fault Missing = false
is_file_fault Failed = true

-- the bytes are a prefix of the file, and empty if there is no file
abbrev pub IsPrefixOf : Option (List ℕ) → List ℕ → Type 0
IsPrefixOf None bytes = bytes ≡ []
IsPrefixOf (Some held) bytes = (bytes ≡ take (length bytes) held) × (length bytes ≤ length held)

-- a whole file has at most `limit` bytes, and a file that is too long has more
abbrev pub IsUpTo : ℕ → Whole → Type 0
IsUpTo limit (Bytes bytes) = length bytes ≤ limit
IsUpTo limit (TooLong bytes) = limit < length bytes
IsUpTo limit Missing = Unit {0}
IsUpTo limit Failed = Unit {0}

-- unless a read failed, the result is right: whether there is a file, whether it is longer than the limit, and otherwise exactly its bytes
abbrev pub IsWholeOf : Option (List ℕ) → ℕ → Whole → Type 0
IsWholeOf None limit (Bytes bytes) = ⊥
IsWholeOf None limit (TooLong bytes) = ⊥
IsWholeOf None limit Missing = Unit {0}
IsWholeOf None limit Failed = Unit {0}
IsWholeOf (Some held) limit (Bytes bytes) = (bytes ≡ held) × (length held ≤ limit)
IsWholeOf (Some held) limit (TooLong bytes) = IsPrefixOf (Some held) bytes × (limit < length bytes)
IsWholeOf (Some held) limit Missing = ⊥
IsWholeOf (Some held) limit Failed = Unit {0}

-- whether a write failed
abbrev pub is_text_fault : WriteEnd → Bool
is_text_fault ends.Whole = false
is_text_fault ends.Failed = true
is_text_fault ends.NoMemory = false

-- if a further read gets 0 bytes, the bytes are the whole file
abbrev pub EndsAt : Option (List ℕ) → List ℕ → ReadPart → Type 0
EndsAt None bytes (reads.Got n) = ⊥
EndsAt None bytes reads.Missing = Unit {0}
EndsAt None bytes reads.Failed = Unit {0}
EndsAt (Some held) bytes (reads.Got n) = n ≡ 0 → bytes ≡ held
EndsAt (Some held) bytes reads.Missing = ⊥
EndsAt (Some held) bytes reads.Failed = Unit {0}
