-- Files and texts in memory.
use Rattle.std.specs.Prelude.{ℕ, ◌-◌, List, [], ◌∷◌, length, map, min, Option, Some, None, if◌then◌else◌, String, string_bytes}
use Rattle.std.specs.Str.{bytes_eq}
use Rattle.std.specs.declared.alloc.Global.{Global}
use Rattle.pipe_io.specs.Reads.{Content}
use Rattle.pipe_io.specs.declared.files.ReadPart.{ReadPart}
use Rattle.pipe_io.specs.declared.files.ReadPart.TheVariants.{Got, Missing}

-- files in memory, each with its name, and the greatest number of bytes that a call serves
pub record StoredFiles : Type 0 where
  pub files : List (List ℕ × List ℕ)
  pub most : ℕ

-- each file as the bytes of its name and its content
abbrev pub named_bytes : List (String Global × List ℕ) → List (List ℕ × List ℕ)
named_bytes files = map (λ f. (string_bytes f.0, f.1)) files

-- the first file of each name
abbrev pub content_of : List (List ℕ × List ℕ) → Content
content_of [] name = None
content_of (f ∷ fs) name = if bytes_eq f.0 name then Some f.1 else content_of fs name

-- how many bytes of a file are served from offset `place`, to a part of `room` bytes
abbrev pub served_len : List ℕ → ℕ → ℕ → ℕ → ℕ
served_len bytes place room most = min (min (length bytes - place) room) most

-- the result of reading a part of a file, or of a file that does not exist
abbrev pub served : Option (List ℕ) → ℕ → ℕ → ℕ → ReadPart
served None place room most = Missing
served (Some bytes) place room most = Got (served_len bytes place room most)

-- a text in memory, and the greatest number of bytes that a call takes
pub record StoredText : Type 0 where
  pub taken : List ℕ
  pub most : ℕ
