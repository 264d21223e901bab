-- The possible results of writing a part of a text.
use Rattle.std.specs.Prelude.{ℕ, ◌≤◌, ◌<◌, List, ◌++◌, length, take, Bool, true, false}
use Rattle.pipe_io.specs.declared.sink.WritePart.{WritePart}
use Rattle.pipe_io.specs.declared.sink.WritePart.TheVariants.{Took, Failed, NoMemory}

-- whether the write failed
abbrev pub is_write_fault : WritePart → Bool
is_write_fault (Took n) = false
is_write_fault Failed = true
is_write_fault NoMemory = false

-- if bytes are taken, they are at least one and at most all of the part
abbrev pub TakesSome : WritePart → List ℕ → Type 0
TakesSome (Took n) part = (0 < n) × (n ≤ length part)
TakesSome Failed part = Unit {0}
TakesSome NoMemory part = Unit {0}

-- the content of the sink after the write
abbrev pub taken_after : WritePart → List ℕ → List ℕ → List ℕ
taken_after (Took n) part taken = taken ++ take n part
taken_after Failed part taken = taken
taken_after NoMemory part taken = taken
