-- The line of each fault of an input. Out of memory has none.
use Rattle.std.specs.Prelude.{◌≡◌, ℕ, List, [], codes}
use Rattle.pipe_model.specs.Texts.{numbered_line}
use Rattle.pipe_io.specs.declared.input_fault.InputFault.{InputFault}
use Rattle.pipe_io.specs.declared.input_fault.InputFault.TheVariants as faults

-- the line that refuses an input with this fault
abbrev pub input_line : InputFault → List ℕ
input_line (faults.BadByte place) = numbered_line (codes "refused input BadByte at ") place
input_line (faults.TooWide place) = numbered_line (codes "refused input TooWide at ") place
input_line (faults.TooMany place) = numbered_line (codes "refused input TooMany at ") place
input_line faults.TooLong = codes "refused input TooLong\n"
input_line faults.NoMemory = []

-- the line of a returned fault
abbrev pub IsInputLine : InputFault → List ℕ → Type 0
IsInputLine (faults.BadByte place) line = line ≡ input_line (faults.BadByte place)
IsInputLine (faults.TooWide place) line = line ≡ input_line (faults.TooWide place)
IsInputLine (faults.TooMany place) line = line ≡ input_line (faults.TooMany place)
IsInputLine faults.TooLong line = line ≡ input_line faults.TooLong
IsInputLine faults.NoMemory line = ⊥
