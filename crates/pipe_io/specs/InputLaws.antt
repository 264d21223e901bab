-- The laws of reading an input: it has exactly one result.
use Rattle.std.specs.Prelude.{◌≡◌, ℕ, ℤ, List, ◌⊎◌}
use Rattle.pipe_io.specs.InputFile.{AreNumbersOf, HasFault}
use Rattle.pipe_io.specs.declared.input_fault.InputFault.{InputFault}

-- an input is at most one list of numbers
abbrev pub InputsAreOneList : Type 0
InputsAreOneList = (bytes : List ℕ) (numbers others : List ℤ) → AreNumbersOf bytes numbers → AreNumbersOf bytes others → numbers ≡ others

-- an input has at most one fault
abbrev pub InputsHaveOneFault : Type 0
InputsHaveOneFault = (bytes : List ℕ) (fault other : InputFault) → HasFault bytes fault → HasFault bytes other → fault ≡ other

-- an input with a fault is no list of numbers
abbrev pub FaultyInputsAreNoNumbers : Type 0
FaultyInputsAreNoNumbers = (bytes : List ℕ) (fault : InputFault) (numbers : List ℤ) → HasFault bytes fault → AreNumbersOf bytes numbers → ⊥

-- each input is a list of numbers, or it has a fault
abbrev pub InputsAreNumbersOrFaulty : Type 0
InputsAreNumbersOrFaulty = (bytes : List ℕ) → ((numbers : List ℤ) × AreNumbersOf bytes numbers) ⊎
    ((fault : InputFault) × HasFault bytes fault)
