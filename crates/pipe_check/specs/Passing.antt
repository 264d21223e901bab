-- The result of the walk over a program: the number of marks so far, or the first fault.
use Rattle.pipe_model.specs.declared.bounds.TheConstants.{LARGEST_PROGRAM}
use Rattle.std.specs.Prelude.{◌≡◌, ℕ, List, length, ◌+◌, ◌≤◌, Result, Ok, Err, Option, Some, None}
use Rattle.pipe_check.specs.declared.fault.CheckFault.{CheckFault}
use Rattle.pipe_check.specs.declared.fault.CheckFault.TheVariants as faults
use Rattle.pipe_model.specs.Language.CheckingRules.{Fault, LimitOut, Broken, Unknown, Twice, PipeOutside, TooManyCells, TooManyLocals}
use Rattle.pipe_model.specs.Language.CheckingRules.{NotAnArray, NeedsIndex, ZeroSize, first_fault}
use Rattle.pipe_model.specs.Language.Marks.{Mark}

-- the checker returns this first fault; `NoMemory` says nothing about it
abbrev pub IsFirstFaultOf : CheckFault → Option Fault → Type 0
IsFirstFaultOf (faults.Unknown n) fault = fault ≡ Some (Broken Unknown n)
IsFirstFaultOf (faults.Twice n) fault = fault ≡ Some (Broken Twice n)
IsFirstFaultOf (faults.LimitOut which) fault = fault ≡ Some (LimitOut which)
IsFirstFaultOf (faults.PipeOutside n) fault = fault ≡ Some (Broken PipeOutside n)
IsFirstFaultOf (faults.TooManyCells n) fault = fault ≡ Some (Broken TooManyCells n)
IsFirstFaultOf (faults.TooManyLocals n) fault = fault ≡ Some (Broken TooManyLocals n)
IsFirstFaultOf (faults.NotAnArray n) fault = fault ≡ Some (Broken NotAnArray n)
IsFirstFaultOf (faults.NeedsIndex n) fault = fault ≡ Some (Broken NeedsIndex n)
IsFirstFaultOf (faults.ZeroSize n) fault = fault ≡ Some (Broken ZeroSize n)
IsFirstFaultOf faults.NoMemory fault = Unit {0}

-- the marks break no rule, and the result is the number after the last one, if the first has this number; or it is their first fault
abbrev pub PassesMarks : Result ℕ CheckFault → ℕ → List Mark → Type 0
PassesMarks (Ok end) next marks = (first_fault next marks ≡ None) × (end ≡ next + length marks)
PassesMarks (Err fault) next marks = IsFirstFaultOf fault (first_fault next marks)

-- the numbers of these marks are within the bound
abbrev pub Fits : ℕ → List Mark → Type 0
Fits next marks = next + length marks ≤ LARGEST_PROGRAM
