-- The faults of the readers of statements and programs.
use Rattle.std.specs.Prelude.{◌≡◌, List}
use Rattle.pipe_model.specs.declared.bounds.TheConstants.{LONGEST_EXPRESSION}
use Rattle.pipe_model.specs.declared.symbol.Symbol.{Symbol}
use Rattle.grammar_laws.specs.ProgramMachine as machine
use Rattle.grammar_laws.specs.ProgramMachine.{Want, IsRejected, Outside, judge, program}
use Rattle.pipe_parser.specs.declared.fault.SyntaxFault.{SyntaxFault}
use Rattle.pipe_parser.specs.declared.fault.SyntaxFault.TheVariants as faults

-- the fault of reading what is wanted from the symbols
abbrev pub SyntaxStops : List Want → List Symbol → SyntaxFault → Type 0
SyntaxStops wants ts (faults.Unexpected left) = IsRejected LONGEST_EXPRESSION wants ts (machine.Unexpected left)
SyntaxStops wants ts (faults.TooDeep left) = ⊥
SyntaxStops wants ts (faults.TooLong left) = IsRejected LONGEST_EXPRESSION wants ts (machine.TooLong left)
SyntaxStops wants ts faults.NoMemory = Unit {0}

-- the fault of reading a program from all of the symbols
abbrev pub Refuses : List Symbol → SyntaxFault → Type 0
Refuses ts (faults.Unexpected left) = judge LONGEST_EXPRESSION ts (Outside program) ≡ machine.Unexpected left
Refuses ts (faults.TooDeep left) = ⊥
Refuses ts (faults.TooLong left) = judge LONGEST_EXPRESSION ts (Outside program) ≡ machine.TooLong left
Refuses ts faults.NoMemory = Unit {0}
