-- The faults that the parser returns for the tokens of a source.
use Rattle.std.specs.Prelude.{◌≡◌, ◌-◌, ℕ, List, length}
use Rattle.pipe_model.specs.declared.symbol.Symbol.{Symbol}
use Rattle.pipe_model.specs.declared.token.Token.{Token}
use Rattle.pipe_model.specs.Language.SourceRefusals.{BreaksAt, fault_place}
use Rattle.pipe_model.specs.Language.Spelling.{FirstFault, Unexpected, TooDeep, TooLong}
use Rattle.pipe_parser.specs.declared.parse.ParseFault.{ParseFault}
use Rattle.pipe_parser.specs.declared.parse.ParseFault.TheVariants as faults
use Rattle.pipe_parser.specs.declared.fault.SyntaxFault.{SyntaxFault}
use Rattle.pipe_parser.specs.declared.fault.SyntaxFault.TheVariants as syntax

-- the first symbol that breaks a rule; the fault has the number of symbols from it to the end
abbrev pub BreaksFirst : List Symbol → SyntaxFault → Type 0
BreaksFirst ts (syntax.Unexpected left) = FirstFault ts Unexpected (length ts - left)
BreaksFirst ts (syntax.TooDeep left) = FirstFault ts TooDeep (length ts - left)
BreaksFirst ts (syntax.TooLong left) = FirstFault ts TooLong (length ts - left)
BreaksFirst ts syntax.NoMemory = Unit {0}

-- a fault of the symbols, `all` in number, with its offset in the source
abbrev pub IsPlaced : List ℕ → List Token → (all : ℕ) → SyntaxFault → ParseFault → Type 0
IsPlaced source tokens all (syntax.Unexpected left) fault = fault ≡ faults.Unexpected (fault_place source tokens (all - left))
IsPlaced source tokens all (syntax.TooDeep left) fault = fault ≡ faults.TooDeep (fault_place source tokens (all - left))
IsPlaced source tokens all (syntax.TooLong left) fault = fault ≡ faults.TooLong (fault_place source tokens (all - left))
IsPlaced source tokens all syntax.NoMemory fault = fault ≡ faults.NoMemory

-- the fault of the tokens of a source; `NoMemory` says nothing about them
abbrev pub IsFault : List ℕ → List Token → ParseFault → Type 0
IsFault source tokens (faults.Unexpected place) = BreaksAt source tokens Unexpected place
IsFault source tokens (faults.TooDeep place) = BreaksAt source tokens TooDeep place
IsFault source tokens (faults.TooLong place) = BreaksAt source tokens TooLong place
IsFault source tokens faults.NoMemory = Unit {0}
