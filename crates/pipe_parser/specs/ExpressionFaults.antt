-- The faults of the readers of expressions.
use Rattle.std.specs.Prelude.{◌≡◌, ℕ, List, [], ◌∷◌}
use Rattle.pipe_model.specs.declared.symbol.Symbol.{Symbol}
use Rattle.grammar_laws.specs.ExpressionMachine.{Want, Sign, Operand, Tail, IsStuck}
use Rattle.pipe_model.specs.Language.SyntaxTree.{Expression, Unary}
use Rattle.grammar_laws.specs.Reading.{Reads}
use Rattle.pipe_parser.specs.declared.fault.SyntaxFault.{SyntaxFault}
use Rattle.pipe_parser.specs.declared.fault.SyntaxFault.TheVariants as faults
use Rattle.pipe_model.specs.Language.Grammar.{operand_level}

-- the fault of reading what is wanted from the symbols; this reader does not bound open brackets or full expressions
abbrev pub ExpressionStops : List Want → List Symbol → SyntaxFault → Type 0
ExpressionStops wants ts (faults.Unexpected left) = IsStuck wants ts left
ExpressionStops wants ts (faults.TooDeep left) = ⊥
ExpressionStops wants ts (faults.TooLong left) = ⊥
ExpressionStops wants ts faults.NoMemory = Unit {0}

-- an expression: an operand, and what may follow it
abbrev pub whole : List Want
whole = Operand ∷ Tail ∷ []

-- an expression and the sign that closes it
abbrev pub closed : ℕ → List Want
closed sign = Operand ∷ Tail ∷ Sign sign ∷ []

-- an operand after a unary operator
pub record ReadsUnary (code : ℕ) (ts : List Symbol) (e : Expression) (rest : List Symbol) : Type 0 where
  pub inner : Expression
  pub reads : Reads operand_level ts inner rest
  pub is : e ≡ Unary code inner
