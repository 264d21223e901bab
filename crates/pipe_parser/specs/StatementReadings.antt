-- Parts of statements, as their readers read them.
use Rattle.std.specs.Prelude.{◌≡◌, List, [], ◌∷◌, Option, Some, None}
use Rattle.pipe_model.specs.declared.bounds.TheConstants.{LONGEST_EXPRESSION}
use Rattle.pipe_model.specs.declared.sign_bytes.TheConstants as signs
use Rattle.pipe_model.specs.declared.word_codes.TheConstants as words
use Rattle.pipe_model.specs.declared.symbol.Symbol.{Symbol}
use Rattle.pipe_model.specs.declared.tree.Expr.{Expr}
use Rattle.grammar_laws.specs.ProgramMachine.{Want, Sign, AnyName, FullExpression, StageNumber, Statements, Part}
use Rattle.pipe_model.specs.Language.SyntaxTree.{Expression, expression_of}
use Rattle.grammar_laws.specs.Reading.{ReadsFull}
use Rattle.pipe_model.specs.Language.Words.{open_round, close_round, semicolon}

-- a test in round brackets
abbrev pub test : List Want
test = Sign signs.OPEN_ROUND ∷ FullExpression ∷ Sign signs.CLOSE_ROUND ∷ []

-- a `let`, after its word
abbrev pub binding : List Want
binding = AnyName ∷ Sign signs.EQUALS ∷ FullExpression ∷ Sign signs.SEMICOLON ∷ []

-- an assignment to an element, after its opening bracket
abbrev pub element : List Want
element = FullExpression ∷ Sign signs.CLOSE_SQUARE ∷ Sign signs.EQUALS ∷ FullExpression ∷ Sign signs.SEMICOLON ∷ []

-- a stage statement, after its word
abbrev pub stage : List Want
stage = Sign signs.OPEN_ROUND ∷ StageNumber ∷ Sign signs.CLOSE_ROUND ∷ Sign signs.SEMICOLON ∷ []

-- statements in braces
abbrev pub block : List Want
block = Sign signs.OPEN_BRACE ∷ Statements ∷ Sign signs.CLOSE_BRACE ∷ []

-- a `while`, after its word
abbrev pub repetition : List Want
repetition = Sign signs.OPEN_ROUND ∷ FullExpression ∷ Sign signs.CLOSE_ROUND ∷ Sign signs.OPEN_BRACE ∷ Statements ∷ Sign
    signs.CLOSE_BRACE ∷ []

-- an `if`, after its word
abbrev pub choice : List Want
choice = Sign signs.OPEN_ROUND ∷ FullExpression ∷ Sign signs.CLOSE_ROUND ∷ Sign signs.OPEN_BRACE ∷ Statements ∷ Sign
    signs.CLOSE_BRACE ∷ Part words.ELSE ∷ []

-- the symbols begin with a test in round brackets
pub record ReadsTest (ts : List Symbol) (e : Expression) (rest : List Symbol) : Type 0 where
  pub inside : List Symbol
  pub opens : ts ≡ open_round ∷ inside
  pub reads : ReadsFull LONGEST_EXPRESSION inside e (close_round ∷ rest)

-- the symbols begin with a stage number in brackets, or with empty brackets, and a semicolon
abbrev pub ReadsStage : List Symbol → Option Expr → List Symbol → Type 0
ReadsStage ts None rest = ts ≡ open_round ∷ close_round ∷ semicolon ∷ rest
ReadsStage ts (Some e) rest = ReadsTest ts (expression_of e) (semicolon ∷ rest)
