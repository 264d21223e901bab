-- Parts of programs, as their readers read them.
use Rattle.std.specs.Prelude.{◌≡◌, ◌++◌, ℕ, List, [], ◌∷◌}
use Rattle.pipe_model.specs.declared.bounds.TheConstants.{LONGEST_EXPRESSION}
use Rattle.pipe_model.specs.declared.sign_bytes.TheConstants as signs
use Rattle.pipe_model.specs.declared.word_codes.TheConstants as words
use Rattle.pipe_model.specs.declared.symbol.Symbol.{Symbol}
use Rattle.pipe_model.specs.declared.tree.Limits.{Limits}
use Rattle.grammar_laws.specs.ProgramMachine.{Want, Sign, Word, AnyName, AnyNumber, FullExpression, Statements, Size, Value}
use Rattle.pipe_model.specs.Language.SyntaxTree as tree
use Rattle.pipe_model.specs.Language.Grammar.{flat, limits_before}
use Rattle.grammar_laws.specs.Reading.{ReadsBlock}
use Rattle.pipe_model.specs.Language.Words.{word_pipe_while}
use Rattle.pipe_parser.specs.StatementReadings.{ReadsTest}

-- a limit: its word, a number, and the sign after it
abbrev pub limit : ℕ → ℕ → List Want
limit word sign = Word word ∷ AnyNumber ∷ Sign sign ∷ []

-- the line of limits
abbrev pub limits : List Want
limits =
    Word words.LIMITS ∷ Word words.ITERATIONS ∷ AnyNumber ∷ Sign signs.COMMA ∷ Word words.STAGES ∷ AnyNumber ∷ Sign signs.COMMA ∷ Word
    words.STEPS ∷ AnyNumber ∷ Sign signs.COMMA ∷ Word words.EMITS ∷ AnyNumber ∷ Sign signs.SEMICOLON ∷ []

-- the declaration of a cell, after its word
abbrev pub cell : List Want
cell = AnyName ∷ Size ∷ Sign signs.EQUALS ∷ Value ∷ Sign signs.SEMICOLON ∷ []

-- the loop: its word, its test and its body
abbrev pub loop : List Want
loop = Word words.PIPE_WHILE ∷ Sign signs.OPEN_ROUND ∷ FullExpression ∷ Sign signs.CLOSE_ROUND ∷ Sign signs.OPEN_BRACE ∷ Statements ∷ Sign
    signs.CLOSE_BRACE ∷ []

-- the symbols begin with the line of limits
abbrev pub HasLimits : List Symbol → Limits → List Symbol → Type 0
HasLimits ts l rest = ts ≡ flat (limits_before l.iterations l.stages l.steps l.emits []) ++ rest

-- the symbols begin with the loop of this test and body
pub record ReadsLoop (ts : List Symbol) (test : tree.Expression) (body : tree.Statements) (rest : List Symbol) : Type 0 where
  pub following : List Symbol
  pub begins : ts ≡ word_pipe_while ∷ following
  pub mid : List Symbol
  pub tested : ReadsTest following test mid
  pub block : ReadsBlock LONGEST_EXPRESSION mid body rest
