-- A worked example: a line of source with its symbols and its statement.
use Rattle.std.specs.Prelude.{◌≡◌, ℕ, List, [], ◌∷◌, codes}
use Rattle.pipe_model.specs.declared.symbol.Symbol.{Symbol}
use Rattle.pipe_model.specs.declared.symbol.Symbol.TheVariants as symbols
use Rattle.pipe_model.specs.declared.token.Token.{Token}
use Rattle.pipe_model.specs.Language.Grammar.{DerivesStatement, Piece, flat}
use Rattle.pipe_model.specs.Language.SyntaxTree.{Name, Let}
use Rattle.pipe_model.specs.Language.Tokens.{HasTokens, symbols_in, token_at}
use Rattle.pipe_model.specs.Language.Words.{word_let, equals, semicolon}

-- a plain cell and a local
abbrev pub n : List ℕ
n = codes "n"

abbrev pub t : List ℕ
t = codes "t"

-- a line of source
abbrev pub let_text : List ℕ
let_text = codes "let t = n;"

-- its tokens
abbrev pub let_tokens : List Token
let_tokens =
    token_at 0 (codes "let") word_let ∷ token_at 4 t (symbols.Name t) ∷ token_at 6 (codes "=") equals ∷ token_at 8 n (symbols.Name n)
    ∷ token_at 9 (codes ";") semicolon ∷ []

-- its symbols
abbrev pub let_symbols : List Symbol
let_symbols = word_let ∷ symbols.Name t ∷ equals ∷ symbols.Name n ∷ semicolon ∷ []

-- the text has these tokens and symbols, and the symbols spell pieces that derive this statement
abbrev pub LetIsSpelled : Type 0
LetIsSpelled =
    HasTokens let_text let_tokens × (symbols_in let_text let_tokens ≡ let_symbols)
    × ((pieces : List Piece) × (flat pieces ≡ let_symbols) × DerivesStatement pieces (Let t (Name n)))
