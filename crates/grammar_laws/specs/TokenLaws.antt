-- Laws of tokens and of lexical faults.
use Rattle.std.specs.Prelude.{◌≡◌, ℕ, List, All}
use Rattle.pipe_model.specs.declared.token.Token.{Token}
use Rattle.pipe_model.specs.Language.Tokens.{HasFault, HasTokens, IsLexed, LexicalFault, IsInSource}

-- a source has at most one list of tokens
abbrev pub SourcesHaveOneListOfTokens : Type 0
SourcesHaveOneListOfTokens = (source : List ℕ) (tokens others : List Token) → HasTokens source tokens → HasTokens source others
    → tokens ≡ others

-- a source has at most one fault
abbrev pub SourcesHaveOneFault : Type 0
SourcesHaveOneFault = (source : List ℕ) (fault other : LexicalFault) → HasFault source fault → HasFault source other → fault ≡ other

-- a source with tokens within the bounds has no fault
abbrev pub SourcesWithTokensHaveNoFault : Type 0
SourcesWithTokensHaveNoFault = (source : List ℕ) (tokens : List Token) (fault : LexicalFault) → IsLexed source tokens
    → HasFault source fault → ⊥

-- each token of a source is in it, and its text there is the text of its symbol
abbrev pub TokensAreInTheirSource : Type 0
TokensAreInTheirSource = (source : List ℕ) (tokens : List Token) → HasTokens source tokens → All (IsInSource source) tokens
