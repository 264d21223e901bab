-- The law that each source has tokens or a fault.
use Rattle.std.specs.Prelude.{ℕ, List, ◌⊎◌}
use Rattle.pipe_model.specs.declared.token.Token.{Token}
use Rattle.pipe_model.specs.Language.Tokens.{HasFault, IsLexed, LexicalFault}

-- the source has tokens within the bounds, or it has a fault
abbrev pub IsLexedOrHasFault : List ℕ → Type 0
IsLexedOrHasFault source = ((tokens : List Token) × IsLexed source tokens) ⊎ ((fault : LexicalFault) × HasFault source fault)
