-- The checker can check each program that the parser returns.
use Rattle.std.proofs.Common.{ℕ, List}
use Rattle.language_laws.proofs.SpellablePrograms.{spelled_is_spellable}
use Rattle.pipe_model.specs.declared.token.Token.{Token}
use Rattle.pipe_model.specs.Language.SpellablePrograms.{IsSpellable}
use Rattle.pipe_model.specs.Language.Spelling.{Spells}
use Rattle.pipe_model.specs.Language.SyntaxTree.{SyntaxTree}
use Rattle.pipe_model.specs.Language.Tokens.{IsLexed, symbols_in}

-- a program that the symbols of a source spell
pub parsed_is_spellable : (source : List ℕ) (tokens : List Token) (tree : SyntaxTree) → IsLexed source tokens
    → Spells (symbols_in source tokens) tree → IsSpellable tree
parsed_is_spellable source tokens tree lexed spelled =
    spelled_is_spellable source tree (record { tokens = tokens; lexed = lexed; spelled = spelled })
