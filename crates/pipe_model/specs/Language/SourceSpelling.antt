-- A source spells a program of the whole language if its tokens are within their bounds and the symbols of the tokens spell the program.
use Rattle.std.specs.Prelude.{ℕ, List}
use Rattle.pipe_model.specs.declared.token.Token.{Token}
use Rattle.pipe_model.specs.Language.SyntaxTree.{SyntaxTree}
use Rattle.pipe_model.specs.Language.Tokens.{IsLexed, symbols_in}
use Rattle.pipe_model.specs.Language.Spelling.{Spells}

pub record SourceSpells (source : List ℕ) (tree : SyntaxTree) : Type 0 where
  pub tokens : List Token
  pub lexed : IsLexed source tokens
  pub spelled : Spells (symbols_in source tokens) tree
