-- A source spells at most one program.
use Rattle.std.proofs.Common.{◌≡◌, ℕ, List, subst}
use Rattle.pipe_model.specs.Language.SourceSpelling.{SourceSpells}
use Rattle.pipe_model.specs.Language.SyntaxTree.{SyntaxTree}
use Rattle.pipe_model.specs.Language.Tokens.{symbols_in}
use Rattle.pipe_model.specs.Language.Spelling.{Spells}
use Rattle.grammar_laws.proofs.FaultRules.{one_spelled}
use Rattle.grammar_laws.proofs.TokenLaws.{one_list}

-- two programs that a source spells are equal
pub one_source_spelling : (source : List ℕ) (tree other : SyntaxTree) → SourceSpells source tree → SourceSpells source other → tree ≡ other
one_source_spelling source tree other s o =
    let same : o.tokens ≡ s.tokens = one_list source o.tokens s.tokens o.lexed.scanned s.lexed.scanned in
    one_spelled s.spelled (subst (λ tokens. Spells (symbols_in source tokens) other) same o.spelled)
