-- The text of a program spells it.
use Rattle.std.proofs.Common.{◌≡◌, sym, subst, ℕ, ◌≤◌, List, length}
use Rattle.pipe_model.specs.Language.CanonicalText.{program_text}
use Rattle.pipe_model.specs.Language.SourceSpelling.{SourceSpells}
use Rattle.pipe_model.specs.Language.SyntaxTree.{SyntaxTree}
use Rattle.grammar_laws.proofs.CanonicalSpelling.{canonical_spells}
use Rattle.pipe_format.specs.TextLaws.{SpellsAsSources}

pub spells_as_sources : (tree : SyntaxTree) (text : List ℕ) → text ≡ program_text tree → SpellsAsSources tree text
spells_as_sources tree text e source h short =
    subst (λ x. SourceSpells x tree) (sym e) (canonical_spells source tree h (subst (λ x. length x ≤ 1048576) e short))
