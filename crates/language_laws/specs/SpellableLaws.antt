-- Every program that a source spells has the properties that the checker of programs assumes.
use Rattle.std.specs.Prelude.{ℕ, List}
use Rattle.pipe_model.specs.Language.SourceSpelling.{SourceSpells}
use Rattle.pipe_model.specs.Language.SpellablePrograms.{IsSpellable}
use Rattle.pipe_model.specs.Language.SyntaxTree.{SyntaxTree}

-- a program that a source spells is spellable
abbrev pub SpelledProgramsAreSpellable : Type 0
SpelledProgramsAreSpellable = (source : List ℕ) (tree : SyntaxTree) → SourceSpells source tree → IsSpellable tree
