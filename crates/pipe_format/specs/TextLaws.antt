-- The text of a program, compared with the sources that spell the program.
use Rattle.pipe_model.specs.declared.bounds.TheConstants.{LONGEST_SOURCE}
use Rattle.std.specs.Prelude.{◌≡◌, ℕ, ◌≤◌, List, length}
use Rattle.pipe_model.specs.Language.CanonicalText.{program_text}
use Rattle.pipe_model.specs.Language.SourceSpelling.{SourceSpells}
use Rattle.pipe_model.specs.Language.SyntaxTree.{SyntaxTree}

-- the text spells the program if some source does and the text is not too long for a source
abbrev pub SpellsAsSources : SyntaxTree → List ℕ → Type 0
SpellsAsSources tree text = (source : List ℕ) → SourceSpells source tree → length text ≤ LONGEST_SOURCE → SourceSpells text tree

-- the program read from the text of such a program has the same text
abbrev pub ReadingsHaveTheSameText : Type 0
ReadingsHaveTheSameText = (source : List ℕ) (tree other : SyntaxTree) → SourceSpells source tree
    → length (program_text tree) ≤ LONGEST_SOURCE
    → SourceSpells (program_text tree) other → program_text other ≡ program_text tree
