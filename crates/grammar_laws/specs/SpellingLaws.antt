-- Laws of spelling: symbols, and sources, spell at most one program and have at most one first fault.
use Rattle.std.specs.Prelude.{◌≡◌, ℕ, List}
use Rattle.pipe_model.specs.declared.symbol.Symbol.{Symbol}
use Rattle.pipe_model.specs.Language.SourceSpelling.{SourceSpells}
use Rattle.pipe_model.specs.Language.SyntaxTree.{SyntaxTree}
use Rattle.pipe_model.specs.Language.Spelling.{FirstFault, GrammarRule, Spells}

-- symbols spell at most one program
abbrev pub SymbolsSpellOneProgram : Type 0
SymbolsSpellOneProgram = (symbols : List Symbol) (tree other : SyntaxTree) → Spells symbols tree → Spells symbols other → tree ≡ other

-- a source spells at most one program
abbrev pub SourcesSpellOneProgram : Type 0
SourcesSpellOneProgram = (source : List ℕ) (tree other : SyntaxTree) → SourceSpells source tree → SourceSpells source other → tree ≡ other

-- symbols have at most one first fault
abbrev pub SymbolsHaveOneFirstFault : Type 0
SymbolsHaveOneFirstFault =
    (symbols : List Symbol) (rule other : GrammarRule) (k m : ℕ) → FirstFault symbols rule k → FirstFault symbols other m
    → (k ≡ m) × (rule ≡ other)

-- symbols that spell a program have no fault
abbrev pub ProgramsHaveNoFault : Type 0
ProgramsHaveNoFault = (symbols : List Symbol) (tree : SyntaxTree) (rule : GrammarRule) (k : ℕ) → Spells symbols tree
    → FirstFault symbols rule k → ⊥
