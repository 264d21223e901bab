-- The law that all symbols have a program or a fault.
use Rattle.std.specs.Prelude.{ℕ, List, ◌⊎◌}
use Rattle.pipe_model.specs.declared.symbol.Symbol.{Symbol}
use Rattle.pipe_model.specs.Language.SyntaxTree.{SyntaxTree}
use Rattle.pipe_model.specs.Language.Spelling.{Spells, FirstFault, GrammarRule}

-- the symbols spell a program, or some symbol is the first that breaks a rule
abbrev pub IsProgramOrFault : List Symbol → Type 0
IsProgramOrFault symbols = ((tree : SyntaxTree) × Spells symbols tree) ⊎ ((rule : GrammarRule) × (k : ℕ) × FirstFault symbols rule k)
