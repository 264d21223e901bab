-- Programs that are accepted, with their number of cells.
use Rattle.std.specs.Prelude.{◌≡◌, ◌≤◌, ◌+◌, ℕ, None}
use Rattle.pipe_model.specs.declared.bounds.TheConstants.{MOST_CELLS}
use Rattle.pipe_model.specs.declared.tree.Program.{Program}
use Rattle.pipe_model.specs.Language.CheckingRules.{cell_total, fault_of}
use Rattle.pipe_model.specs.Language.SpellablePrograms.{IsSpellable}
use Rattle.pipe_model.specs.Language.SyntaxTree.{tree_of}

-- a source may spell the program, it breaks no rule, and it has `cells` cells, `input` and `output` counted
pub record IsChecked (program : Program) (cells : ℕ) : Type 0 where
  pub spellable : IsSpellable (tree_of program)
  pub obeys : fault_of (tree_of program) ≡ None
  pub count : cells ≡ cell_total program.cells + 2
  pub bounded : cells ≤ MOST_CELLS + 2
