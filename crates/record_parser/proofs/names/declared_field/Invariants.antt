use Rattle.std.proofs.Common.{◌≡◌, ◌+◌, ◌<◌, ℕ, drop}
use Rattle.pipe_model.specs.Language.CheckingRules.{cell_total}
use Rattle.race_report.specs.CellNames.{declared_name}
use Rattle.record_parser.proofs.names.declared_field.Given as goal

abbrev pub invariant-loop-declaration : goal.invariant-loop-declaration
invariant-loop-declaration l = record {
  total : l.before + cell_total (drop l.declaration-index l.cells) ≡ cell_total l.cells;
  following : (k : ℕ) → declared_name l.cells (l.before + k) ≡ declared_name (drop l.declaration-index l.cells) k;
  others : (k : ℕ) → k < l.before → l.bytes ≡ declared_name l.cells k → ⊥;
}
