use Rattle.std.proofs.Common.{◌≡◌, drop}
use Rattle.race_report.specs.CellNames.{declared_name}
use Rattle.race_report.proofs.race_text.push_declared.Given as goal

abbrev pub invariant-loop-declaration : goal.invariant-loop-declaration
invariant-loop-declaration l = record {
  kept : l.text.items ≡ l.fn.text.items;
  following : declared_name (drop l.declaration-index l.cells) l.rest ≡ declared_name l.cells l.place;
}
