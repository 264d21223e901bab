use Rattle.std.proofs.Common.{◌≡◌, take}
use Rattle.race_report.specs.CellNames.{race_lines}
use Rattle.race_report.proofs.race_text.lines_of.Given as goal

abbrev pub invariant-loop-report : goal.invariant-loop-report
invariant-loop-report l = l.text.items ≡ race_lines l.cells (take l.report-index l.reports)
