-- The reports so far.
use Rattle.std.proofs.Common.{◌≡◌, map, take}
use Rattle.race_report.specs.RaceReports.{report_found}
use Rattle.race_report.proofs.gather.reports_of.Given as goal
use Rattle.pipe_model.specs.Races.Columns.{node_columns}

abbrev pub invariant-loop-cell : goal.invariant-loop-cell
invariant-loop-cell l = l.reports.items ≡ map (λ f. report_found (node_columns l.columns) f.0 f.1) (take l.cell-index l.found)
