use Rattle.run_laws.proofs.RaceHistories.CellReports.{reports_are_right}
use Rattle.run_laws.proofs.histories.reports_are_right.Goals as goal

pub returns : goal.returns
returns c = reports_are_right
