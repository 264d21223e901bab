-- The reports of a run's access histories.
use Rattle.std.specs.Prelude.{ℕ, suc, List, [], ◌∷◌, max}
use Rattle.pipe_model.specs.declared.access.NodeAccess.{NodeAccess}
use Rattle.pipe_model.specs.declared.node.Node.{Node}
use Rattle.pipe_model.specs.declared.node.NodeId.{NodeId}
use Rattle.pipe_model.specs.declared.report.Report.{Report}
use Rattle.pipe_model.specs.Orders.HistoryReports.{reports_below}

-- the least number that is greater than the number of each accessed cell
abbrev pub cell_bound : List NodeAccess → ℕ
cell_bound [] = 0
cell_bound (a ∷ more) = max (suc a.access.cell.0) (cell_bound more)

-- the reports of what the histories of all cells find, by the orders of these starts
abbrev pub found_reports : List (List Node) → List NodeId → List NodeAccess → List Report
found_reports columns starts accesses = reports_below columns starts accesses (cell_bound accesses)
