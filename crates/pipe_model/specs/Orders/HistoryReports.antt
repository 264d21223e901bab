-- The reports of what the access histories of all cells find: one for each cell with a race.
use Rattle.std.specs.Prelude.{ℕ, zero, suc, List, [], ◌∷◌, ◌++◌, Option, Some, None}
use Rattle.pipe_model.specs.declared.access.NodeAccess.{NodeAccess}
use Rattle.pipe_model.specs.declared.node.Node.{Node}
use Rattle.pipe_model.specs.declared.node.NodeId.{NodeId}
use Rattle.pipe_model.specs.declared.report.Report.{Report}
use Rattle.pipe_model.specs.Races.Reports.{report_of}
use Rattle.pipe_model.specs.Orders.AccessHistory.{FoundRace}
use Rattle.pipe_model.specs.Races.CellRaces.{NotedAccess, access_at, accesses_to}
use Rattle.pipe_model.specs.Orders.HistoryRaces.{found_race_of_cell}

-- the report of what the history of a cell has found, if it has found something
abbrev pub report_found : List (List Node) → ℕ → List NotedAccess → Option FoundRace → List Report
report_found columns cell accesses None = []
report_found columns cell accesses (Some race) = report_of columns cell race.earlier (access_at accesses race.number) ∷ []

-- the reports of all cells below a number
abbrev pub reports_below : List (List Node) → List NodeId → List NodeAccess → ℕ → List Report
reports_below columns starts accesses zero = []
reports_below columns starts accesses (suc c) = reports_below columns starts accesses c ++ report_found columns c (accesses_to c accesses)
    (found_race_of_cell columns starts accesses c)
