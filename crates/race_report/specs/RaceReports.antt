-- The report of a race that the history of a cell has found.
use Rattle.std.specs.Prelude.{List}
use Rattle.access_history.specs.declared.history.Found.{Found}
use Rattle.pipe_model.specs.declared.access.CellId.{CellId}
use Rattle.pipe_model.specs.declared.node.Node.{Node}
use Rattle.pipe_model.specs.declared.report.Report.{Report}
use Rattle.pipe_model.specs.Races.CellRaces.{noted_access}
use Rattle.pipe_model.specs.Races.Columns.{IsNodeOf}
use Rattle.pipe_model.specs.Races.Reports.{report_of}

-- both instances of the race are in the columns
pub record IsFoundIn (columns : List (List Node)) (race : Found) : Type 0 where
  pub earlier : IsNodeOf columns race.earlier
  pub later : IsNodeOf columns race.later

-- the report of a race on a cell
abbrev pub report_found : List (List Node) → CellId → Found → Report
report_found columns cell race =
    report_of columns cell.0 (noted_access race.earlier race.earlier_kind) (noted_access race.later race.later_kind)
