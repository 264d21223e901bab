-- The first race of each cell: the first access that races with an earlier one, and the first that it races with.
use Rattle.std.specs.Prelude.{◌≡◌, ℕ, List, ◌<◌}
use Rattle.pipe_model.specs.declared.access.NodeAccess.{NodeAccess}
use Rattle.pipe_model.specs.declared.node.Node.{Node}
use Rattle.pipe_model.specs.declared.report.Report.{Report}
use Rattle.pipe_model.specs.Races.CellRaces.{NotedAccess, access_at, accesses_to, RacesAt}
use Rattle.pipe_model.specs.Races.Reports.{RiseByCell, report_of}
use Rattle.pipe_model.specs.Races.DeterminacyRaces.{Among}

-- access `later` races with none before access `earlier`
abbrev pub RacesWithNoneBefore : List (List Node) → List NotedAccess → ℕ → ℕ → Type 0
RacesWithNoneBefore columns accesses later earlier =
    (k : ℕ) → k < earlier → RacesAt columns accesses later k → ⊥

-- access `later` races with none before it
abbrev pub RacesWithNone : List (List Node) → List NotedAccess → ℕ → Type 0
RacesWithNone columns accesses later = (k : ℕ) → RacesAt columns accesses later k → ⊥

-- access `later` races with access `earlier`; none before it races, and it races with none before that one
pub record IsFirstRacingPair (columns : List (List Node)) (accesses : List NotedAccess) (earlier later : ℕ) : Type 0 where
  pub race : RacesAt columns accesses later earlier
  pub first_later : (n : ℕ) → n < later → RacesWithNone columns accesses n
  pub first_earlier : RacesWithNoneBefore columns accesses later earlier

-- the report names the first race among these accesses, which are all accesses to its cell
pub record ReportsFirstRace (columns : List (List Node)) (accesses : List NotedAccess) (r : Report) : Type 0 where
  pub earlier : ℕ
  pub later : ℕ
  pub first : IsFirstRacingPair columns accesses earlier later
  pub report_is : r ≡ report_of columns r.cell.0 (access_at accesses earlier) (access_at accesses later)

-- the report names the first race of its cell
abbrev pub ReportsFirstRaceOfCell : List (List Node) → List NodeAccess → Report → Type 0
ReportsFirstRaceOfCell columns accesses r = ReportsFirstRace columns (accesses_to r.cell.0 accesses) r

-- the cell has a report
abbrev pub HasReport : List Report → ℕ → Type 0
HasReport reports cell = (r : Report) × Among r reports × (r.cell.0 ≡ cell)

-- each report names the first race of its cell, the cells rise, and each cell with a race has a report
pub record AreFirstRaces (columns : List (List Node)) (accesses : List NodeAccess) (reports : List Report) : Type 0 where
  pub each : (r : Report) → Among r reports → ReportsFirstRaceOfCell columns accesses r
  pub rise : RiseByCell reports
  pub all : (cell later earlier : ℕ) → RacesAt columns (accesses_to cell accesses) later earlier
      → HasReport reports cell
