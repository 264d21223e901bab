-- Reports of races: what a report says, and when the reports of a run are right, by its columns and its accesses.
use Rattle.std.specs.Prelude.{◌≡◌, ◌<◌, ℕ, ℤ, List, ◌∷◌, ◌++◌, AllPairs}
use Rattle.pipe_model.specs.declared.access.NodeAccess.{NodeAccess}
use Rattle.pipe_model.specs.declared.node.Node.{Node}
use Rattle.pipe_model.specs.declared.node.NodeId.{NodeId}
use Rattle.pipe_model.specs.declared.report.Report.{Report}
use Rattle.pipe_model.specs.Races.CellRaces.{NotedAccess}
use Rattle.pipe_model.specs.Races.Columns.{node_at, nodes_at}
use Rattle.pipe_model.specs.Races.Dag.{AreParallel}
use Rattle.pipe_model.specs.Races.DeterminacyRaces.{Conflict, Among, IsDeterminacyRace}

-- the stage number of an instance
abbrev pub number_at : List (List Node) → NodeId → ℤ
number_at columns x = (node_at (nodes_at columns x.iteration) x.index).number

-- the report names two conflicting accesses of parallel instances, the earlier one first
pub record NamesRace (columns : List (List Node)) (accesses : List NodeAccess) (r : Report) : Type 0 where
  pub front : List NodeAccess
  pub earlier : NodeAccess
  pub between : List NodeAccess
  pub later : NodeAccess
  pub rest : List NodeAccess
  pub stands : accesses ≡ front ++ earlier ∷ (between ++ later ∷ rest)
  pub conflict : Conflict earlier.access later.access
  pub parallel : AreParallel columns earlier.node later.node
  pub cell : r.cell ≡ earlier.access.cell
  pub nodes : (r.earlier ≡ earlier.node) × (r.later ≡ later.node)
  pub kinds : (r.earlier_kind ≡ earlier.access.kind) × (r.later_kind ≡ later.access.kind)
  pub numbers : (r.earlier_number ≡ number_at columns earlier.node) × (r.later_number ≡ number_at columns later.node)

-- the cells of the reports rise strictly, so a cell has at most one report
abbrev pub RiseByCell : List Report → Type 0
RiseByCell reports = AllPairs (λ (a : Report) (b : Report). a.cell.0 < b.cell.0) reports

-- the reports are right: each names a race, the cell of each race has a report, and the reports rise by cell
pub record AreRight (columns : List (List Node)) (accesses : List NodeAccess) (reports : List Report) : Type 0 where
  pub name : (r : Report) → Among r reports → NamesRace columns accesses r
  pub all : (a b : NodeAccess) → IsDeterminacyRace columns accesses a b → (r : Report) × Among r reports × (r.cell ≡ a.access.cell)
  pub rise : RiseByCell reports

-- the report of two accesses to a cell
abbrev pub report_of : List (List Node) → ℕ → NotedAccess → NotedAccess → Report
report_of columns cell earlier later = record {
  cell = record { 0 = cell };
  earlier = earlier.who;
  earlier_number = number_at columns earlier.who;
  earlier_kind = earlier.kind;
  later = later.who;
  later_number = number_at columns later.who;
  later_kind = later.kind;
}
