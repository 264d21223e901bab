-- The first races of all cells are right reports: each names a race, each race is of a cell with a report, and there is
-- no report exactly if there is no race.
use Rattle.std.proofs.Common.{◌≡◌, List, [], ◌∷◌, ◌++◌, refl, sym, ap, subst, ◌∙◌, ◌↔◌}
use Rattle.pipe_model.specs.declared.access.NodeAccess.{NodeAccess}
use Rattle.pipe_model.specs.declared.node.Node.{Node}
use Rattle.pipe_model.specs.declared.report.Report.{Report}
use Rattle.pipe_model.specs.Races.CellRaces.{NotedAccess, access_at, accesses_to, KindsConflict}
use Rattle.pipe_model.specs.Races.Dag.{AreParallel}
use Rattle.pipe_model.specs.Races.DeterminacyRaces.{Among, Here, Later, IsDeterminacyRace, IsRaceFree}
use Rattle.pipe_model.specs.Races.Reports.{AreRight, NamesRace, report_of}
use Rattle.pipe_model.proofs.CellAccesses.{ArePlacedAccesses, cell_id, noted_of, two_places}
use Rattle.pipe_model.proofs.RacesByCell.{race_at}
use Rattle.pipe_model.proofs.Members.{among_right}
use Rattle.pipe_model.specs.Races.FirstRaces.{AreFirstRaces, HasReport, ReportsFirstRaceOfCell}

-- the two accesses of a report, with the lists before, between and after them
record HasAccesses (columns : List (List Node)) (accesses : List NodeAccess) (r : Report) : Type 0 where
  front : List NodeAccess
  earlier : NodeAccess
  between : List NodeAccess
  later : NodeAccess
  rest : List NodeAccess
  stands : accesses ≡ front ++ earlier ∷ (between ++ later ∷ rest)
  conflict : KindsConflict earlier.access.kind later.access.kind
  parallel : AreParallel columns earlier.node later.node
  earlier_cell : earlier.access.cell.0 ≡ r.cell.0
  later_cell : later.access.cell.0 ≡ r.cell.0
  report_is : r ≡ report_of columns r.cell.0 (noted_of earlier) (noted_of later)

-- a report of a first race has such accesses
has_accesses : (columns : List (List Node)) (accesses : List NodeAccess) (r : Report)
    → ReportsFirstRaceOfCell columns accesses r → HasAccesses columns accesses r
has_accesses columns accesses r h =
    let race = h.first.race in
    let noted : List NotedAccess = accesses_to r.cell.0 accesses in
    let two : ArePlacedAccesses r.cell.0 accesses noted h.later h.earlier =
    two_places r.cell.0 accesses h.later h.earlier race.earlier race.within in
    record {
      front = two.front;
      earlier = two.earlier;
      between = two.between;
      later = two.later;
      rest = two.rest;
      stands = two.stands;
      conflict = subst (λ (x : NotedAccess). KindsConflict x.kind two.later.access.kind) two.earlier_is
          (subst (λ (y : NotedAccess). KindsConflict (access_at noted h.earlier).kind y.kind) two.later_is race.conflict);
      parallel = subst (λ (x : NotedAccess). AreParallel columns x.who two.later.node) two.earlier_is
          (subst (λ (y : NotedAccess). AreParallel columns (access_at noted h.earlier).who y.who) two.later_is race.parallel);
      earlier_cell = two.earlier_cell;
      later_cell = two.later_cell;
      report_is = h.report_is ∙ (λ i. report_of columns r.cell.0 (two.earlier_is i) (two.later_is i));
    }

-- each report names a race of the list
report_names_race : (columns : List (List Node)) (accesses : List NodeAccess) (r : Report)
    → ReportsFirstRaceOfCell columns accesses r → NamesRace columns accesses r
report_names_race columns accesses r first =
    let a = has_accesses columns accesses r first in
    record {
      front = a.front;
      earlier = a.earlier;
      between = a.between;
      later = a.later;
      rest = a.rest;
      stands = a.stands;
      conflict = record { same = ap cell_id (a.earlier_cell ∙ sym a.later_cell); one = a.conflict };
      parallel = a.parallel;
      cell = ap cell_id (sym a.earlier_cell);
      nodes = (ap (λ (x : Report). x.earlier) a.report_is, ap (λ (x : Report). x.later) a.report_is);
      kinds = (ap (λ (x : Report). x.earlier_kind) a.report_is, ap (λ (x : Report). x.later_kind) a.report_is);
      numbers = (ap (λ (x : Report). x.earlier_number) a.report_is, ap (λ (x : Report). x.later_number) a.report_is);
    }

-- the accesses that a report names race
named_race : (columns : List (List Node)) (accesses : List NodeAccess) (r : Report) (n : NamesRace columns accesses r)
    → IsDeterminacyRace columns accesses n.earlier n.later
named_race columns accesses r n = record {
  first = subst (Among n.earlier) (sym n.stands) (among_right n.earlier n.front _ Here);
  second = subst (Among n.later) (sym n.stands)
      (among_right n.later n.front _ (Later n.earlier (among_right n.later n.between _ Here)));
  conflict = n.conflict;
  parallel = n.parallel;
}

-- the cell of each race of the list has a report
race_has_report : (columns : List (List Node)) (accesses : List NodeAccess) (reports : List Report) (a b : NodeAccess)
    → AreFirstRaces columns accesses reports → IsDeterminacyRace columns accesses a b → HasReport reports a.access.cell.0
race_has_report columns accesses reports a b h race =
    let r = race_at columns accesses a b a.access.cell.0 refl race in
    h.all a.access.cell.0 r.later r.earlier r.racy

-- a list that has no element is empty
first_among : (reports : List Report) → ((r : Report) → Among r reports → ⊥) → reports ≡ []
first_among [] none = refl
first_among (r ∷ reports) none = absurd (none r Here)

-- an empty list has no report
none_reported : (reports : List Report) (r : Report) → reports ≡ [] → Among r reports → ⊥
none_reported reports r e among = elim (subst (Among r) e among) [ ]

-- the first races are right reports
pub first_races_are_right : (columns : List (List Node)) (accesses : List NodeAccess) (reports : List Report)
    → AreFirstRaces columns accesses reports → AreRight columns accesses reports
first_races_are_right columns accesses reports h = record {
  name = λ r among. report_names_race columns accesses r (h.each r among);
  all = λ a b race. (let r = race_has_report columns accesses reports a b h race in (r.0, r.1, ap cell_id r.2));
  rise = h.rise;
}

-- there is no report exactly if there is no race
pub no_report_is_race_free : (columns : List (List Node)) (accesses : List NodeAccess) (reports : List Report)
    → AreFirstRaces columns accesses reports → (reports ≡ []) ↔ IsRaceFree columns accesses
no_report_is_race_free columns accesses reports h = (
  λ e a b race. (let r = race_has_report columns accesses reports a b h race in none_reported reports r.0 e r.1),
  λ free. first_among reports (λ r among.
      let n = report_names_race columns accesses r (h.each r among) in
      free n.earlier n.later (named_race columns accesses r n)),
)
