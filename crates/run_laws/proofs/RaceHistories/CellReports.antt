-- The reports of the first races of all cells are right.
use Rattle.std.proofs.Common.{ℕ, List, ◌++◌, ◌≡◌, ◌<◌, zero, refl, suc, arith, ap, ◌∙◌, sym, append-nil, get_or}
use Rattle.std.proofs.Common.{subst, inl, inr}
use Rattle.std.proofs.lemmas.Bool.{cases_eq}
use Rattle.std.proofs.lemmas.List.Quantifiers.{all_pairs_push}
use Rattle.std.specs.declared.option.Option.{Option}
use Rattle.std.specs.declared.option.Option.TheVariants.{None, Some}
use Rattle.pipe_model.specs.Orders.AccessHistory.{FoundRace}
use Rattle.pipe_model.specs.Races.CellRaces.{NotedAccess, access_at, accesses_to, KindsConflict}
use Rattle.pipe_model.specs.Races.Dag.{AreParallel}
use Rattle.pipe_model.specs.Orders.HistoryRaces.{IsEarliestRace, IsRightVerdict, found_race_of_cell}
use Rattle.pipe_model.specs.Orders.HistoryReports.{report_found, reports_below}
use Rattle.pipe_model.specs.Races.DeterminacyRaces.{Among, Here, Later}
use Rattle.pipe_model.specs.Races.Reports.{NamesRace, RiseByCell, number_at, report_of}
use Rattle.pipe_model.specs.Orders.Starts.{starts_of}
use Rattle.pipe_model.specs.Runs.State.{State, own_columns}
use Rattle.pipe_model.specs.declared.access.NodeAccess.{NodeAccess}
use Rattle.pipe_model.specs.declared.node.Node.{Node}
use Rattle.pipe_model.specs.declared.node.NodeId.{NodeId}
use Rattle.pipe_model.specs.declared.report.Report.{Report}
use Rattle.pipe_model.proofs.RacesByCell.{HasRacesAt, race_at}
use Rattle.run_laws.proofs.RaceHistories.RunHistories.{histories_find_the_first_race}
use Rattle.pipe_model.proofs.Members.{among_at, among_either, among_left, among_right, none_among, only_one}
use Rattle.run_laws.specs.HistoryLaws.{ReportsAreRight}
use Rattle.pipe_model.proofs.CellAccesses.{noted_of, cell_id, two_places}

-- a report of what a history has found names a race
names_race : (s : State) (c : ℕ) (race : FoundRace) → IsEarliestRace (own_columns s) (accesses_to c s.accesses) race
    → NamesRace (own_columns s) s.accesses (report_of (own_columns s) c race.earlier (access_at (accesses_to c s.accesses) race.number))
names_race s c race h =
    let q = h.racy in
    let r = q.1 in
    let two = two_places c s.accesses race.number q.0 r.earlier r.within in
    let before : race.earlier ≡ noted_of two.earlier = sym q.2 ∙ two.earlier_is in
    record {
      front = two.front;
      earlier = two.earlier;
      between = two.between;
      later = two.later;
      rest = two.rest;
      stands = two.stands;
      conflict = record {
        same = ap cell_id (two.earlier_cell ∙ sym two.later_cell);
        one = subst (λ (x : NotedAccess). KindsConflict x.kind two.later.access.kind) two.earlier_is
            (subst (λ (y : NotedAccess). KindsConflict (access_at (accesses_to c s.accesses) q.0).kind y.kind)
            two.later_is r.conflict);
      };
      parallel = subst (λ (x : NotedAccess). AreParallel (own_columns s) x.who two.later.node) two.earlier_is
          (subst (λ (y : NotedAccess). AreParallel (own_columns s) (access_at (accesses_to c s.accesses) q.0).who
          y.who) two.later_is r.parallel);
      cell = ap cell_id (sym two.earlier_cell);
      nodes = (ap (λ (x : NotedAccess). x.who) before, ap (λ (x : NotedAccess). x.who) two.later_is);
      kinds = (ap (λ (x : NotedAccess). x.kind) before, ap (λ (x : NotedAccess). x.kind) two.later_is);
      numbers = (
        ap (λ (x : NotedAccess). number_at (own_columns s) x.who)
            before,
        ap (λ (x : NotedAccess). number_at (own_columns s) x.who) two.later_is,
      );
    }

-- each report of a cell names a race
report_names_race : (s : State) (c : ℕ) (v : Option FoundRace)
    → IsRightVerdict (own_columns s) (accesses_to c s.accesses) v → (r : Report)
    → Among r (report_found (own_columns s) c (accesses_to c s.accesses) v) → NamesRace (own_columns s) s.accesses r
report_names_race s c None h r m = elim m [ ]
report_names_race s c (Some race) h r Here = names_race s c race h
report_names_race s c (Some race) h r (Later _ m) = elim m [ ]

-- each report of all cells names a race
reports_name_races : (s : State) (starts : List NodeId)
    → ((c : ℕ) → IsRightVerdict (own_columns s) (accesses_to c s.accesses)
    (found_race_of_cell (own_columns s) starts s.accesses c))
    → (cells : ℕ) (r : Report)
    → Among r (reports_below (own_columns s) starts s.accesses cells) → NamesRace (own_columns s) s.accesses r
reports_name_races s starts right zero r m = elim m [ ]
reports_name_races s starts right (suc c) r m =
    elim (among_either r (reports_below (own_columns s) starts s.accesses c)
    (report_found (own_columns s) c (accesses_to c s.accesses)
    (found_race_of_cell (own_columns s) starts s.accesses c)) m) [
      | inl old ↦ reports_name_races s starts right c r old
      | inr new ↦ report_names_race s c (found_race_of_cell (own_columns s) starts s.accesses c) (right c) r new
    ]

-- a cell with a race has a report
record HasReport (c : ℕ) (reports : List Report) : Type 0 where
  report : Report
  among : Among report reports
  of_cell : report.cell ≡ cell_id c

-- what a history finds is reported
race_is_reported : (s : State) (c : ℕ) (v : Option FoundRace)
    → IsRightVerdict (own_columns s) (accesses_to c s.accesses) v
    → HasRacesAt (own_columns s) (accesses_to c s.accesses)
    → HasReport c (report_found (own_columns s) c (accesses_to c s.accesses) v)
race_is_reported s c None h r = absurd (h r.later r.earlier r.racy)
race_is_reported s c (Some race) h r = record {
  report = report_of (own_columns s) c race.earlier (access_at (accesses_to c s.accesses) race.number);
  among = Here;
  of_cell = refl;
}

-- a race is reported among the reports of all cells
race_is_reported_below : (s : State) (starts : List NodeId) (c cells : ℕ) → c < cells
    → HasReport c (report_found (own_columns s) c (accesses_to c s.accesses)
    (found_race_of_cell (own_columns s) starts s.accesses c))
    → HasReport c (reports_below (own_columns s) starts s.accesses cells)
race_is_reported_below s starts c zero l h = absurd (omega (arith, l))
race_is_reported_below s starts c (suc cells) l h = elim (cases_eq c cells) [
  | inl e ↦ subst (λ d. HasReport c (reports_below (own_columns s) starts s.accesses d
      ++ report_found (own_columns s) d (accesses_to d s.accesses)
      (found_race_of_cell (own_columns s) starts s.accesses d))) e
      (record {
        report = h.report;
        among = among_right h.report (reports_below (own_columns s) starts s.accesses c)
            (report_found (own_columns s) c (accesses_to c s.accesses)
            (found_race_of_cell (own_columns s) starts s.accesses c)) h.among;
        of_cell = h.of_cell;
      })
  | inr o ↦ (
      let g = race_is_reported_below s starts c cells (omega (arith, l, o)) h in
      record {
        report = g.report;
        among = among_left g.report (reports_below (own_columns s) starts s.accesses cells)
            (report_found (own_columns s) cells (accesses_to cells s.accesses)
            (found_race_of_cell (own_columns s) starts s.accesses cells)) g.among;
        of_cell = g.of_cell;
      })
]

-- the reports of the cells below a number are of such cells
reports_below_cell : (columns : List (List Node)) (starts : List NodeId) (accesses : List NodeAccess) (cells : ℕ) (r : Report)
    → Among r (reports_below columns starts accesses cells) → r.cell.0 < cells
reports_below_cell columns starts accesses zero r m = absurd (none_among r m)
reports_below_cell columns starts accesses (suc c) r m =
    elim (among_either r (reports_below columns starts accesses c) (report_found columns c (accesses_to c accesses)
    (found_race_of_cell columns starts accesses c)) m) [
      | inl old ↦ (let l = reports_below_cell columns starts accesses c r old in omega (arith, l))
      | inr new ↦ of_cell (found_race_of_cell columns starts accesses c) new
    ]
  where
    of_cell : (v : Option FoundRace) → Among r (report_found columns c (accesses_to c accesses) v) → r.cell.0 < suc c
    of_cell None m = absurd (none_among r m)
    of_cell (Some race) m =
        let e = ap (λ (x : Report). x.cell.0) (only_one r (report_of columns c race.earlier
        (access_at (accesses_to c accesses) race.number)) m) in
        omega (arith, e)

-- one more cell, above all others
rise_with : (columns : List (List Node)) (c : ℕ) (noted : List NotedAccess) (v : Option FoundRace) (reports : List Report)
    → RiseByCell reports → ((r : Report) → Among r reports → r.cell.0 < c) → RiseByCell (reports ++ report_found columns c noted v)
rise_with columns c noted None reports rise below = rw append-nil rise
rise_with columns c noted (Some race) reports rise below =
    all_pairs_push (λ (a : Report) (b : Report). a.cell.0 < b.cell.0) reports
    (report_of columns c race.earlier (access_at noted race.number)) rise
    (λ k d w. below (get_or reports k d) (among_at reports k d w))

-- the reports of all cells rise by cell
reports_rise : (columns : List (List Node)) (starts : List NodeId) (accesses : List NodeAccess) (cells : ℕ)
    → RiseByCell (reports_below columns starts accesses cells)
reports_rise columns starts accesses zero = λ i j d l w. absurd (omega (arith, w))
reports_rise columns starts accesses (suc c) =
    rise_with columns c (accesses_to c accesses) (found_race_of_cell columns starts accesses c) (reports_below columns starts accesses c)
    (reports_rise columns starts accesses c) (λ r m. reports_below_cell columns starts accesses c r m)

-- the law of reports
pub reports_are_right : ReportsAreRight
reports_are_right p limit events s cells r within =
    let right : (c : ℕ) → IsRightVerdict (own_columns s) (accesses_to c s.accesses)
    (found_race_of_cell (own_columns s) (starts_of events) s.accesses c) =
    λ c. histories_find_the_first_race p limit events s r c in
    record {
      name = λ x m. reports_name_races s (starts_of events) right cells x m;
      all = λ a b race. (
          let c : ℕ = a.access.cell.0 in
          let h = race_is_reported_below s (starts_of events) c cells (within a race.first)
          (race_is_reported s c (found_race_of_cell (own_columns s) (starts_of events) s.accesses c) (right c)
          (race_at (own_columns s) s.accesses a b c refl race)) in
          (h.report, h.among, h.of_cell));
      rise = reports_rise (own_columns s) (starts_of events) s.accesses cells;
    }
