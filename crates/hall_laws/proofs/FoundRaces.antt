-- What the histories of a closed hall have found are the first races of the run.
use Rattle.std.proofs.Common.{◌≡◌, ◌∙◌, refl, sym, ap, subst, ℕ, zero, suc, ◌<◌, ◌≤◌, List, [], ◌∷◌, length, map, get_or, false, ◌==◌}
use Rattle.std.proofs.Common.{Contains, Option, Some, None, arith, inl, inr, if◌then◌else◌}
use Rattle.std.proofs.lemmas.Bool.{cases_lt, ne_eqb}
use Rattle.std.proofs.lemmas.List.{get_or-map, length-map}
use Rattle.std.proofs.lemmas.List.Elements.{Contains-append_cases, Contains-append_left, Contains-append_right, Contains-get_or}
use Rattle.std.proofs.lemmas.List.Sorted.{Contains-permutation, IsPermutation-sym}
use Rattle.access_history.specs.declared.history.Found.{Found}
use Rattle.access_history.specs.declared.history.History.{History}
use Rattle.access_history.specs.KeptInstances.{report_of_race}
use Rattle.pipe_model.specs.declared.access.Access.{Access as Cell_access}
use Rattle.pipe_model.specs.declared.access.CellId.{CellId}
use Rattle.pipe_model.specs.declared.access.NodeAccess.{NodeAccess}
use Rattle.pipe_model.specs.declared.event.Event.{Event}
use Rattle.pipe_model.specs.declared.node.Node.{Node}
use Rattle.pipe_model.specs.declared.node.NodeId.{NodeId}
use Rattle.pipe_model.specs.declared.report.Report.{Report}
use Rattle.pipe_model.specs.declared.ticket.ShardEntry.{ShardEntry}
use Rattle.pipe_model.specs.Orders.AccessHistory.{FoundRace, found_race}
use Rattle.pipe_model.specs.Orders.HistoryRaces.{IsRightVerdict, found_race_of_cell}
use Rattle.pipe_model.specs.Orders.HistoryReports as reports
use Rattle.pipe_model.specs.Orders.HistoryReports.{reports_below}
use Rattle.pipe_model.specs.Orders.Starts.{starts_of}
use Rattle.pipe_model.specs.Orders.TwoOrders.{down_place, right_place}
use Rattle.pipe_model.specs.Pipelines.Pipeline.{Pipeline}
use Rattle.pipe_model.specs.Races.CellRaces.{NotedAccess, access_at, accesses_to, noted_access}
use Rattle.pipe_model.specs.declared.access.AccessKind.TheVariants.{Read}
use Rattle.pipe_model.specs.Races.Columns.{IsNodeOf, at, nodes_at}
use Rattle.pipe_model.specs.Races.Reports.{AreRight}
use Rattle.pipe_model.specs.Runs.Run.{Run}
use Rattle.pipe_model.specs.Runs.RunLogs.{accesses_after, columns_after, state_after}
use Rattle.pipe_model.proofs.CellAccesses.{one_place, placed_among}
use Rattle.frame_book.specs.BookStates.{BookState, state_of}
use Rattle.schedule_laws.proofs.ControlOutlines.{control_goes_by_outlines}
use Rattle.schedule_laws.proofs.HistoryFolds.{histories_are_states}
use Rattle.race_detection.proofs.RunReports.{runs_are_detected}
use Rattle.race_detection.specs.FoundReports.{cell_bound, found_reports}
use Rattle.race_report.specs.RaceReports.{IsFoundIn, report_found}
use Rattle.run_laws.proofs.RaceHistories.RunHistories.{histories_find_the_first_race}
use Rattle.run_laws.proofs.RunStates.IterationCounts.{runs_keep_rules}
use Rattle.race_detection.proofs.FoundRaces.{one_list}
use Rattle.hall_laws.specs.HallReports.{AreFound, FindsRacesOf, HaveNotedEntries, HistoriesFindRaces, cell_of, columns_of_book}
use Rattle.hall_laws.specs.HallReports.{starts_of_book}
use Rattle.hall_laws.specs.HallRuns.{IsRunOfHall, entries_to, pipeline_after}

-- ---- cells without accesses

none_past_bound : (c : ℕ) (accesses : List NodeAccess) → cell_bound accesses ≤ c → accesses_to c accesses ≡ []
none_past_bound c [] past = refl
none_past_bound c (a ∷ more) past =
    let here : suc a.access.cell.0 ≤ c = omega (arith, past) in
    let rest : cell_bound more ≤ c = omega (arith, past) in
    let apart : (a.access.cell.0 == c) ≡ false = ne_eqb a.access.cell.0 c (λ q. omega (arith, here, q)) in
    ap (λ b. if b then noted_access a.node a.access.kind ∷ accesses_to c more else accesses_to c more) apart ∙ none_past_bound c more rest

-- ---- the reports of all cells

module _ (columns : List (List Node)) (starts : List NodeId) (accesses : List NodeAccess) where
  abbrev race_at : ℕ → Option FoundRace
  race_at c = found_race_of_cell columns starts accesses c

  abbrev cell_report : ℕ → List Report
  cell_report c = reports.report_found columns c (accesses_to c accesses) (race_at c)

  -- a cell that was not accessed has no race
  no_race : (c : ℕ) → accesses_to c accesses ≡ [] → race_at c ≡ None
  no_race c none = ap (found_race (down_place starts) (right_place columns starts)) none

  below_each : (n : ℕ) (r : Report) → Contains (reports_below columns starts accesses n) r → (c : ℕ) × (c < n) × Contains (cell_report c) r
  below_each zero r m = absurd (let w = m.1 in omega (arith, w))
  below_each (suc n) r m = elim (Contains-append_cases (reports_below columns starts accesses n) (cell_report n) r m) [
    | inl a ↦ (let h = below_each n r a in (h.0, (let w = h.1 in omega (arith, w)), h.2))
    | inr a ↦ (n, omega arith, a)
  ]

  below_all : (n c : ℕ) (r : Report) → c < n → Contains (cell_report c) r → Contains (reports_below columns starts accesses n) r
  below_all zero c r l m = absurd (omega (arith, l))
  below_all (suc n) c r l m = elim (cases_lt c n) [
    | inl less ↦ Contains-append_left (reports_below columns starts accesses n) (cell_report n) r (below_all n c r less m)
    | inr past ↦ (
        let same : c ≡ n = omega (arith, l, past) in
        Contains-append_right (reports_below columns starts accesses n) (cell_report n) r (subst (λ k. Contains (cell_report k) r) same m))
  ]

-- ---- a run

-- a column with an instance is there
column_inside : (columns : List (List Node)) (i k : ℕ) → k < length (nodes_at columns i) → i < length columns
column_inside [] i k w = absurd (omega (arith, w))
column_inside (c ∷ cs) zero k w = omega arith
column_inside (c ∷ cs) (suc i) k w = let h = column_inside cs i k w in omega (arith, h)

-- the instance of a noted access is one of the run's
noted_inside : (p : Pipeline) (limit : ℕ) (events : List Event) (c n : ℕ) → Run p limit events (state_after events)
    → n < length (accesses_to c (accesses_after events)) → IsNodeOf (columns_after events)
    (access_at (accesses_to c (accesses_after events)) n).who
noted_inside p limit events c n run w =
    let placed = one_place c (accesses_after events) n w in
    let index = (runs_keep_rules p limit events (state_after events) run).inside placed.access (placed_among placed) in
    subst (λ (x : NotedAccess). IsNodeOf (columns_after events) x.who) (sym placed.is)
    (column_inside (columns_after events) placed.access.node.iteration placed.access.node.index index, index)

-- both instances of the first race of a cell are the run's
race_inside : (p : Pipeline) (limit : ℕ) (events : List Event) (c : ℕ) (race : FoundRace) → Run p limit events (state_after events)
    → found_race_of_cell (columns_after events) (starts_of events) (accesses_after events) c ≡ Some race
    → IsNodeOf (columns_after events) race.earlier.who
    × IsNodeOf (columns_after events) (access_at (accesses_to c (accesses_after events)) race.number).who
race_inside p limit events c race run is =
    let columns = columns_after events in
    let verdict = subst (λ o. IsRightVerdict columns (accesses_to c (accesses_after events)) o) is
    (histories_find_the_first_race p limit events (state_after events) run c) in
    let racy = verdict.racy in
    let races = racy.1 in
    let first = races.within in
    let earlier = races.earlier in (
      subst (λ (x : NotedAccess). IsNodeOf columns x.who) racy.2 (noted_inside p limit events c racy.0 run (omega (arith, first, earlier))),
      noted_inside p limit events c race.number run first,
    )

module _ (v : BookState) (before : List Cell_access) (shards : List (List ShardEntry)) (events : List Event) (history : ℕ → History)
    (found : List (CellId × Found)) (run : IsRunOfHall v before shards events) (noted : HaveNotedEntries v shards history)
    (are : AreFound history found) where
  abbrev p : Pipeline
  p = pipeline_after v before

  abbrev columns : List (List Node)
  columns = columns_after events

  abbrev starts : List NodeId
  starts = starts_of events

  abbrev accesses : List NodeAccess
  accesses = accesses_after events

  abbrev race : ℕ → Option FoundRace
  race c = found_race_of_cell columns starts accesses c

  columns_are : columns_of_book v ≡ columns
  columns_are = sym (control_goes_by_outlines v.limit (state_after events) (state_of v) run.same).columns

  starts_are : starts_of_book v ≡ starts
  starts_are = ap starts_of (sym run.book) ∙ (runs_are_detected p v.limit events (state_after events) run.run).starts

  -- what the history of a cell reports is the cell's first race in the run
  report_is : (c : ℕ) → (history c).report ≡ report_of_race (accesses_to c accesses) (race c)
  report_is c =
      let down = down_place (starts_of_book v) in
      let right = right_place (columns_of_book v) (starts_of_book v) in
      (noted.each c).report ∙ ap (report_of_race (entries_to shards c)) (histories_are_states down right (entries_to shards c)).found
      ∙ (ap (λ l. report_of_race l (found_race down right l)) (sym (run.accesses c))
      ∙ λ i. report_of_race (accesses_to c accesses) (found_race (down_place (starts_are i)) (right_place (columns_are i) (starts_are i))
      (accesses_to c accesses)))

  abbrev found_report : CellId × Found → Report
  found_report f = report_found columns f.0 f.1

  -- the report of a race of a cell
  of_race : (c : ℕ) (f : Found) (o : Option FoundRace) → report_of_race (accesses_to c accesses) o ≡ Some f
      → Contains (reports.report_found columns c (accesses_to c accesses) o) (found_report (cell_of c, f))
  of_race c f None e = absurd (cc)
  of_race c f (Some r) e =
      let same : f ≡ record {
        earlier = r.earlier.who;
        earlier_kind = r.earlier.kind;
        later = (access_at (accesses_to c accesses) r.number).who;
        later_kind = (access_at (accesses_to c accesses) r.number).kind;
      } = cc in
      (0, omega arith, ap (λ g. found_report (cell_of c, g)) (sym same))

  -- a cell with a race is below the bound of the accessed cells
  below_bound : (c : ℕ) (f : Found) → report_of_race (accesses_to c accesses) (race c) ≡ Some f → c < cell_bound accesses
  below_bound c f e = elim (cases_lt c (cell_bound accesses)) [
    | inl less ↦ less
    | inr past ↦ (
        let none : race c ≡ None = no_race columns starts accesses c (none_past_bound c accesses past) in
        let q : None ≡ Some f = sym (ap (report_of_race (accesses_to c accesses)) none) ∙ e in
        absurd (cc))
  ]

  -- a report of what was found is one of the run's
  found_is_below : (r : Report) → Contains (map found_report found) r → Contains (found_reports columns starts accesses) r
  found_is_below r m =
      let w = m.1 in
      let count = length-map found found_report in
      let k : m.0 < length found = omega (arith, w, count) in
      let d : CellId × Found = (cell_of 0, record { earlier = at 0 0; earlier_kind = Read; later = at 0 0; later_kind = Read }) in
      let x : CellId × Found = get_or found m.0 d in
      let c = x.0.0 in
      let here = are.each c x.1 (Contains-get_or found m.0 d k) in
      let e : report_of_race (accesses_to c accesses) (race c) ≡ Some x.1 = sym (report_is c) ∙ here in
      let is : found_report x ≡ r = sym (get_or-map found_report found m.0 d r k) ∙ m.2 in
      below_all columns starts accesses (cell_bound accesses) c r (below_bound c x.1 e)
      (subst (λ y. Contains (reports.report_found columns c (accesses_to c accesses) (race c)) y) is (of_race c x.1 (race c) e))

  -- the race of a report
  race_of : (c : ℕ) (r : Report) (o : Option FoundRace) → Contains (reports.report_found columns c (accesses_to c accesses) o) r
      → (f : Found) × (report_of_race (accesses_to c accesses) o ≡ Some f) × (found_report (cell_of c, f) ≡ r)
  race_of c r None m = absurd (let w = m.1 in omega (arith, w))
  race_of c r (Some x) (zero, w, e) = (
    record {
      earlier = x.earlier.who;
      earlier_kind = x.earlier.kind;
      later = (access_at (accesses_to c accesses) x.number).who;
      later_kind = (access_at (accesses_to c accesses) x.number).kind;
    },
    refl,
    e,
  )
  race_of c r (Some x) (suc k, w, e) = absurd (omega (arith, w))

  below_is_found : (r : Report) → Contains (found_reports columns starts accesses) r → Contains (map found_report found) r
  below_is_found r m =
      let h = below_each columns starts accesses (cell_bound accesses) r m in
      let c = h.0 in
      let q = race_of c r (race c) h.2 in
      let there = are.all c q.0 (report_is c ∙ q.1) in
      let k = there.1 in (
        there.0,
        (let count = length-map found found_report in omega (arith, k, count)),
        get_or-map found_report found there.0 (cell_of c, q.0) r k ∙ (ap found_report there.2 ∙ q.2),
      )

  -- a race that a history reports is in the run's columns
  found_inside : (c : ℕ) (f : Found) (o : Option FoundRace) → race c ≡ o → report_of_race (accesses_to c accesses) o ≡ Some f
      → IsFoundIn columns f
  found_inside c f None is e = absurd (cc)
  found_inside c f (Some x) is e =
      let both = race_inside p v.limit events c x run.run is in
      let same : record {
        earlier = x.earlier.who;
        earlier_kind = x.earlier.kind;
        later = (access_at (accesses_to c accesses) x.number).who;
        later_kind = (access_at (accesses_to c accesses) x.number).kind;
      } ≡ f = cc in
      subst (IsFoundIn columns) same (record { earlier = both.0; later = both.1 })

  finds_races : FindsRacesOf events found
  finds_races = record {
    inside = λ k d w. (
        let x : CellId × Found = get_or found k d in
        let here = are.each x.0.0 x.1 (Contains-get_or found k d w) in
        found_inside x.0.0 x.1 (race x.0.0) refl (sym (report_is x.0.0) ∙ here));
    reports = λ rs same rise. (
        let right = (runs_are_detected p v.limit events (state_after events) run.run).right in
        let equal : rs ≡ found_reports columns starts accesses = one_list rs (found_reports columns starts accesses) rise right.rise
        (λ r c. found_is_below r (Contains-permutation _ _ r (IsPermutation-sym _ _ same) c))
        (λ r c. Contains-permutation _ _ r same (below_is_found r c)) in
        record { found = equal; right = subst (AreRight columns accesses) (sym equal) right });
  }

pub histories_find_races : HistoriesFindRaces
histories_find_races v before shards events history found run noted are = finds_races v before shards events history found run noted are
