-- The histories of all cells find nothing exactly when there is no race.
use Rattle.std.proofs.Common.{ℕ, List, ◌≡◌, refl, arith, subst, sym, ap, ◌∙◌}
use Rattle.std.specs.declared.option.Option.{Option}
use Rattle.std.specs.declared.option.Option.TheVariants.{None, Some}
use Rattle.pipe_model.specs.Orders.AccessHistory.{FoundRace}
use Rattle.pipe_model.specs.Races.CellRaces.{NotedAccess, access_at, accesses_to, KindsConflict, RacesAt}
use Rattle.pipe_model.specs.Races.Dag.{AreParallel}
use Rattle.pipe_model.specs.Orders.HistoryRaces.{IsRightVerdict, found_race_of_cell}
use Rattle.pipe_model.specs.Races.DeterminacyRaces.{IsRaceFree}
use Rattle.pipe_model.specs.Orders.Starts.{starts_of}
use Rattle.pipe_model.specs.Runs.State.{own_columns}
use Rattle.pipe_model.specs.declared.access.NodeAccess.{NodeAccess}
use Rattle.pipe_model.specs.declared.node.Node.{Node}
use Rattle.run_laws.proofs.Elision.RaceFreeElisions.{race_free_elisions_have_race_free_runs}
use Rattle.run_laws.proofs.Elision.RaceFreeRuns.{race_free_runs_are_serial}
use Rattle.run_laws.proofs.RaceHistories.RunHistories.{histories_find_the_first_race}
use Rattle.run_laws.specs.HistoryLaws.{HistoriesDecideRaces, NothingFoundIsSerial, RaceFreeElisionsFindNothing}
use Rattle.pipe_model.proofs.CellAccesses.{cell_id, one_place, placed_among}
use Rattle.pipe_model.proofs.RacesByCell.{race_at}

-- a race of a cell's accesses is a race of the run
cell_race_is_race : (columns : List (List Node)) (cell : ℕ) (xs : List NodeAccess) (n k : ℕ)
    → RacesAt columns (accesses_to cell xs) n k → IsRaceFree columns xs → ⊥
cell_race_is_race columns cell xs n k r free =
    let l = r.within in
    let w = r.earlier in
    let b = one_place cell xs n l in
    let a = one_place cell xs k (omega (arith, l, w)) in
    free a.access b.access (record {
      first = placed_among a;
      second = placed_among b;
      conflict = record {
        same = ap cell_id (a.at_cell ∙ sym b.at_cell);
        one = subst (λ (x : NotedAccess). KindsConflict x.kind b.access.access.kind) a.is
            (subst (λ (y : NotedAccess). KindsConflict (access_at (accesses_to cell xs) k).kind y.kind) b.is
            r.conflict);
      };
      parallel = subst (λ (x : NotedAccess). AreParallel columns x.who b.access.node) a.is
          (subst (λ (y : NotedAccess). AreParallel columns (access_at (accesses_to cell xs) k).who y.who) b.is
          r.parallel);
    })

-- without a race nothing is found
nothing_found : (columns : List (List Node)) (cell : ℕ) (xs : List NodeAccess) (v : Option FoundRace)
    → IsRightVerdict columns (accesses_to cell xs) v → IsRaceFree columns xs → v ≡ None
nothing_found columns cell xs None h free = refl
nothing_found columns cell xs (Some race) h free =
    let q = h.racy in
    absurd (cell_race_is_race columns cell xs race.number q.0 q.1 free)

-- if no cell has a race, the run has none
race_free_by_cells : (columns : List (List Node)) (xs : List NodeAccess)
    → ((cell n k : ℕ) → RacesAt columns (accesses_to cell xs) n k → ⊥) → IsRaceFree columns xs
race_free_by_cells columns xs none a b r =
    let h = race_at columns xs a b a.access.cell.0 refl r in
    none a.access.cell.0 h.later h.earlier h.racy

-- the law that histories decide races
pub histories_decide_races : HistoriesDecideRaces
histories_decide_races p limit events s r = (
  (λ none. race_free_by_cells (own_columns s) s.accesses
      (λ cell n k. (subst (IsRightVerdict (own_columns s) (accesses_to cell s.accesses)) (none cell)
      (histories_find_the_first_race p limit events s r cell)) n k)),
  (λ free cell. nothing_found (own_columns s) cell s.accesses
      (found_race_of_cell (own_columns s) (starts_of events) s.accesses cell)
      (histories_find_the_first_race p limit events s r cell) free),
)

-- a finished run in which the histories find nothing is the serial elision
pub nothing_found_is_serial : NothingFoundIsSerial
nothing_found_is_serial p limit events s r closes over none =
    race_free_runs_are_serial p limit events s r closes over ((histories_decide_races p limit events s r).0 none)

-- the law of elisions without a race
pub race_free_elisions_find_nothing : RaceFreeElisionsFindNothing
race_free_elisions_find_nothing p limit events s r well free =
    (histories_decide_races p limit events s r).1
    (race_free_elisions_have_race_free_runs p limit events s r well free)
