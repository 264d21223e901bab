-- The access histories and the cells of a closed hall are the run's.
use Rattle.std.specs.Prelude.{◌≡◌, ◌≢◌, ◌+◌, ◌*◌, ◌/◌, suc, ◌%◌, ◌<◌, ◌++◌, [], ◌∷◌, ℕ, List, map, length, slice_index_or, Some, All}
use Rattle.std.specs.Prelude.{AllPairs, Contains}
use Rattle.std.specs.List.{flat_map}
use Rattle.std.specs.List.Sorted.{IsPermutation}
use Rattle.access_history.specs.declared.history.Found.{Found}
use Rattle.access_history.specs.declared.history.History.{History}
use Rattle.access_history.specs.KeptInstances.{IsHistoryAfter}
use Rattle.cell_store.specs.ShardState.{IsStateAfter, ShardState}
use Rattle.pipe_model.specs.declared.access.Access.{Access}
use Rattle.pipe_model.specs.declared.access.CellId.{CellId}
use Rattle.pipe_model.specs.declared.event.Event.{Event}
use Rattle.pipe_model.specs.declared.node.Node.{Node}
use Rattle.pipe_model.specs.declared.node.NodeId.{NodeId}
use Rattle.pipe_model.specs.declared.report.Report.{Report}
use Rattle.pipe_model.specs.declared.ticket.ShardEntry.{ShardEntry}
use Rattle.pipe_model.specs.Language.Programs.{store_of}
use Rattle.pipe_model.specs.Language.SyntaxTree.{tree_of}
use Rattle.pipe_model.specs.Orders.Starts.{starts_of}
use Rattle.pipe_model.specs.Orders.TwoOrders.{down_place, right_place}
use Rattle.pipe_model.specs.Races.Reports.{AreRight, RiseByCell}
use Rattle.pipe_model.specs.Runs.RunLogs.{accesses_after, columns_after}
use Rattle.pipe_model.specs.Runs.State.{accesses_of}
use Rattle.frame_book.specs.BookStates.{BookState, events_of}
use Rattle.race_detection.specs.FoundReports.{found_reports}
use Rattle.race_detection.specs.NotedRuns.{found_of, history_at}
use Rattle.race_report.specs.RaceReports.{IsFoundIn, report_found}
use Rattle.run_record.specs.MergedLogs.{shard_at}
use Rattle.hall_laws.specs.HallRuns.{IsRunOfHall, entries_to}

-- ---- the histories

-- the columns and the starts of the book, from which its order lists are built
abbrev pub columns_of_book : BookState → List (List Node)
columns_of_book v = columns_after (events_of v.log)

abbrev pub starts_of_book : BookState → List NodeId
starts_of_book v = starts_of (events_of v.log)

abbrev pub cell_of : ℕ → CellId
cell_of c = record { 0 = c }

-- the history of each cell has noted the cell's entries, by the two orders of the book's lists; a cell without entries has an empty one
pub record HaveNotedEntries (v : BookState) (shards : List (List ShardEntry)) (history : ℕ → History) : Type 0 where
  pub each : (c : ℕ) → IsHistoryAfter (down_place (starts_of_book v)) (right_place (columns_of_book v) (starts_of_book v))
      (entries_to shards c) (history c)

-- what the histories of the cells of shard k report, in rising order of cells
pub record AreFoundInShard (width k : ℕ) (history : ℕ → History) (found : List (CellId × Found)) : Type 0 where
  pub each : (c : ℕ) (f : Found) → Contains found (cell_of c, f) → (c % width ≡ k) × ((history c).report ≡ Some f)
  pub all : (c : ℕ) (f : Found) → c % width ≡ k → (history c).report ≡ Some f → Contains found (cell_of c, f)
  pub rise : AllPairs (λ (a : CellId × Found) (b : CellId × Found). a.0.0 < b.0.0) found

-- what the histories of shard k report, slot by slot, from this slot on; the history of cell c is in slot c / width
abbrev pub found_in_slots : ℕ → ℕ → ℕ → List History → List (CellId × Found)
found_in_slots width k slot [] = []
found_in_slots width k slot (h ∷ hs) = found_of (slot * width + k) h.report ++ found_in_slots width k (suc slot) hs

-- these are the races that the shard has found
abbrev pub SlotsAreFound : Type 0
SlotsAreFound =
    (width k : ℕ) (histories : List History) (history : ℕ → History) → k < width
    → ((c : ℕ) → c % width ≡ k → history c ≡ history_at histories (c / width))
    → AreFoundInShard width k history (found_in_slots width k 0 histories)

-- what all histories report, each cell once
pub record AreFound (history : ℕ → History) (found : List (CellId × Found)) : Type 0 where
  pub each : (c : ℕ) (f : Found) → Contains found (cell_of c, f) → (history c).report ≡ Some f
  pub all : (c : ℕ) (f : Found) → (history c).report ≡ Some f → Contains found (cell_of c, f)
  pub apart : AllPairs (λ (a : CellId × Found) (b : CellId × Found). a.0 ≢ b.0) found

-- what the shards have found, one shard after the other, is what all histories report
abbrev pub ShardsFindAll : Type 0
ShardsFindAll =
    (history : ℕ → History) (founds : List (List (CellId × Found))) → 0 < length founds
    → ((k : ℕ) → k < length founds → AreFoundInShard (length founds) k history (slice_index_or founds k []))
    → AreFound history (flat_map (λ x. x) founds)

-- the reports are what the run's own histories find, and right for its own dag
pub record AreReportsOf (events : List Event) (reports : List Report) : Type 0 where
  pub found : reports ≡ found_reports (columns_after events) (starts_of events) (accesses_after events)
  pub right : AreRight (columns_after events) (accesses_after events) reports

-- what was found is in the run's own columns, as `gather` requires; sorted by cell, it gives the reports of the run
pub record FindsRacesOf (events : List Event) (found : List (CellId × Found)) : Type 0 where
  pub inside : All (λ (f : CellId × Found). IsFoundIn (columns_after events) f.1) found
  pub reports : (reports : List Report) → IsPermutation (map (λ (f : CellId × Found). report_found (columns_after events) f.0 f.1) found)
      reports
      → RiseByCell reports → AreReportsOf events reports

abbrev pub HistoriesFindRaces : Type 0
HistoriesFindRaces =
    (v : BookState) (before : List Access) (shards : List (List ShardEntry)) (events : List Event) (history : ℕ → History)
    (found : List (CellId × Found)) → IsRunOfHall v before shards events → HaveNotedEntries v shards history
    → AreFound history found → FindsRacesOf events found

-- ---- the cells

-- the cells of a shard after the entries in its log are its cells after the run
abbrev pub ShardStatesAreOfRuns : Type 0
ShardStatesAreOfRuns =
    (v : BookState) (before : List Access) (shards : List (List ShardEntry)) (events : List Event) (state : ShardState)
    → IsRunOfHall v before shards events
    → state.shard.shards ≡ length shards
    → IsStateAfter (store_of (tree_of v.program)) (before ++ map (λ (e : ShardEntry). e.access) (shard_at shards state.shard.number)) state
    → IsStateAfter (store_of (tree_of v.program)) (before ++ accesses_of (accesses_after events)) state
