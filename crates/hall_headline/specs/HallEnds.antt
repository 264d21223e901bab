-- A hall that has ended: what `close` and `Book::entries` ensure of its book and its shards. Together their logs make a run.
use Rattle.std.specs.Prelude.{◌≡◌, ◌<◌, ◌%◌, ◌/◌, ◌++◌, ℕ, List, map, length, All}
use Rattle.access_history.specs.declared.history.History.{History}
use Rattle.cell_store.specs.ShardState.{IsStateAfter, ShardState}
use Rattle.pipe_model.specs.declared.access.Access.{Access}
use Rattle.pipe_model.specs.declared.event.Event.{Event}
use Rattle.pipe_model.specs.declared.ticket.ShardEntry.{ShardEntry}
use Rattle.pipe_model.specs.Language.Programs.{store_of}
use Rattle.pipe_model.specs.Language.SyntaxTree.{tree_of}
use Rattle.pipe_model.specs.Runs.RunLogs.{accesses_after}
use Rattle.pipe_model.specs.Runs.State.{accesses_of}
use Rattle.frame_book.specs.BookStates.{BookState}
use Rattle.program_laws.specs.DeclaredCells.{IsInside, cell_count}
use Rattle.run_record.specs.MergedLogs.{AreMerged, BookRises, ShardRises}
use Rattle.hall_laws.specs.ClosedHalls.{ClosedHall, IsSoundBook, NoTokenIsOut}
use Rattle.hall_laws.specs.HallReports.{AreFound, HaveNotedEntries}
use Rattle.hall_laws.specs.HallRuns.{IsRunOfHall}
use Rattle.hall_calls.specs.Closing.{EndedHall, StopIsLast, shard_in}
use Rattle.hall_shards.specs.FoundRaces.{found_by}
use Rattle.hall_shards.specs.ShardValues.{ShardValue, history_at}
use Rattle.hall_table.specs.SeatViews.{start_of}

-- the logs of the shards
abbrev pub logs_of : List ShardValue → List (List ShardEntry)
logs_of shards = map (λ (x : ShardValue). x.log) shards

-- the history of cell c
abbrev pub history_of : List ShardValue → ℕ → History
history_of shards c = history_at (shard_in shards (c % 16)).histories (c / 16)

-- what `close` and `Book::entries` ensure of a hall that was opened after these accesses
pub record IsHallEnd (before : List Access) (b : BookState) (shards : List ShardValue) : Type 0 where
  pub count : length shards ≡ 16
  pub seen : List Event
  pub ended : EndedHall (start_of b before) seen b (shard_in shards)
  pub stop : StopIsLast b (shard_in shards)
  pub book : IsSoundBook b

-- ---- the logs

abbrev pub HallEndsAreClosed : Type 0
HallEndsAreClosed = (before : List Access) (b : BookState) (shards : List ShardValue) → IsHallEnd before b shards
    → ClosedHall b before (logs_of shards)

-- tickets rise in the logs, as `merge` requires
abbrev pub LogsOfHallEndsCanBeMerged : Type 0
LogsOfHallEndsCanBeMerged =
    (before : List Access) (b : BookState) (shards : List ShardValue) → IsHallEnd before b shards
    → BookRises b.log × All ShardRises (logs_of shards)

-- if no token is out, the merge of the logs is a run of the program
abbrev pub HallEndsAreRuns : Type 0
HallEndsAreRuns =
    (before : List Access) (b : BookState) (shards : List ShardValue) (events : List Event) → IsHallEnd before b shards → NoTokenIsOut b
    → AreMerged b.log (logs_of shards) events → IsRunOfHall b before (logs_of shards) events

-- the accesses of the merge are to the program's cells
abbrev pub HallEndsAccessTheirCells : Type 0
HallEndsAccessTheirCells =
    (before : List Access) (b : BookState) (shards : List ShardValue) (events : List Event) → IsHallEnd before b shards
    → AreMerged b.log (logs_of shards) events → All (IsInside (cell_count (tree_of b.program))) events

-- ---- the cells

-- the state of shard k of 16 after `before` and the accesses of these events
pub record IsShardAfterRun (before : List Access) (b : BookState) (events : List Event) (k : ℕ) (state : ShardState) : Type 0 where
  pub number : state.shard.number ≡ k
  pub shards : state.shard.shards ≡ 16
  pub cells : IsStateAfter (store_of (tree_of b.program)) (before ++ accesses_of (accesses_after events)) state

abbrev pub HallEndsHaveCellsOfRuns : Type 0
HallEndsHaveCellsOfRuns =
    (before : List Access) (b : BookState) (shards : List ShardValue) (events : List Event) → IsHallEnd before b shards → NoTokenIsOut b
    → AreMerged b.log (logs_of shards) events → (k : ℕ) → k < 16 → IsShardAfterRun before b events k (shard_in shards k).cells

-- ---- the histories

-- the history of each cell has noted the accesses to it
abbrev pub HallEndsHaveHistories : Type 0
HallEndsHaveHistories =
    (before : List Access) (b : BookState) (shards : List ShardValue) → IsHallEnd before b shards
    → HaveNotedEntries b (logs_of shards) (history_of shards)

-- what the shards have found is what the histories report, each cell once
abbrev pub HallEndsFindAll : Type 0
HallEndsFindAll =
    (before : List Access) (b : BookState) (shards : List ShardValue) → IsHallEnd before b shards
    → AreFound (history_of shards) (found_by shards)
