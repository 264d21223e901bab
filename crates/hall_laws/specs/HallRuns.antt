-- The logs of a closed hall: their merge is a run.
use Rattle.std.specs.Prelude.{◌≡◌, ◌≢◌, ℕ, List, [], ◌∷◌, ◌++◌, ◌%◌, ◌<◌, true, length, map, Some, All}
use Rattle.pipe_model.specs.declared.access.Access.{Access}
use Rattle.pipe_model.specs.declared.access.NodeAccess.{NodeAccess}
use Rattle.pipe_model.specs.declared.event.Event.{Event}
use Rattle.pipe_model.specs.declared.event.Event.TheVariants.{Stop}
use Rattle.pipe_model.specs.declared.node.NodeId.{NodeId}
use Rattle.pipe_model.specs.declared.ticket.BookEntry.{BookEntry}
use Rattle.pipe_model.specs.declared.ticket.ShardEntry.{ShardEntry}
use Rattle.pipe_model.specs.Pipelines.Pipeline.{Pipeline}
use Rattle.pipe_model.specs.Pipelines.Store.{written}
use Rattle.pipe_model.specs.Races.CellRaces.{NotedAccess, accesses_to}
use Rattle.pipe_model.specs.Races.DeterminacyRaces.{Among}
use Rattle.pipe_model.specs.Runs.ControlParts.{HaveSameControl, without_accesses}
use Rattle.pipe_model.specs.Runs.Run.{IsFinished, Run}
use Rattle.pipe_model.specs.Runs.RunLogs.{accesses_after, state_after}
use Rattle.pipe_model.specs.Runs.State.{accesses_of}
use Rattle.pipe_model.specs.Runs.TicketLogs.{IsMerge, LogEntry, OfBook, OfShard, event_of, rank_of, ticket_of}
use Rattle.pipe_model.specs.Runs.TicketOrder.{end_ticket_of, start_ticket_of}
use Rattle.frame_book.specs.BookStates.{BookState, events_of, pipeline_in, state_of, with_last_raised}
use Rattle.run_record.specs.MergedLogs.{AreMerged, BookRises, ShardRises, shard_at}
use Rattle.hall_laws.specs.ClosedHalls.{ClosedHall, HasShardLogs, IsSoundBook, NoTokenIsOut}

-- the loop of the book's program after these accesses
abbrev pub pipeline_after : BookState → List Access → Pipeline
pipeline_after v before = record (pipeline_in v) { preamble = before }

-- an entry of a shard as an access of the run
abbrev pub node_access_of : ShardEntry → NodeAccess
node_access_of e = record { node = e.node; access = e.access }

abbrev pub node_accesses : List ShardEntry → List NodeAccess
node_accesses log = map node_access_of log

-- the log of the shard of cell c
abbrev pub log_of_cell : List (List ShardEntry) → ℕ → List ShardEntry
log_of_cell shards c = shard_at shards (c % length shards)

-- the entries of a cell in the log of its shard, as its history notes them
abbrev pub entries_to : List (List ShardEntry) → ℕ → List NotedAccess
entries_to shards c = accesses_to c (node_accesses (log_of_cell shards c))

abbrev pub EndsWithStop : List Event → Type 0
EndsWithStop events = (earlier : List Event) × (events ≡ earlier ++ Stop ∷ [])

-- the events are a run of the program: its events that are no accesses are those of the book, and its accesses to each cell are the entries
-- of the cell's shard, each by the instance that its entry names
pub record IsRunOfHall (v : BookState) (before : List Access) (shards : List (List ShardEntry)) (events : List Event) : Type 0 where
  pub run : Run (pipeline_after v before) v.limit events (state_after events)
  pub book : without_accesses events ≡ events_of v.log
  pub same : HaveSameControl (state_after events) (state_of v)
  pub accesses : (c : ℕ) → accesses_to c (accesses_after events) ≡ entries_to shards c
  pub writes : (c : ℕ) → written c (accesses_of (accesses_after events)) ≡ written c
      (map (λ (e : ShardEntry). e.access) (log_of_cell shards c))
  pub finished : IsFinished (state_of v) → IsFinished (state_after events)
  pub stopped : (state_of v).stopped ≡ true → EndsWithStop events

-- if no token is out, the merge of the logs of a closed hall is a run
abbrev pub ClosedHallsAreRuns : Type 0
ClosedHallsAreRuns =
    (v : BookState) (before : List Access) (shards : List (List ShardEntry)) (events : List Event) → ClosedHall v before shards
    → NoTokenIsOut v
    → AreMerged v.log shards events → IsRunOfHall v before shards events

-- ---- before the merge

-- tickets rise in the logs, as `merge` requires
abbrev pub LogsCanBeMerged : Type 0
LogsCanBeMerged =
    (v : BookState) (before : List Access) (shards : List (List ShardEntry)) → HasShardLogs v before shards
    → BookRises v.log × All ShardRises shards

-- no token of a finished book is out
abbrev pub FinishedBooksHaveNoTokenOut : Type 0
FinishedBooksHaveNoTokenOut = (v : BookState) → IsSoundBook v → IsFinished (state_of v) → NoTokenIsOut v

-- ---- equal tickets

-- the entry starts the instance, ends it, or is one of its accesses
pub data IsOfInstance (log : List BookEntry) (x : NodeId) : LogEntry → Type 0 where
  StartsIt : (b : BookEntry) → start_ticket_of log x.iteration x.index ≡ Some b.ticket → IsOfInstance log x (OfBook b)
  EndsIt : (b : BookEntry) → end_ticket_of log x.iteration x.index ≡ Some b.ticket → IsOfInstance log x (OfBook b)
  AccessesIt : (k : ℕ) (e : ShardEntry) → e.node ≡ x → IsOfInstance log x (OfShard k e)

-- each entry of the merge is of an instance, but for `Stop`
abbrev pub EntriesAreOfInstances : Type 0
EntriesAreOfInstances =
    (v : BookState) (shards : List (List ShardEntry)) (merged : List LogEntry) → IsSoundBook v → IsMerge v.log (shard_at shards) merged
    → (x : LogEntry) → Among x merged → event_of x ≢ Stop → (n : NodeId) × IsOfInstance v.log n x

-- the entries are of different logs and of different instances
pub record AreApart (log : List BookEntry) (x y : LogEntry) : Type 0 where
  pub logs : rank_of x ≢ rank_of y
  pub instances : (n m : NodeId) → IsOfInstance log n x → IsOfInstance log m y → n ≢ m

-- two entries of a closed hall with one ticket are of different logs and of different instances
abbrev pub EqualTicketsAreApart : Type 0
EqualTicketsAreApart =
    (v : BookState) (before : List Access) (shards : List (List ShardEntry)) (merged : List LogEntry) → ClosedHall v before shards
    → NoTokenIsOut v
    → IsMerge v.log (shard_at shards) merged
    → (earlier between later : List LogEntry) (x y : LogEntry) → merged ≡ earlier ++ x ∷ (between ++ y ∷ later) → ticket_of x ≡ ticket_of y
    → AreApart v.log x y

-- ---- a book that was stopped

-- the book with the ticket of its last event raised to at least `least`
abbrev pub with_raised_stop : BookState → ℕ → BookState
with_raised_stop v least = record v { log = with_last_raised v.log least }

-- a stopped hall is closed once the ticket of `Stop` is raised to a number above all tickets of the shards
abbrev pub RaisedStopsClose : Type 0
RaisedStopsClose =
    (v : BookState) (before : List Access) (shards : List (List ShardEntry)) (least : ℕ) → IsSoundBook v → HasShardLogs v before shards
    → (state_of v).stopped ≡ true → All (All (λ (e : ShardEntry). e.ticket < least)) shards
    → ClosedHall (with_raised_stop v least) before shards
