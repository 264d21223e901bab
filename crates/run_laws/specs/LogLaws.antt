-- The law of the logs of a closed run: their merge by tickets is a run.
use Rattle.std.specs.Prelude.{ℕ, List, ◌≡◌, map}
use Rattle.pipe_model.specs.Pipelines.Pipeline.{Pipeline}
use Rattle.pipe_model.specs.Runs.Run.{Run, IsFinished}
use Rattle.pipe_model.specs.Runs.State.{State, own_columns}
use Rattle.pipe_model.specs.Runs.TicketLogs.{TimedAction, LogEntry, ClosedLogs, IsMerge, event_of}
use Rattle.pipe_model.specs.declared.ticket.BookEntry.{BookEntry}
use Rattle.pipe_model.specs.declared.ticket.ShardEntry.{ShardEntry}
use Rattle.pipe_model.specs.declared.event.Event.{Event}

-- the events are a run, with the columns of this state of the control part, and finished if that is
pub record MakesRun (p : Pipeline) (limit : ℕ) (events : List Event) (c : State) : Type 0 where
  pub state : State
  pub run : Run p limit events state
  pub columns : own_columns state ≡ own_columns c
  pub finished : IsFinished c → IsFinished state

-- the merge of the logs of a closed run is a run
abbrev pub MergedLogsAreARun : Type 0
MergedLogsAreARun =
    (p : Pipeline) (limit width : ℕ) (book : List BookEntry) (shards : ℕ → List ShardEntry)
    (made : ℕ → ℕ → List TimedAction) (c : State) (merged : List LogEntry)
    → ClosedLogs p limit width book shards made c
    → IsMerge book shards merged
    → MakesRun p limit (map event_of merged) c
