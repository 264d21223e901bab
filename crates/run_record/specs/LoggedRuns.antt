-- The events and the columns of a run, which are in a run log or in the logs that the workers wrote.
use Rattle.std.specs.Prelude.{List, All, map}
use Rattle.pipe_model.specs.declared.column.Column.{Column}
use Rattle.pipe_model.specs.declared.event.Event.{Event}
use Rattle.pipe_model.specs.declared.ticket.BookEntry.{BookEntry}
use Rattle.run_record.specs.MergedLogs.{BookRises, ShardRises}
use Rattle.run_record.specs.OwnColumns.{made_columns}
use Rattle.run_record.specs.SortedEntries.{merged_events}
use Rattle.run_record.specs.declared.logged_run.EventLogs.{EventLogs}
use Rattle.run_record.specs.declared.logged_run.EventLogs.TheVariants.{Merged, Apart}

-- the events, in the order in which they happened
abbrev pub events_of : EventLogs → List Event
events_of (Merged log) = log.events
events_of (Apart book shards) = merged_events book shards.items

-- the columns that they make
abbrev pub columns_of : EventLogs → List Column
columns_of (Merged log) = log.columns
columns_of (Apart book shards) = made_columns (map (λ (b : BookEntry). b.event) book)

-- in each log tickets rise
abbrev pub CanBeMerged : EventLogs → Type 0
CanBeMerged (Merged log) = Unit {0}
CanBeMerged (Apart book shards) = BookRises book × All ShardRises shards.items
