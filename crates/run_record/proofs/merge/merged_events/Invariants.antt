-- Each merge of what is left of the logs completes the events to those of a merge of the logs.
use Rattle.std.proofs.Common.{List, ◌++◌, map}
use Rattle.pipe_model.specs.Runs.TicketLogs.{LogEntry, event_of}
use Rattle.run_record.specs.LogCursors.{AreCursors, MergesRest, entries_left}
use Rattle.run_record.specs.MergedLogs.{AreMerged}
use Rattle.run_record.proofs.merge.merged_events.Given as goal

abbrev pub invariant-loop-event : goal.invariant-loop-event
invariant-loop-event l = record {
  cursors : AreCursors l.shards l.cursors;
  completed : (entries : List LogEntry) → MergesRest l.book l.shards l.cursors entries
      → AreMerged l.book l.shards (l.events.items ++ map event_of entries);
}

abbrev pub decreases-loop-event : goal.decreases-loop-event
decreases-loop-event l = entries_left l.book l.shards l.cursors
