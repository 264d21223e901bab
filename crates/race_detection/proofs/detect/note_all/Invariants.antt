use Rattle.std.proofs.Common.{◌≡◌, ◌≤◌, ℕ, length, slice_index, take}
use Rattle.order_2d.proofs.EventsSoFar.{events_before, state_before}
use Rattle.order_2d.specs.LogStarts.{counts_in}
use Rattle.pipe_model.specs.Orders.Starts.{starts_of}
use Rattle.race_detection.specs.LogAccesses.{log_accesses}
use Rattle.race_detection.specs.NotedRuns.{AreListsOf, HaveNoted}
use Rattle.race_detection.proofs.detect.note_all.Given as goal
use Rattle.pipe_model.specs.Races.Columns.{node_columns}

abbrev pub invariant-loop-event : goal.invariant-loop-event
invariant-loop-event l = record {
  lists : AreListsOf (node_columns l.run.columns.now) l.run.nodes l.orders;
  noted : HaveNoted (node_columns l.run.columns.now) l.run.nodes (log_accesses (take l.event-index l.events))
      l.histories.items;
  count : length l.histories.items ≡ length l.fn.histories.items;
  counts : l.counts.items ≡ counts_in (state_before l.events l.event-index);
  counted : (k : ℕ) → slice_index l.counts.items k ≤ length (starts_of (events_before l.events l.event-index));
}
