-- The starts and the counts describe the events so far.
use Rattle.std.proofs.Common.{◌≡◌, ◌≤◌, ℕ, length, slice_index}
use Rattle.pipe_model.specs.Orders.Starts.{starts_of}
use Rattle.order_2d.specs.LogStarts.{counts_in}
use Rattle.order_2d.proofs.EventsSoFar.{events_before, state_before}
use Rattle.order_2d.proofs.starts.starts_of_log.Given as goal

abbrev pub invariant-loop-event : goal.invariant-loop-event
invariant-loop-event l = record {
  starts : l.starts ≡ starts_of (events_before l.events l.event-index);
  counts : l.counts.items ≡ counts_in (state_before l.events l.event-index);
  counted : (k : ℕ) → slice_index l.counts.items k ≤ length l.starts;
}
