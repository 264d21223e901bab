use Rattle.std.proofs.Common.{◌≡◌, ◌≤◌, ◌^◌, take}
use Rattle.race_detection.specs.FoundReports.{cell_bound}
use Rattle.race_detection.specs.LogAccesses.{log_accesses}
use Rattle.race_detection.proofs.logged_accesses.cell_bound.Given as goal

abbrev pub invariant-loop-event : goal.invariant-loop-event
invariant-loop-event l = record {
  bound : l.bound ≡ cell_bound (log_accesses (take l.event-index l.events));
  small : l.bound ≤ 2 ^ 32;
}
