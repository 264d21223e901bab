use Rattle.std.proofs.Common.{◌≡◌, take}
use Rattle.run_record.specs.LogLines.{log_text}
use Rattle.run_record.proofs.log_text.lines_of.Given as goal

abbrev pub invariant-loop-event : goal.invariant-loop-event
invariant-loop-event l = l.text.items ≡ log_text l.cells (take l.event-index l.events)
