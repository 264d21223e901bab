use Rattle.std.proofs.Common.{◌≡◌}
use Rattle.run_record.specs.LogCursors.{IsFirst, next_ticket}
use Rattle.run_record.proofs.cursors.next_log.Given as goal

abbrev pub invariant-loop-number : goal.invariant-loop-number
invariant-loop-number l = record {
  first : IsFirst l.fn.book l.tickets l.number l.log;
  least : l.least ≡ next_ticket l.fn.book l.tickets l.log;
}
