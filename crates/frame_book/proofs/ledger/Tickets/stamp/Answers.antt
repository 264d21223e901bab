use Rattle.std.proofs.Common.{sym}
use Rattle.frame_book.proofs.BookLogs.LogEntries.{last_ticket-push}
use Rattle.frame_book.proofs.ledger.Tickets.stamp.Goals as goal

pub invariant_of-self : goal.invariant_of-self
invariant_of-self c = (
  rw c.push_reserved.ensures.items (sym (last_ticket-push c.self.inside.entries.items _)),
  rw c.push_reserved.ensures.capacity c.self.invariant.1,
)
