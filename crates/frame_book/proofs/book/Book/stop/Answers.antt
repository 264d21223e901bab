use Rattle.frame_book.proofs.Keeping.Stop.{log_room, last_below, stop_keeps}
use Rattle.frame_book.proofs.book.Book.stop.Goals as goal

pub stamp-requires-clause-room : goal.stamp-requires-clause-room
stamp-requires-clause-room g c = log_room g.M.Stands.whole g.M.Stands.ready_at g.M.Stands.tie _ c.self.invariant.0 c.if-not-self.true

pub stamp-requires-clause-last : goal.stamp-requires-clause-last
stamp-requires-clause-last g c = last_below g.M.Stands.whole g.M.Stands.ready_at g.M.Stands.tie _ c.self.invariant.0 c.if-not-self.true

pub invariant_of-self : goal.invariant_of-self
invariant_of-self g c = rw c.stamp.ensures.log (
  stop_keeps g.M.Stands.whole g.M.Stands.ready_at g.M.Stands.tie _ c.self.invariant.0
      c.if-not-self.true,
  c.self.invariant.1,
  c.self.invariant.2,
)
