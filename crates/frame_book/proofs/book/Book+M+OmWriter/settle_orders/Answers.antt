use Rattle.std.proofs.Common.{subst, sym}
use Rattle.frame_book.specs.BookTables.{tables_of}
use Rattle.frame_book.specs.Invariant.{IsBook}
use Rattle.frame_book.proofs.book.Book+M+OmWriter.settle_orders.Goals as goal

pub invariant_of-self : goal.invariant_of-self
invariant_of-self g c = (
  subst (λ o. IsBook g.M.Stands.whole g.M.Stands.ready_at g.M.Stands.tie (record (tables_of c.self.inside) { orders = o }))
      (sym c.settle.ensures.unchanged) c.self.invariant.0,
  c.self.invariant.1,
  c.self.invariant.2,
)
