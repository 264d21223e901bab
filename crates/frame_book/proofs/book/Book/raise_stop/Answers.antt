use Rattle.std.proofs.Common.{◌≡◌, ◌≤◌, ◌+◌, ◌^◌, length, sym, subst, true}
use Rattle.frame_book.specs.BookStates.{BookState, state_of}
use Rattle.frame_book.specs.BookTables.{tables_of}
use Rattle.frame_book.proofs.Keeping.RaiseStop.{raise_keeps, stopped_some}
use Rattle.frame_book.proofs.book.Book.raise_stop.Goals as goal

pub invariant_of-self : goal.invariant_of-self
invariant_of-self g c =
    let least = subst (λ (v : BookState). c.args.least ≤ 2 ^ 62 + length v.log) (sym c.self.view_is) c.requires.least in
    let some = stopped_some c.self.inside.ledger.log (subst (λ v. (state_of v).stopped ≡ true) (sym c.self.view_is) c.requires.stopped) in
    rw c.raise_last.ensures (
      raise_keeps g.M.Stands.whole g.M.Stands.ready_at g.M.Stands.tie
          (tables_of c.self.inside) c.self.invariant.0 c.args.least least some,
      c.self.invariant.1,
      c.self.invariant.2,
    )

pub raise_last-requires : goal.raise_last-requires
raise_last-requires g c =
    stopped_some c.self.inside.ledger.log (subst (λ v. (state_of v).stopped ≡ true) (sym c.self.view_is) c.requires.stopped)
