use Rattle.std.proofs.Common.{sym, subst, ◌<◌, length, arith, refl}
use Rattle.pipe_frame.specs.TokenFields.{fields_of}
use Rattle.frame_book.specs.BookStates.{replies_at}
use Rattle.frame_book.specs.BookTables.{tables_of}
use Rattle.frame_book.specs.GivenTokens.{IsOutOf, IsPayloadOf}
use Rattle.frame_book.proofs.Keeping.LeaveReady.{ready_keeps, ready_view, out_row_read, out_within}
use Rattle.frame_book.proofs.Iterations.OutRows.{alive_out}
use Rattle.std.proofs.lemmas.Grind.{common_steps}
use Rattle.frame_rows.proofs.PlacedRows.{places_same}
use Rattle.frame_book.proofs.book.Book.leave_ready.Goals as goal

pub index_mut-requires : goal.index_mut-requires
index_mut-requires g c =
    let out = subst (λ v. IsOutOf v (fields_of c.args.token)) (sym c.self.view_is) c.requires.out in
    let w : c.args.token.iteration < length c.self.inside.rows.items = out_within c.self.inside.rows.items c.args.token.iteration out.out in
    grind (arith, common_steps)

pub invariant_of-self : goal.invariant_of-self
invariant_of-self g c =
    let t = c.args.token in
    let out = subst (λ v. IsOutOf v (fields_of t)) (sym c.self.view_is) c.requires.out in
    let pay = subst (λ v. IsPayloadOf g.M.Stands.ready_at g.M.Stands.tie v t.iteration (replies_at v t.iteration) t.payload)
    (sym c.self.view_is) c.requires.payload in
    let at = out_row_read c.self.inside.rows.items t.iteration c.index_mut.result.now out.out c.index_mut.ensures.value in
    rw c.keep.ensures (
      ready_keeps g.M.Stands.whole g.M.Stands.ready_at g.M.Stands.tie (tables_of c.self.inside) t c.index_mut.result.now
          c.self.invariant.0 at out pay c.requires.knows,
      alive_out c.self.inside.rows.items _ t.iteration c.index_mut.result.now _ _ _ at
          out.out c.self.invariant.1,
      places_same _ _ t.iteration c.index_mut.result.now _ _ at refl refl refl refl c.self.invariant.2,
    )

pub returns : goal.returns
returns g c =
    let t = c.args.token in
    let out = subst (λ v. IsOutOf v (fields_of t)) (sym c.self.view_is) c.requires.out in
    rw (c.keep.ensures, ← c.self.view_is) (ready_view g.M.Stands.whole g.M.Stands.ready_at g.M.Stands.tie
    (tables_of c.self.inside) t c.index_mut.result.now
    (out_row_read c.self.inside.rows.items t.iteration c.index_mut.result.now out.out c.index_mut.ensures.value))
