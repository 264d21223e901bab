use Rattle.std.proofs.Common.{◌≡◌, sym, subst, true, ◌<◌, length, arith, refl}
use Rattle.pipe_frame.specs.TokenFields.{fields_of}
use Rattle.pipe_model.specs.Pipelines.Behaviour.{Performs}
use Rattle.frame_book.specs.BookStates.{state_of, left_of}
use Rattle.frame_book.specs.BookTables.{tables_of}
use Rattle.frame_book.specs.GivenTokens.{IsOutOf}
use Rattle.pipe_frame.specs.Replies.{accessed}
use Rattle.frame_book.proofs.Keeping.Hold.{hold_keeps, hold_view}
use Rattle.frame_book.proofs.Keeping.Performed.{performed}
use Rattle.frame_book.proofs.Keeping.LeaveReady.{out_row_read, out_within}
use Rattle.frame_book.proofs.Iterations.OutRows.{alive_out}
use Rattle.std.proofs.lemmas.Grind.{common_steps}
use Rattle.frame_rows.proofs.PlacedRows.{places_same}
use Rattle.frame_book.proofs.book.Book.hold.Goals as goal

pub index_mut-row-requires : goal.index_mut-row-requires
index_mut-row-requires g c =
    let out = subst (λ v. IsOutOf v (fields_of c.args.token)) (sym c.self.view_is) c.requires.out in
    let w : c.args.token.iteration < length c.self.inside.rows.items = out_within c.self.inside.rows.items c.args.token.iteration out.out in
    grind (arith, common_steps)

pub invariant_of-self : goal.invariant_of-self
invariant_of-self g c =
    let t = c.args.token in
    let out = subst (λ v. IsOutOf v (fields_of t)) (sym c.self.view_is) c.requires.out in
    let halted = subst (λ v. (state_of v).stopped ≡ true) (sym c.self.view_is) c.requires.stopped in
    let at = out_row_read c.self.inside.rows.items t.iteration c.index_mut-row.result.now out.out c.index_mut-row.ensures.value in
    let per = performed g.M.Stands.whole g.M.Stands.ready_at g.M.Stands.tie (tables_of c.self.inside) t c.index_mut-row.result.now
    c.self.invariant.0 at out (accessed c.args.trace) (subst (λ v. Performs (left_of v t.iteration) (accessed c.args.trace))
    (sym c.self.view_is) c.requires.performs) in
    rw (c.keep.ensures, c.end.ensures) (
      hold_keeps g.M.Stands.whole g.M.Stands.ready_at g.M.Stands.tie
          (tables_of c.self.inside) t c.index_mut-row.result.now c.args.trace c.self.invariant.0 at halted out per,
      alive_out
          c.self.inside.rows.items _ t.iteration c.index_mut-row.result.now _ _ _ at out.out c.self.invariant.1,
      places_same _ _ t.iteration c.index_mut-row.result.now _ _ at refl refl refl refl c.self.invariant.2,
    )

pub returns : goal.returns
returns g c =
    let t = c.args.token in
    let out = subst (λ v. IsOutOf v (fields_of t)) (sym c.self.view_is) c.requires.out in
    let halted = subst (λ v. (state_of v).stopped ≡ true) (sym c.self.view_is) c.requires.stopped in
    let at = out_row_read c.self.inside.rows.items t.iteration c.index_mut-row.result.now out.out c.index_mut-row.ensures.value in
    let per = performed g.M.Stands.whole g.M.Stands.ready_at g.M.Stands.tie (tables_of c.self.inside) t c.index_mut-row.result.now
    c.self.invariant.0 at out (accessed c.args.trace) (subst (λ v. Performs (left_of v t.iteration) (accessed c.args.trace))
    (sym c.self.view_is) c.requires.performs) in
    rw (c.keep.ensures, c.end.ensures, ← c.self.view_is)
    (hold_view g.M.Stands.whole g.M.Stands.ready_at g.M.Stands.tie (tables_of c.self.inside) t c.index_mut-row.result.now c.args.trace
    c.self.invariant.0 at halted out per)
