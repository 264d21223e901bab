use Rattle.std.proofs.Common.{◌≡◌, ◌<◌, ◌≤◌, ◌+◌, ◌^◌, ◌++◌, ◌∷◌, [], ap, sym, subst, ◌∙◌, arith, false, length, refl, w64}
use Rattle.std.proofs.lemmas.Grind.{common_steps}
use Rattle.std.proofs.lemmas.Int.{to_z-of_z}
use Rattle.pipe_frame.specs.TokenFields.{fields_of}
use Rattle.pipe_model.specs.Pipelines.Behaviour.{Performs, Staged}
use Rattle.frame_book.specs.BookStates.{state_of, left_of, replies_at}
use Rattle.pipe_frame.specs.Replies.{replies_of, accessed}
use Rattle.pipe_model.specs.declared.event.Event.TheVariants.{Advance}
use Rattle.frame_book.specs.BookTables.{tables_of}
use Rattle.frame_book.specs.CallEffects.{with_named}
use Rattle.frame_book.specs.Invariant.{IsBook}
use Rattle.frame_book.specs.Tables.{book_state}
use Rattle.frame_book.specs.GivenTokens.{IsOutOf, IsPayloadOf}
use Rattle.frame_book.proofs.Keeping.Name.{name_keeps, name_view, named_tables}
use Rattle.frame_book.proofs.Keeping.Stop.{log_room, last_below}
use Rattle.frame_book.proofs.Keeping.Performed.{performed}
use Rattle.frame_book.proofs.Keeping.LeaveReady.{out_fits, out_within, out_row_read}
use Rattle.frame_book.proofs.Iterations.OutRows.{alive_out}
use Rattle.frame_rows.specs.Places.{spare_rows}
use Rattle.frame_rows.proofs.PlacedRows.{places_same}
use Rattle.frame_book.proofs.book.Book.name.Goals as goal

pub stamp-requires-clause-room : goal.stamp-requires-clause-room
stamp-requires-clause-room g c =
    let go = subst (λ v. (state_of v).stopped ≡ false) (sym c.self.view_is) c.requires.going in
    log_room g.M.Stands.whole g.M.Stands.ready_at g.M.Stands.tie (tables_of c.self.inside) c.self.invariant.0
    (c.self.invariant.0.stopped ∙ go)

pub stamp-requires-clause-last : goal.stamp-requires-clause-last
stamp-requires-clause-last g c =
    let go = subst (λ v. (state_of v).stopped ≡ false) (sym c.self.view_is) c.requires.going in
    last_below g.M.Stands.whole g.M.Stands.ready_at g.M.Stands.tie (tables_of c.self.inside) c.self.invariant.0
    (c.self.invariant.0.stopped ∙ go)

pub stamp-requires-clause-now : goal.stamp-requires-clause-now
stamp-requires-clause-now g c =
    let go = subst (λ v. (state_of v).stopped ≡ false) (sym c.self.view_is) c.requires.going in
    let room = log_room g.M.Stands.whole g.M.Stands.ready_at g.M.Stands.tie (tables_of c.self.inside) c.self.invariant.0
    (c.self.invariant.0.stopped ∙ go) in
    let out = subst (λ v. IsOutOf v (fields_of c.args.token)) (sym c.self.view_is) c.requires.out in
    let size = c.self.invariant.0.sized.log_room in
    let few = c.self.invariant.0.sized.bounded in
    let now : c.args.token.now ≤ 2 ^ 62 + length c.self.inside.ledger.log = out.now in
    omega (arith, room, now, size, few)

pub index_mut-row-requires : goal.index_mut-row-requires
index_mut-row-requires g c =
    let out = subst (λ v. IsOutOf v (fields_of c.args.token)) (sym c.self.view_is) c.requires.out in
    let w : c.args.token.iteration < length c.self.inside.rows.items = out_within c.self.inside.rows.items c.args.token.iteration out.out in
    grind (arith, common_steps)

pub invariant_of-self : goal.invariant_of-self
invariant_of-self g c =
    let t = c.args.token in
    let out = subst (λ v. IsOutOf v (fields_of t)) (sym c.self.view_is) c.requires.out in
    let go = subst (λ v. (state_of v).stopped ≡ false) (sym c.self.view_is) c.requires.going in
    let at = out_row_read c.self.inside.rows.items t.iteration c.index_mut-row.result.now out.out c.index_mut-row.ensures.value in
    let per = performed g.M.Stands.whole g.M.Stands.ready_at g.M.Stands.tie (tables_of c.self.inside) t c.index_mut-row.result.now
    c.self.invariant.0 at out (accessed c.args.trace ++ Staged c.args.kind c.args.number ∷ [])
    (subst (λ v. Performs (left_of v t.iteration) (accessed c.args.trace ++ Staged c.args.kind c.args.number ∷ []))
    (sym c.self.view_is) c.requires.performs) in
    let pay = subst (λ v. IsPayloadOf g.M.Stands.ready_at g.M.Stands.tie v t.iteration
    (replies_at v t.iteration ++ replies_of c.args.trace ∷ []) t.payload) (sym c.self.view_is) c.requires.payload in
    let same = named_tables g.M.Stands.whole g.M.Stands.ready_at g.M.Stands.tie (tables_of c.self.inside) t
    c.index_mut-row.result.now c.args.kind
    c.args.number c.args.trace c.self.invariant.0 at go out per pay c.suspend.ensures c.stamp.ensures.log
    c.stamp.ensures.ticket (to_z-of_z w64 c.args.number c.ranges.number) in (
      subst (IsBook g.M.Stands.whole g.M.Stands.ready_at g.M.Stands.tie) (sym same)
          (name_keeps g.M.Stands.whole g.M.Stands.ready_at g.M.Stands.tie (tables_of c.self.inside) t c.index_mut-row.result.now c.args.kind
          c.args.number c.args.trace c.self.invariant.0 at go out per pay),
      alive_out c.self.inside.rows.items _ t.iteration c.index_mut-row.result.now _ _ _ at out.out c.self.invariant.1,
      places_same _ _ t.iteration c.index_mut-row.result.now _ _ at c.suspend.ensures refl refl refl c.self.invariant.2,
    )

pub returns : goal.returns
returns g c =
    let t = c.args.token in
    let out = subst (λ v. IsOutOf v (fields_of t)) (sym c.self.view_is) c.requires.out in
    let go = subst (λ v. (state_of v).stopped ≡ false) (sym c.self.view_is) c.requires.going in
    let at = out_row_read c.self.inside.rows.items t.iteration c.index_mut-row.result.now out.out c.index_mut-row.ensures.value in
    let per = performed g.M.Stands.whole g.M.Stands.ready_at g.M.Stands.tie (tables_of c.self.inside) t c.index_mut-row.result.now
    c.self.invariant.0 at out (accessed c.args.trace ++ Staged c.args.kind c.args.number ∷ [])
    (subst (λ v. Performs (left_of v t.iteration) (accessed c.args.trace ++ Staged c.args.kind c.args.number ∷ []))
    (sym c.self.view_is) c.requires.performs) in
    let pay = subst (λ v. IsPayloadOf g.M.Stands.ready_at g.M.Stands.tie v t.iteration
    (replies_at v t.iteration ++ replies_of c.args.trace ∷ []) t.payload) (sym c.self.view_is) c.requires.payload in
    let same = named_tables g.M.Stands.whole g.M.Stands.ready_at g.M.Stands.tie (tables_of c.self.inside) t
    c.index_mut-row.result.now c.args.kind
    c.args.number c.args.trace c.self.invariant.0 at go out per pay c.suspend.ensures c.stamp.ensures.log
    c.stamp.ensures.ticket (to_z-of_z w64 c.args.number c.ranges.number) in
    ap book_state same
    ∙ (name_view g.M.Stands.whole g.M.Stands.ready_at g.M.Stands.tie (tables_of c.self.inside) t c.index_mut-row.result.now c.args.kind
    c.args.number c.args.trace c.self.invariant.0 at go out per pay
    ∙ ap (λ v. with_named v (fields_of t) (Advance t.iteration c.args.kind c.args.number) c.args.trace) c.self.view_is)

pub overflow_cast-iteration : goal.overflow_cast-iteration
overflow_cast-iteration g c =
    let out = subst (λ v. IsOutOf v (fields_of c.args.token)) (sym c.self.view_is) c.requires.out in
    out_fits _ c.self.inside.rows.items (spare_rows c.self.inside.places.spare) _ _ _ c.args.token.iteration
    c.self.invariant.0.sized out.out
