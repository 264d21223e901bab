use Rattle.std.proofs.Common.{◌≡◌, ◌<◌, ◌≤◌, ◌+◌, ◌^◌, ◌++◌, ◌∷◌, [], ap, sym, subst, ◌∙◌, arith, false, length, refl}
use Rattle.std.proofs.lemmas.Grind.{common_steps}
use Rattle.pipe_frame.specs.Ties.{BelongsTo}
use Rattle.pipe_frame.specs.TokenFields.{fields_of}
use Rattle.pipe_model.specs.Pipelines.Behaviour.{Performs, Ended}
use Rattle.pipe_model.specs.Language.SyntaxTree.{tree_of}
use Rattle.frame_book.specs.BookStates.{state_of, left_of}
use Rattle.pipe_model.specs.declared.event.Event.TheVariants.{Finish}
use Rattle.frame_book.specs.BookTables.{tables_of}
use Rattle.frame_book.specs.CallEffects.{with_finished}
use Rattle.frame_book.specs.Invariant.{IsBook}
use Rattle.frame_book.specs.Tables.{book_state}
use Rattle.frame_book.specs.GivenTokens.{IsOutOf}
use Rattle.pipe_frame.specs.Replies.{accessed}
use Rattle.frame_book.proofs.Keeping.Finish.{finish_keeps, finish_view, finished_tables, pool_room}
use Rattle.frame_book.proofs.Keeping.Stop.{log_room, last_below}
use Rattle.frame_book.proofs.Keeping.Performed.{performed}
use Rattle.frame_book.proofs.Keeping.LeaveReady.{out_fits, out_within, out_row_read}
use Rattle.frame_book.proofs.Iterations.OutRows.{alive_out}
use Rattle.frame_rows.specs.Places.{spare_rows}
use Rattle.frame_rows.proofs.PlacedRows.{places_same}
use Rattle.frame_book.proofs.book.Book.finish.Goals as goal

pub stamp-requires-clause-room : goal.stamp-requires-clause-room
stamp-requires-clause-room g c =
    let go = subst (λ v. (state_of v).stopped ≡ false) (sym c.self.view_is) c.requires.going in
    log_room g.M.Stands.whole g.M.Stands.ready_at g.M.Stands.tie (tables_of c.self.inside) c.self.invariant.0
    (c.self.invariant.0.stopped ∙ go)

pub stamp-requires-clause-last : goal.stamp-requires-clause-last
stamp-requires-clause-last g c =
    let go = subst (λ v. (state_of v).stopped ≡ false) (sym c.self.view_is) c.requires.going in
    last_below g.M.Stands.whole g.M.Stands.ready_at g.M.Stands.tie (tables_of c.self.inside) c.self.invariant.0
    (c.self.invariant.0.stopped ∙ go)

pub stamp-requires-clause-now : goal.stamp-requires-clause-now
stamp-requires-clause-now g c =
    let go = subst (λ v. (state_of v).stopped ≡ false) (sym c.self.view_is) c.requires.going in
    let t = c.args.token in
    let out = subst (λ v. IsOutOf v (fields_of t)) (sym c.self.view_is) c.requires.out in
    let room = log_room g.M.Stands.whole g.M.Stands.ready_at g.M.Stands.tie (tables_of c.self.inside) c.self.invariant.0
    (c.self.invariant.0.stopped ∙ go) in
    let size = c.self.invariant.0.sized.log_room in
    let few = c.self.invariant.0.sized.bounded in
    let now : c.args.token.now ≤ 2 ^ 62 + length c.self.inside.ledger.log = out.now in
    omega (arith, room, now, size, few)

pub index_mut-row-requires : goal.index_mut-row-requires
index_mut-row-requires g c =
    let t = c.args.token in
    let out = subst (λ v. IsOutOf v (fields_of t)) (sym c.self.view_is) c.requires.out in
    let w : c.args.token.iteration < length c.self.inside.rows.items = out_within c.self.inside.rows.items c.args.token.iteration out.out in
    grind (arith, common_steps)

pub give-requires : goal.give-requires
give-requires g c =
    let t = c.args.token in
    let out = subst (λ v. IsOutOf v (fields_of t)) (sym c.self.view_is) c.requires.out in
    let go = subst (λ v. (state_of v).stopped ≡ false) (sym c.self.view_is) c.requires.going in
    let at = out_row_read c.self.inside.rows.items t.iteration c.index_mut-row.result.now out.out c.index_mut-row.ensures.value in
    let per = performed g.M.Stands.whole g.M.Stands.ready_at g.M.Stands.tie (tables_of c.self.inside) t c.index_mut-row.result.now
    c.self.invariant.0 at out (accessed c.args.trace ++ Ended c.args.end ∷ [])
    (subst (λ v. Performs (left_of v t.iteration) (accessed c.args.trace ++ Ended c.args.end ∷ []))
    (sym c.self.view_is) c.requires.performs) in
    let whole = subst (λ v. g.M.Stands.whole (tree_of v.program) t.payload) (sym c.self.view_is) c.requires.whole in
    let names = subst (λ v. BelongsTo (g.M.Stands.tie t.payload) v.lists) (sym c.self.view_is) c.requires.belongs in
    pool_room g.M.Stands.whole g.M.Stands.ready_at g.M.Stands.tie (tables_of c.self.inside) t c.index_mut-row.result.now c.args.end
    c.closes-shut.result c.args.trace c.self.invariant.0 at go out per whole names c.closes-shut.ensures

pub invariant_of-self : goal.invariant_of-self
invariant_of-self g c =
    let t = c.args.token in
    let out = subst (λ v. IsOutOf v (fields_of t)) (sym c.self.view_is) c.requires.out in
    let go = subst (λ v. (state_of v).stopped ≡ false) (sym c.self.view_is) c.requires.going in
    let at = out_row_read c.self.inside.rows.items t.iteration c.index_mut-row.result.now out.out c.index_mut-row.ensures.value in
    let per = performed g.M.Stands.whole g.M.Stands.ready_at g.M.Stands.tie (tables_of c.self.inside) t c.index_mut-row.result.now
    c.self.invariant.0 at out (accessed c.args.trace ++ Ended c.args.end ∷ [])
    (subst (λ v. Performs (left_of v t.iteration) (accessed c.args.trace ++ Ended c.args.end ∷ []))
    (sym c.self.view_is) c.requires.performs) in
    let whole = subst (λ v. g.M.Stands.whole (tree_of v.program) t.payload) (sym c.self.view_is) c.requires.whole in
    let names = subst (λ v. BelongsTo (g.M.Stands.tie t.payload) v.lists) (sym c.self.view_is) c.requires.belongs in
    let same = finished_tables g.M.Stands.whole g.M.Stands.ready_at g.M.Stands.tie (tables_of c.self.inside) t
    c.index_mut-row.result.now c.args.end
    c.closes-shut.result c.args.trace c.self.invariant.0 at go out per whole names c.closes-shut.ensures c.end.ensures c.stamp.ensures.log
    c.give.ensures c.either-self-inside.ensures in (
      subst (IsBook g.M.Stands.whole g.M.Stands.ready_at g.M.Stands.tie) (sym same)
          (finish_keeps g.M.Stands.whole g.M.Stands.ready_at g.M.Stands.tie (tables_of c.self.inside) t c.index_mut-row.result.now
          c.args.end
          c.closes-shut.result c.args.trace c.self.invariant.0 at go out per whole names c.closes-shut.ensures),
      alive_out c.self.inside.rows.items _ t.iteration c.index_mut-row.result.now _ _ _ at out.out c.self.invariant.1,
      places_same _ _ t.iteration c.index_mut-row.result.now _ _ at c.end.ensures refl refl refl c.self.invariant.2,
    )

pub returns : goal.returns
returns g c =
    let t = c.args.token in
    let out = subst (λ v. IsOutOf v (fields_of t)) (sym c.self.view_is) c.requires.out in
    let go = subst (λ v. (state_of v).stopped ≡ false) (sym c.self.view_is) c.requires.going in
    let at = out_row_read c.self.inside.rows.items t.iteration c.index_mut-row.result.now out.out c.index_mut-row.ensures.value in
    let per = performed g.M.Stands.whole g.M.Stands.ready_at g.M.Stands.tie (tables_of c.self.inside) t c.index_mut-row.result.now
    c.self.invariant.0 at out (accessed c.args.trace ++ Ended c.args.end ∷ [])
    (subst (λ v. Performs (left_of v t.iteration) (accessed c.args.trace ++ Ended c.args.end ∷ []))
    (sym c.self.view_is) c.requires.performs) in
    let whole = subst (λ v. g.M.Stands.whole (tree_of v.program) t.payload) (sym c.self.view_is) c.requires.whole in
    let names = subst (λ v. BelongsTo (g.M.Stands.tie t.payload) v.lists) (sym c.self.view_is) c.requires.belongs in
    let same = finished_tables g.M.Stands.whole g.M.Stands.ready_at g.M.Stands.tie (tables_of c.self.inside) t
    c.index_mut-row.result.now c.args.end
    c.closes-shut.result c.args.trace c.self.invariant.0 at go out per whole names c.closes-shut.ensures c.end.ensures c.stamp.ensures.log
    c.give.ensures c.either-self-inside.ensures in
    ap book_state same
    ∙ (finish_view g.M.Stands.whole g.M.Stands.ready_at g.M.Stands.tie (tables_of c.self.inside) t c.index_mut-row.result.now c.args.end
    c.closes-shut.result c.args.trace c.self.invariant.0 at go out per whole names c.closes-shut.ensures
    ∙ ap (λ v. with_finished v (fields_of t) (Finish t.iteration c.args.end) c.args.trace) c.self.view_is)

pub overflow_cast-iteration : goal.overflow_cast-iteration
overflow_cast-iteration g c =
    let out = subst (λ v. IsOutOf v (fields_of c.args.token)) (sym c.self.view_is) c.requires.out in
    out_fits _ c.self.inside.rows.items (spare_rows c.self.inside.places.spare) _ _ _ c.args.token.iteration
    c.self.invariant.0.sized out.out
