use Rattle.std.proofs.Common.{◌<◌, length, sym, subst, ◌∙◌, not, arith, inl, inr}
use Rattle.std.proofs.lemmas.Bool.{cases_eq, false≢true, true≢false}
use Rattle.pipe_model.specs.Runs.Allowed.{MayBegin, IsClosed}
use Rattle.pipe_model.specs.Runs.State.{alive}
use Rattle.frame_book.specs.BookStates.{BookState, state_of}
use Rattle.frame_book.specs.BookTables.{tables_of}
use Rattle.frame_rows.specs.RowsOfFrames.{AreRows}
use Rattle.frame_book.specs.Tables.{book_state}
use Rattle.frame_book.proofs.Conditions.Rescue.{begins_by, open_by_begin}
use Rattle.frame_book.proofs.book.Book.may_begin.Goals as goal

pub returns-then-self : goal.returns-then-self
returns-then-self g c =
    let s = state_of (book_state (tables_of c.self.inside)) in
    let h = c.self.invariant.0 in (
      (λ x. absurd (false≢true x)),
      (λ x. (let m = subst (λ (v : BookState). MayBegin v.limit (state_of v) (length (state_of v).frames)) (sym c.self.view_is) x in
          absurd ((open_by_begin c.self.inside.throttle s h.logged.sound.sound m).0 (h.closed.0 c.if-self.true)))),
    )

pub returns-then-is_empty : goal.returns-then-is_empty
returns-then-is_empty g c =
    let h = c.self.invariant.0 in
    let alive_is = h.alive in
    let size_is = h.size in
    let none = c.is_empty.ensures.0 c.if-is_empty.true in (
      (λ x. absurd (false≢true x)),
      (λ x. (let m = subst (λ (v : BookState). MayBegin v.limit (state_of v) (length (state_of v).frames)) (sym c.self.view_is) x in
          let room = m.room in absurd (omega (arith, none, room, alive_is, size_is)))),
    )

pub returns : goal.returns
returns g c =
    let s = state_of (book_state (tables_of c.self.inside)) in
    let h = c.self.invariant.0 in
    let alive_is = h.alive in
    let size_is = h.size in
    let rows = subst (AreRows (not s.stopped) s.frames) (sym c.as_slice.ensures.value) h.rows.each in
    let both = c.last_has_ended_first.ensures (not s.stopped) s.frames rows in
    let unclosed : IsClosed s.frames → ⊥ = λ q. absurd (true≢false (sym (h.closed.1 q) ∙ c.if-self.false)) in
    let room : alive s < c.self.inside.throttle = elim (cases_eq (length c.self.inside.pool.home) 0) [
      | inl z ↦ absurd (true≢false (sym (c.is_empty.ensures.1 z) ∙ c.if-is_empty.false))
      | inr z ↦ omega (arith, alive_is, size_is, z)
    ] in (
      (λ x. subst (λ (v : BookState). MayBegin v.limit (state_of v) (length (state_of v).frames)) c.self.view_is
          (begins_by c.self.inside.throttle s h.logged.sound.sound unclosed (both.0 x) room)),
      (λ x. (let m = subst (λ (v : BookState). MayBegin v.limit (state_of v) (length (state_of v).frames)) (sym c.self.view_is) x in
          both.1 (open_by_begin c.self.inside.throttle s h.logged.sound.sound m).1)),
    )
