use Rattle.std.proofs.Common.{◌≡◌, sym, subst, ◌∙◌, false, arith}
use Rattle.std.proofs.lemmas.Bool.{false≢true, true≢false}
use Rattle.pipe_model.specs.Runs.Run.{IsFinished}
use Rattle.pipe_model.specs.Runs.State.{alive}
use Rattle.frame_book.specs.BookStates.{BookState, state_of}
use Rattle.frame_book.specs.BookTables.{tables_of}
use Rattle.frame_book.specs.Tables.{book_state}
use Rattle.frame_book.proofs.Conditions.Rescue.{finished_by, closed_by_finish}
use Rattle.frame_book.proofs.book.Book.is_finished.Goals as goal

pub returns-then-not-self : goal.returns-then-not-self
returns-then-not-self g c =
    let s = state_of (book_state (tables_of c.self.inside)) in
    let h = c.self.invariant.0 in (
      (λ x. absurd (false≢true x)),
      (λ x. (let f = subst (λ (v : BookState). IsFinished (state_of v)) (sym c.self.view_is) x in
          absurd (true≢false (sym (h.closed.1 (closed_by_finish s f).0) ∙ c.if-not-self.true)))),
    )

pub returns : goal.returns
returns g c =
    let s = state_of (book_state (tables_of c.self.inside)) in
    let h = c.self.invariant.0 in
    let alive_is = h.alive in
    let going = subst (λ (v : BookState). (state_of v).stopped ≡ false) (sym c.self.view_is) c.requires.going in (
      (λ x. (
          let full = c.is_full.ensures.0 x in
          let dead : alive s ≡ 0 = omega (arith, alive_is, full) in
          subst (λ (v : BookState). IsFinished (state_of v)) c.self.view_is (finished_by s going (h.closed.0 c.if-not-self.false) dead))),
      (λ x. (
          let f = closed_by_finish s (subst (λ (v : BookState). IsFinished (state_of v)) (sym c.self.view_is) x) in
          let dead = f.1 in
          c.is_full.ensures.1 (omega (arith, alive_is, dead)))),
    )
