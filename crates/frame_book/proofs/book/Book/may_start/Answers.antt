use Rattle.std.proofs.Common.{◌≡◌, ◌∙◌, inl, inr, false, not, sym, subst, true}
use Rattle.std.proofs.lemmas.Bool.{iff_false}
use Rattle.pipe_model.specs.Runs.Allowed.{MayEnter}
use Rattle.frame_book.specs.BookStates.{state_of}
use Rattle.frame_book.specs.BookTables.{tables_of}
use Rattle.frame_book.specs.Tables.{book_state}
use Rattle.frame_book.proofs.Conditions.MayEnter.{free_is_may}
use Rattle.frame_rows.specs.RowsOfFrames.{AreRows}
use Rattle.frame_book.proofs.book.Book.may_start.Goals as goal

pub returns-then-self-clause-no : goal.returns-then-self-clause-no
returns-then-self-clause-no g c =
    λ _. inl (subst (λ v. (state_of v).stopped ≡ true) c.self.view_is (sym c.self.invariant.0.stopped ∙ c.if-self.true))

pub returns-clause-yes : goal.returns-clause-yes
returns-clause-yes g c = λ t.
    let s = state_of (book_state (tables_of c.self.inside)) in
    let rows = subst (AreRows (not s.stopped) s.frames) (sym c.as_slice.ensures.value) c.self.invariant.0.rows.each in
    let may = (free_is_may s c.args.iteration).0 ((c.may_enter.ensures (not s.stopped) s.frames rows).0 t) in (
      subst (λ v. (state_of v).stopped ≡ false) c.self.view_is (sym c.self.invariant.0.stopped ∙ c.if-self.false),
      subst (λ v. MayEnter (state_of v) c.args.iteration) c.self.view_is may,
    )

pub returns-clause-no : goal.returns-clause-no
returns-clause-no g c = λ f. inr (λ m.
    let s = state_of (book_state (tables_of c.self.inside)) in
    let rows = subst (AreRows (not s.stopped) s.frames) (sym c.as_slice.ensures.value) c.self.invariant.0.rows.each in
    let free = (free_is_may s c.args.iteration).1
    (subst (λ v. MayEnter (state_of v) c.args.iteration) (sym c.self.view_is) m) in
    iff_false (c.may_enter.ensures (not s.stopped) s.frames rows) f free)
