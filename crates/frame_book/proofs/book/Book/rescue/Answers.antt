use Rattle.std.proofs.Common.{◌≡◌, ◌<◌, ℕ, length, ap₂, sym, subst, ◌∙◌, false, not}
use Rattle.pipe_model.specs.Runs.State.{frame_at}
use Rattle.pipe_frame.specs.CallResults.{resume_events}
use Rattle.pipe_frame.specs.TokenFields.{fields_of}
use Rattle.frame_book.specs.BookStates.{Spent, item_or}
use Rattle.frame_book.specs.CallEffects.{kept_folded, with_resumed}
use Rattle.frame_book.specs.GivenTokens.{IsGivenBeside}
use Rattle.std.proofs.lemmas.Bool.{true≢false}
use Rattle.pipe_model.specs.Runs.Allowed.{MayBegin}
use Rattle.pipe_model.specs.Runs.Run.{IsFinished}
use Rattle.pipe_frame.specs.CallResults.{CanGoOn, IsFirstToGoOn, RescueReturns}
use Rattle.pipe_frame.specs.declared.results.Rescue.TheVariants as rescue
use Rattle.frame_book.specs.BookStates.{BookState, IsOut, state_of}
use Rattle.frame_book.specs.BookTables.{tables_of}
use Rattle.frame_rows.specs.AliveLists.{ListsAlive}
use Rattle.frame_rows.specs.RowsOfFrames.{AreRows, RowGoesOn}
use Rattle.frame_book.specs.CallEffects.{IsReady}
use Rattle.frame_book.specs.Tables.{book_state}
use Rattle.frame_book.proofs.Conditions.Rescue.{can_is}
use Rattle.frame_book.proofs.Conditions.WaitingForTokens.{a_token_is_out}
use Rattle.frame_book.proofs.book.Book.rescue.Goals as goal

pub resume-requires-clause-can : goal.resume-requires-clause-can
resume-requires-clause-can g c =
    let v = book_state (tables_of c.self-2.inside) in
    let s = state_of v in
    let h = c.self-2.invariant.0 in
    let rows = subst (AreRows (not s.stopped) s.frames) (sym c.as_slice.ensures.value) h.rows.each in
    let found = c.in-Some.ensures.some (not s.stopped) s.frames rows in
    let here : RowGoesOn s.frames c.self-2.inside.rows.items c.in-Some.iteration = subst (λ rs. RowGoesOn s.frames rs c.in-Some.iteration)
    c.as_slice.ensures.value found.0 in
    let can = (can_is (not s.stopped) (tables_of c.self-2.inside) c.in-Some.iteration h.rows.each).0 here in
    subst (λ x. CanGoOn (IsReady x) (state_of x) c.in-Some.iteration) c.self-2.view_is can

pub returns-in-Some-clause-returned : goal.returns-in-Some-clause-returned
returns-in-Some-clause-returned g c =
    let v = book_state (tables_of c.self-2.inside) in
    let s = state_of v in
    let h = c.self-2.invariant.0 in
    let after = c.self-2.view_is ∙ c.drop_ended.ensures in
    let going : (state_of c.args.self.now).stopped ≡ false = subst (λ (x : BookState). (state_of x).stopped ≡ false) c.self.view_is
    (sym c.self.invariant.0.stopped ∙ c.if-self.false) in
    let rows = subst (AreRows (not s.stopped) s.frames) (sym c.as_slice.ensures.value) h.rows.each in
    let found = c.in-Some.ensures.some (not s.stopped) s.frames rows in
    let each = λ (j : ℕ). can_is (not s.stopped) (tables_of c.self-2.inside) j h.rows.each in
    let here : RowGoesOn s.frames c.self-2.inside.rows.items c.in-Some.iteration = subst (λ rs. RowGoesOn s.frames rs c.in-Some.iteration)
    c.as_slice.ensures.value found.0 in
    let can = (each c.in-Some.iteration).0 here in
    let first : (j : ℕ) → j < c.in-Some.iteration → CanGoOn (IsReady v) s j → ⊥ = λ j l x. found.1 j l
    (subst (λ rs. RowGoesOn s.frames rs j) (sym c.as_slice.ensures.value) ((each j).1 x)) in
    let is : IsFirstToGoOn (IsReady v) s c.resume.result.iteration = subst (IsFirstToGoOn (IsReady v) s) (sym c.resume.ensures.iteration)
    (record { can = can; first = first }) in
    (going, subst (λ x. IsFirstToGoOn (IsReady x) (state_of x) c.resume.result.iteration) after is)

pub returns-then-may_begin-clause-returned : goal.returns-then-may_begin-clause-returned
returns-then-may_begin-clause-returned g c =
    let v = book_state (tables_of c.self-2.inside) in
    let s = state_of v in
    let h = c.self-2.invariant.0 in
    let after = c.self-2.view_is ∙ c.drop_ended.ensures in
    let rows = subst (AreRows (not s.stopped) s.frames) (sym c.as_slice.ensures.value) h.rows.each in
    let found = c.in_default.ensures.none (not s.stopped) s.frames rows in
    let none : (i : ℕ) → CanGoOn (IsReady v) s i → ⊥ =
    λ i x. found i (subst (λ rs. RowGoesOn s.frames rs i) (sym c.as_slice.ensures.value)
    ((can_is (not s.stopped) (tables_of c.self-2.inside) i h.rows.each).1 x)) in
    let going : (state_of c.args.self.now).stopped ≡ false = subst (λ (x : BookState). (state_of x).stopped ≡ false) c.self.view_is
    (sym c.self.invariant.0.stopped ∙ c.if-self.false) in
    let over : IsFinished (state_of c.args.self.now) → ⊥ =
    λ f. absurd (true≢false (sym (c.is_finished.ensures.1 f) ∙ c.if-is_finished.false)) in
    let may = subst (λ (x : BookState). MayBegin x.limit (state_of x) (length (state_of x).frames)) c.drop_ended.ensures
    (c.may_begin.ensures.0 c.if-may_begin.true) in
    (going, subst (λ (x : BookState). (i : ℕ) → CanGoOn (IsReady x) (state_of x) i → ⊥) after none, may, over)

pub returns-clause-returned : goal.returns-clause-returned
returns-clause-returned g c =
    let v = book_state (tables_of c.self-2.inside) in
    let s = state_of v in
    let h = c.self-2.invariant.0 in
    let after = c.self-2.view_is ∙ c.drop_ended.ensures in
    let rows = subst (AreRows (not s.stopped) s.frames) (sym c.as_slice.ensures.value) h.rows.each in
    let found = c.in_default.ensures.none (not s.stopped) s.frames rows in
    let none : (i : ℕ) → CanGoOn (IsReady v) s i → ⊥ =
    λ i x. found i (subst (λ rs. RowGoesOn s.frames rs i) (sym c.as_slice.ensures.value)
    ((can_is (not s.stopped) (tables_of c.self-2.inside) i h.rows.each).1 x)) in
    let going : (state_of c.args.self.now).stopped ≡ false = subst (λ (x : BookState). (state_of x).stopped ≡ false) c.self.view_is
    (sym c.self.invariant.0.stopped ∙ c.if-self.false) in
    let over : IsFinished (state_of c.args.self.now) → ⊥ =
    λ f. absurd (true≢false (sym (c.is_finished.ensures.1 f) ∙ c.if-is_finished.false)) in
    let begins : MayBegin c.args.self.now.limit (state_of c.args.self.now) (length (state_of c.args.self.now).frames) → ⊥ =
    λ m. absurd (true≢false (sym (c.may_begin.ensures.1 (subst (λ (x : BookState). MayBegin x.limit (state_of x)
    (length (state_of x).frames)) (sym c.drop_ended.ensures) m)) ∙ c.if-may_begin.false)) in
    (going, subst (λ (x : BookState). (i : ℕ) → CanGoOn (IsReady x) (state_of x) i → ⊥) after none, begins, over)

pub returns-clause-nothing : goal.returns-clause-nothing
returns-clause-nothing g c =
    let b = tables_of c.self.inside in
    let returned = subst (λ (x : BookState). RescueReturns {M = g.row.M.Denot} x.limit (state_of x) (IsReady x) rescue.Nothing)
    (sym c.self.view_is) (returns-clause-returned g c) in
    subst (λ (x : BookState). (i : ℕ) × IsOut x i) c.self.view_is
    (a_token_is_out g.M.Stands.whole g.M.Stands.ready_at g.M.Stands.tie b c.self.invariant.0 returned.0 returned.1 returned.2 returned.3)

pub first_to_go_on-requires : goal.first_to_go_on-requires
first_to_go_on-requires g c =
    subst (ListsAlive c.as_slice.result.now) (sym c.as_slice-2.ensures.value)
    (subst (λ rs. ListsAlive rs c.self-2.inside.alive.items) (sym c.as_slice.ensures.value) c.self-2.invariant.1.list)

pub returns-then-is_finished-clause-returned : goal.returns-then-is_finished-clause-returned
returns-then-is_finished-clause-returned g c = c.is_finished.ensures.0 c.if-is_finished.true

pub resume-requires-clause-going : goal.resume-requires-clause-going
resume-requires-clause-going g c =
    subst (λ (v : BookState). (state_of v).stopped ≡ false) (c.self.view_is ∙ sym c.drop_ended.ensures)
    (sym c.self.invariant.0.stopped ∙ c.if-self.false)

pub returns-in-Some-clause-book : goal.returns-in-Some-clause-book
returns-in-Some-clause-book g c = c.resume.ensures.book ∙ ap₂ with_resumed c.drop_ended.ensures (sym c.resume.ensures.iteration)

pub returns-in-Some-clause-token : goal.returns-in-Some-clause-token
returns-in-Some-clause-token g c = c.resume.ensures.token

pub returns-in-Some-clause-now : goal.returns-in-Some-clause-now
returns-in-Some-clause-now g c =
    subst (λ i. IsGivenBeside (resume_events (frame_at (state_of c.args.self.now).frames i) i) c.args.self.now c.resume.new.self
    (fields_of c.resume.result)) (sym c.resume.ensures.iteration)
    (subst (λ v. IsGivenBeside (resume_events (frame_at (state_of v).frames c.in-Some.iteration) c.in-Some.iteration) v c.resume.new.self
    (fields_of c.resume.result)) c.drop_ended.ensures c.resume.ensures.now)

pub returns-in-Some-clause-folded : goal.returns-in-Some-clause-folded
returns-in-Some-clause-folded g c = c.resume.ensures.folded
    ∙ ap₂ (λ (v : BookState) i. kept_folded (item_or Spent v.tokens i)) c.drop_ended.ensures (sym c.resume.ensures.iteration)
