use Rattle.std.proofs.Common.{[], ◌∷◌, ◌≡◌, arith, refl, ap, sym, subst, ◌∙◌}
use Rattle.std.proofs.lemmas.Grind.{common_steps}
use Rattle.pipe_model.specs.Runs.State.{frame_at, is_completed}
use Rattle.pipe_frame.specs.CallResults.{pending_events, resume_events}
use Rattle.pipe_frame.specs.TokenFields.{fields_of}
use Rattle.frame_book.specs.GivenTokens.{IsGivenBeside}
use Rattle.pipe_model.specs.declared.event.Event.TheVariants.{Enter}
use Rattle.frame_book.specs.BookStates.{BookState, item_or, state_of, Spent}
use Rattle.frame_book.specs.BookTables.{tables_of}
use Rattle.frame_book.specs.Invariant.{IsBook}
use Rattle.frame_rows.specs.AliveLists.{HasAliveList}
use Rattle.std.specs.Prelude.{vec_capacity}
use Rattle.frame_book.specs.CallEffects.{kept_folded, with_entered, with_resumed}
use Rattle.frame_book.specs.Tables.{book_state, token_state_of, token_state_by}
use Rattle.frame_book.proofs.Keeping.Resume.{set_itself, can_run, can_enter, can_not, can_within, resumes, kept_none, resumes_by_entering}
use Rattle.frame_book.proofs.Keeping.Resume.{kept, resume_keeps, resume_view, resume_given, resume_beside, resume_folded}
use Rattle.frame_rows.proofs.ChangedRows.{map_at}
use Rattle.frame_rows.proofs.AliveRows.{alive_set}
use Rattle.frame_rows.specs.Places.{HoldsRows, spare_rows}
use Rattle.frame_rows.proofs.PlacedRows.{places_same}
use Rattle.frame_book.proofs.book.Book.resume.Goals as goal

pub index_mut-row-requires : goal.index_mut-row-requires
index_mut-row-requires g c =
    let l = can_within c.self.invariant.0 c.self.view_is c.args.iteration c.requires.can in grind (arith, common_steps)

pub unreachable-requires : goal.unreachable-requires
unreachable-requires g c =
    let i = c.args.iteration in
    let x = resumes c.self.invariant.0 c.self.view_is i c.requires.can c.requires.going c.index_mut-row.ensures.value in
    let ran = sym c.status.ensures ∙ c.in-Running.is in
    let ready = can_run (book_state (tables_of c.self.inside)) i x.frame x.is (sym x.status ∙ ran) x.can in
    kept_none c.index_mut-row.result.now.token ready.fields (sym c.take_token.ensures.token ∙ c.in-None.is)
    (ap (token_state_by c.index_mut-row.result.now.token) (sym ran)
    ∙ (sym (map_at token_state_of c.self.inside.rows.items i c.index_mut-row.result.now Spent x.at_row) ∙ ready.kept))

pub invariant_of-self : goal.invariant_of-self
invariant_of-self g c =
    let i = c.args.iteration in
    let x = resumes c.self.invariant.0 c.self.view_is i c.requires.can c.requires.going c.index_mut-row.ensures.value in
    let ran = sym c.status.ensures ∙ c.in-Running.is in
    rw c.take_token.ensures.row (
      resume_keeps c.self.invariant.0 x ran (sym c.take_token.ensures.token ∙ c.in-Some.is),
      alive_set
          c.self.inside.rows.items _ i c.index_mut-row.result.now _ _ _ x.at_row (ap is_completed ran) c.self.invariant.1,
      places_same _ _ i c.index_mut-row.result.now _ _ x.at_row refl refl refl refl c.self.invariant.2,
    )

pub enter_named-requires-clause-may : goal.enter_named-requires-clause-may
enter_named-requires-clause-may g c =
    let i = c.args.iteration in
    let x = resumes c.self.invariant.0 c.self.view_is i c.requires.can c.requires.going c.index_mut-row.ensures.value in
    can_enter (book_state (tables_of c.self.inside)) i x.frame c.in-Pending.field-0 c.in-Pending.field-1 x.is
    (sym x.status ∙ (sym c.status.ensures ∙ c.in-Pending.is)) x.can

pub unreachable-requires-in-Completed : goal.unreachable-requires-in-Completed
unreachable-requires-in-Completed g c =
    let i = c.args.iteration in
    let x = resumes c.self.invariant.0 c.self.view_is i c.requires.can c.requires.going c.index_mut-row.ensures.value in
    can_not (book_state (tables_of c.self.inside)) i x.frame c.in-Completed.field-0 x.is
    (sym x.status ∙ (sym c.status.ensures ∙ c.in-Completed.is)) x.can

pub returns-in-Some-clause-iteration : goal.returns-in-Some-clause-iteration
returns-in-Some-clause-iteration g c =
    let x = resumes c.self.invariant.0 c.self.view_is c.args.iteration c.requires.can c.requires.going c.index_mut-row.ensures.value in
    (kept c.self.invariant.0 x (sym c.status.ensures ∙ c.in-Running.is) (sym c.take_token.ensures.token ∙ c.in-Some.is)).iteration

pub returns-in-Some-clause-book : goal.returns-in-Some-clause-book
returns-in-Some-clause-book g c =
    let x = resumes c.self.invariant.0 c.self.view_is c.args.iteration c.requires.can c.requires.going c.index_mut-row.ensures.value in
    rw (c.take_token.ensures.row, ← c.self.view_is)
    (resume_view c.self.invariant.0 x (sym c.status.ensures ∙ c.in-Running.is) (sym c.take_token.ensures.token ∙ c.in-Some.is))

pub returns-in-Some-clause-token : goal.returns-in-Some-clause-token
returns-in-Some-clause-token g c =
    let x = resumes c.self.invariant.0 c.self.view_is c.args.iteration c.requires.can c.requires.going c.index_mut-row.ensures.value in
    rw c.take_token.ensures.row
    (resume_given c.self.invariant.0 x (sym c.status.ensures ∙ c.in-Running.is) (sym c.take_token.ensures.token ∙ c.in-Some.is))

pub returns-in-Pending-clause-book : goal.returns-in-Pending-clause-book
returns-in-Pending-clause-book g c =
    let i = c.args.iteration in
    let x = resumes c.self.invariant.0 c.self.view_is i c.requires.can c.requires.going c.index_mut-row.ensures.value in
    c.enter_named.ensures.book ∙ (ap (λ rs. with_entered (book_state (record (tables_of c.self.inside) { rows = rs })) i)
    (set_itself c.self.inside.rows.items i c.index_mut-row.result.now x.at_row)
    ∙ (resumes_by_entering (book_state (tables_of c.self.inside)) i x.frame c.in-Pending.field-0 c.in-Pending.field-1 x.is
    (sym x.status ∙ (sym c.status.ensures ∙ c.in-Pending.is)) ∙ ap (λ w. with_resumed w i) c.self.view_is))

pub returns-in-Some-clause-now : goal.returns-in-Some-clause-now
returns-in-Some-clause-now g c =
    let x = resumes c.self.invariant.0 c.self.view_is c.args.iteration c.requires.can c.requires.going c.index_mut-row.ensures.value in
    rw (c.take_token.ensures.row, ← c.self.view_is)
    (resume_beside c.self.invariant.0 x (sym c.status.ensures ∙ c.in-Running.is) (sym c.take_token.ensures.token ∙ c.in-Some.is))

pub returns-in-Pending-clause-now : goal.returns-in-Pending-clause-now
returns-in-Pending-clause-now g c =
    let i = c.args.iteration in
    let x = resumes c.self.invariant.0 c.self.view_is i c.requires.can c.requires.going c.index_mut-row.ensures.value in
    let events : resume_events (frame_at (state_of c.args.self.now).frames i) i ≡ Enter i ∷ [] =
    subst (λ (w : BookState). resume_events (frame_at (state_of w).frames i) i ≡ Enter i ∷ []) c.self.view_is
    (ap (λ o. resume_events o i) x.is ∙ ap (λ w. pending_events w i) (sym x.status ∙ (sym c.status.ensures ∙ c.in-Pending.is))) in
    subst (λ es. IsGivenBeside es c.args.self.now c.enter_named.new.self (fields_of c.enter_named.result))
    (sym events) c.enter_named.ensures.now

pub returns-in-Some-clause-folded : goal.returns-in-Some-clause-folded
returns-in-Some-clause-folded g c =
    let x = resumes c.self.invariant.0 c.self.view_is c.args.iteration c.requires.can c.requires.going c.index_mut-row.ensures.value in
    rw (← c.self.view_is)
    (resume_folded c.self.invariant.0 x (sym c.status.ensures ∙ c.in-Running.is) (sym c.take_token.ensures.token ∙ c.in-Some.is))

pub returns-in-Pending-clause-folded : goal.returns-in-Pending-clause-folded
returns-in-Pending-clause-folded g c =
    let i = c.args.iteration in
    let x = resumes c.self.invariant.0 c.self.view_is i c.requires.can c.requires.going c.index_mut-row.ensures.value in
    c.enter_named.ensures.folded ∙ (ap (λ rs. kept_folded
    (item_or Spent (book_state (record (tables_of c.self.inside) { rows = rs })).tokens i))
    (set_itself c.self.inside.rows.items i c.index_mut-row.result.now x.at_row)
    ∙ ap (λ (w : BookState). kept_folded (item_or Spent w.tokens i)) c.self.view_is)

pub invariant_of-self-in-Pending : goal.invariant_of-self-in-Pending
invariant_of-self-in-Pending g c =
    let i = c.args.iteration in
    let x = resumes c.self.invariant.0 c.self.view_is i c.requires.can c.requires.going c.index_mut-row.ensures.value in
    let same = sym (set_itself c.self.inside.rows.items i c.index_mut-row.result.now x.at_row) in (
      subst (λ rs. IsBook g.M.Stands.whole g.M.Stands.ready_at g.M.Stands.tie (record (tables_of c.self.inside) { rows = rs })) same
          c.self.invariant.0,
      subst (λ rs. HasAliveList rs (spare_rows c.self.inside.places.spare) c.self.inside.alive.items (vec_capacity c.self.inside.alive))
          same c.self.invariant.1,
      subst (λ rs. HoldsRows rs c.self.inside.places) same c.self.invariant.2,
    )
