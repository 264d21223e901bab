-- If a book was not stopped, each token that is out belongs to a running instance.
use Rattle.std.proofs.Common.{◌≡◌, ℕ, zero, suc, List, [], ◌∷◌, map, not, refl, ap, sym, ◌∙◌, subst, true, false, Option, Some}
use Rattle.pipe_model.specs.declared.status.Status.{Status}
use Rattle.pipe_model.specs.declared.status.Status.TheVariants.{Running, Pending, Completed}
use Rattle.pipe_model.specs.Language.SyntaxTree.{SyntaxTree}
use Rattle.pipe_model.specs.Runs.Allowed.{IsRunning}
use Rattle.pipe_model.specs.Runs.State.{Frame, frame_at}
use Rattle.pipe_frame.specs.Ties.{Tie}
use Rattle.pipe_frame.specs.TokenFields.{fields_of}
use Rattle.pipe_frame.specs.declared.token.FrameToken.{FrameToken}
use Rattle.frame_book.specs.BookStates.{IsOut, Kept, Out, Spent, item_or, state_of}
use Rattle.frame_book.specs.Invariant.{IsBook}
use Rattle.frame_rows.specs.IterationRows.{IterationRow}
use Rattle.frame_rows.specs.RowsOfFrames.{AreRows, TokenFits}
use Rattle.frame_book.specs.Tables.{Tables, book_state, token_state_by, token_state_of}
use Rattle.std.specs.Prelude.{ℤ}

-- if a token is out, its row has a running instance
runs_by : {M : Type 0} → (status : Status) (token : Option (FrameToken M)) → TokenFits status token → token_state_by token status ≡ Out
    → status ≡ Running
runs_by Running token fits out = refl
runs_by (Pending k n) token fits out =
    let kept : Kept (fields_of fits.0) ≡ Out = sym (ap (λ o. token_state_by o (Pending k n)) fits.1) ∙ out in
    absurd (cc)
runs_by (Completed e) token fits out =
    let spent : Spent ≡ Out = sym (ap (λ o. token_state_by o (Completed e)) fits) ∙ out in
    absurd (cc)

-- the iteration runs its instance
record Runs (fs : List Frame) (i : ℕ) : Type 0 where
  pub frame : Frame
  pub is : frame_at fs i ≡ Some frame
  pub runs : frame.status ≡ Running

out_row : {M : Type 0} → (fs : List Frame) (rows : List (IterationRow M)) (i : ℕ) → AreRows true fs rows
    → item_or Spent (map token_state_of rows) i ≡ Out → Runs fs i
out_row [] [] i h out = absurd (let spent : Spent ≡ Out = out in cc)
out_row [] (r ∷ rows) i h out = absurd h
out_row (f ∷ fs) [] i h out = absurd h
out_row (f ∷ fs) (r ∷ rows) zero h out =
    record {
      frame = f;
      is = refl;
      runs = runs_by f.status r.token (h.0.home refl) (sym (ap (λ w. token_state_by r.token w) h.0.status) ∙ out);
    }
out_row (f ∷ fs) (r ∷ rows) (suc i) h out =
    let q = out_row fs rows i h.1 out in
    record { frame = q.frame; is = q.is; runs = q.runs }

pub out_tokens_run : {M : Type 0} (Whole : SyntaxTree → M → Type 0) (ReadyAt : SyntaxTree → List ℤ → M → ℕ → List (List ℤ) → Type 0)
    (tie : M → Tie) (b : Tables M)
    → IsBook Whole ReadyAt tie b → (state_of (book_state b)).stopped ≡ false → (i : ℕ) → IsOut (book_state b) i
    → IsRunning (state_of (book_state b)) i
out_tokens_run Whole ReadyAt tie b h going i out =
    let rows = subst (λ s. AreRows (not s) (state_of (book_state b)).frames b.rows) going h.rows.each in
    let q = out_row (state_of (book_state b)).frames b.rows i rows out in
    record { frame = q.frame; is = q.is; runs = q.runs }
