-- What a running instance does next, after the replies of its iteration, is next after all that its iteration has done.
use Rattle.std.proofs.Common.{◌≡◌, ◌∙◌, ℕ, ℤ, List, ◌++◌, ap, inr, None, Some}
use Rattle.pipe_model.specs.Language.SyntaxTree.{SyntaxTree}
use Rattle.pipe_model.specs.Pipelines.Behaviour.{Action, Performs, trace_end}
use Rattle.pipe_model.specs.Runs.State.{end_of_status}
use Rattle.pipe_frame.specs.Ties.{Tie}
use Rattle.pipe_frame.specs.TokenFields.{fields_of}
use Rattle.pipe_frame.specs.declared.token.FrameToken.{FrameToken}
use Rattle.frame_book.specs.BookStates.{actions_at, left_of, pipeline_in}
use Rattle.frame_book.specs.GivenTokens.{IsOutOf}
use Rattle.frame_book.specs.Invariant.{IsBook, actions_in}
use Rattle.frame_rows.specs.IterationRows.{IterationRow, row_at}
use Rattle.frame_book.specs.Tables.{Tables, book_state}
use Rattle.frame_book.proofs.Actions.RepliesLeft.{performs_next}
use Rattle.frame_rows.proofs.FrameRows.{token_of_row}
use Rattle.frame_book.proofs.Keeping.LeaveReady.{out_row}

module _ {M : Type 0} (Whole : SyntaxTree → M → Type 0) (ReadyAt : SyntaxTree → List ℤ → M → ℕ → List (List ℤ) → Type 0) (tie : M → Tie)
    (b : Tables M) (t : FrameToken M) (r : IterationRow M) (h : IsBook Whole ReadyAt tie b) (at : row_at b.rows t.iteration ≡ Some r)
    (out : IsOutOf (book_state b) (fields_of t)) where
  going : trace_end (actions_in b.ledger.log (book_state b).traces t.iteration) ≡ None
  going = (h.actions.matches t.iteration out.token.running.frame out.token.running.is).end ∙ ap end_of_status out.token.running.runs

  pub performed : (xs : List Action) → Performs (left_of (book_state b) t.iteration) xs
      → Performs ((pipeline_in (book_state b)).behaviour t.iteration) (actions_at (book_state b) t.iteration ++ xs)
  performed xs p = performs_next ((pipeline_in (book_state b)).behaviour t.iteration) b.ledger.log (book_state b).traces t.iteration
      (h.counted t.iteration (inr (token_of_row b.rows t.iteration r at ∙ out_row b.rows t.iteration r at out.out)))
      (h.actions.performs t.iteration) going xs p
