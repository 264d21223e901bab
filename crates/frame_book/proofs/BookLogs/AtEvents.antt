-- What tables keep, at equal events, starts and states.
use Rattle.std.proofs.Common.{◌≡◌, ℕ, ℤ, List, [], ◌∷◌, ◌++◌, sym, ap, ◌∙◌, subst}
use Rattle.pipe_model.specs.declared.event.Event.{Event}
use Rattle.pipe_model.specs.declared.node.NodeId.{NodeId}
use Rattle.pipe_model.specs.Runs.RunLogs.{state_after}
use Rattle.pipe_model.specs.Orders.Starts.{starts_of, started_by}
use Rattle.pipe_model.specs.Runs.State.{State, next_state}
use Rattle.pipe_model.specs.Language.SyntaxTree.{SyntaxTree}
use Rattle.pipe_frame.specs.Ties.{Tie}
use Rattle.frame_book.specs.BookStates.{with_events, events_of}
use Rattle.frame_book.specs.Invariant.{IsBook, IsBookAt}
use Rattle.frame_book.specs.Tables.{Tables}
use Rattle.frame_book.proofs.BookLogs.LogEntries.{events_of_with, state_after-push, starts_of-push}

module _ {M : Type 0} (Whole : SyntaxTree → M → Type 0) (ReadyAt : SyntaxTree → List ℤ → M → ℕ → List (List ℤ) → Type 0)
    (tie : M → Tie) where
  -- at the events of its log
  pub at_events : (b : Tables M) (es : List Event) (starts : List NodeId) (c : State) → events_of b.ledger.log ≡ es → starts_of es ≡ starts
      → state_after es ≡ c
      → IsBookAt Whole ReadyAt tie b es starts c → IsBook Whole ReadyAt tie b
  at_events b es starts c e s q h =
      subst (λ x. IsBookAt Whole ReadyAt tie b x (starts_of x) (state_after x)) (sym e)
      (subst (λ y. IsBookAt Whole ReadyAt tie b es y (state_after es)) (sym s)
      (subst (λ y. IsBookAt Whole ReadyAt tie b es starts y) (sym q) h))

  -- after one event more
  pub after_event : (b : Tables M) (log : List _) (now : ℕ) (e : Event) (starts : List NodeId) → b.ledger.log ≡ with_events log now (e ∷ [])
      → starts_of (events_of log) ++ started_by (state_after (events_of log)) e ≡ starts
      → IsBookAt Whole ReadyAt tie b (events_of log ++ e ∷ []) starts (next_state (state_after (events_of log)) e)
      → IsBook Whole ReadyAt tie b
  after_event b log now e starts l s h =
      at_events b (events_of log ++ e ∷ []) starts (next_state (state_after (events_of log)) e) (ap events_of l ∙ events_of_with log now e)
      (starts_of-push (events_of log) e ∙ s) (state_after-push (events_of log) e) h
