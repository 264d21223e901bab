-- Lists of tokens that are out.
use Rattle.std.proofs.Common.{◌≡◌, ◌≢◌, ℕ, zero, suc, List, [], ◌∷◌, ◌++◌, ◌⊎◌, refl, sym, subst, arith, Option, Some}
use Rattle.std.proofs.Common.{None, inl, inr}
use Rattle.std.proofs.lemmas.Bool.{cases_eq}
use Rattle.pipe_model.specs.Runs.ControlRun.{ControlRun}
use Rattle.pipe_model.specs.declared.event.Event.{Event}
use Rattle.pipe_frame.specs.declared.token.FrameToken.{FrameToken}
use Rattle.frame_book.specs.BookStates.{BookState, events_of, state_of}
use Rattle.book_tests.specs.declared.plan.Plan.{Plan}
use Rattle.book_tests.specs.HeldTokens.{AreHeld, AreHeldBut, IsHeldAt, token_of}
use Rattle.book_tests.proofs.StayingTokens.{Changes, still_given}

-- one entry more, without a token
pub none_more : (tokens : List (Option (FrameToken Plan))) → ((i : ℕ) → token_of tokens i ≡ None) → (i : ℕ)
    → token_of (tokens ++ None ∷ []) i ≡ None
none_more [] none zero = refl
none_more [] none (suc i) = refl
none_more (t ∷ ts) none zero = none zero
none_more (t ∷ ts) none (suc i) = none_more ts (λ j. none (suc j)) i

-- the tokens after a change of the book
held_one : (i j : ℕ) (v w : BookState) (events : List Event) (o : Option (FrameToken Plan)) → Changes i v w events
    → ControlRun w.limit (events_of w.log) (state_of w)
    → j ≢ i → IsHeldAt v j o → IsHeldAt w j o
held_one i j v w events None ch run other h = tt
held_one i j v w events (Some t) ch run other h = (h.0, still_given i v w events ch run t (subst (λ k. k ≢ i) (sym h.0) other) h.1)

pub held_after : (i : ℕ) (v w : BookState) (events : List Event) (tokens : List (Option (FrameToken Plan))) → Changes i v w events
    → ControlRun w.limit (events_of w.log) (state_of w)
    → AreHeld v tokens → AreHeldBut i w tokens
held_after i v w events tokens ch run held j other = held_one i j v w events (token_of tokens j) ch run other (held j)

-- no iteration has changed
pub held_every : (v w : BookState) (events : List Event) (tokens : List (Option (FrameToken Plan))) → ((i : ℕ) → Changes i v w events)
    → ControlRun w.limit (events_of w.log) (state_of w) → AreHeld v tokens → AreHeld w tokens
held_every v w events tokens ch run held j = held_one (suc j) j v w events (token_of tokens j) (ch (suc j)) run
    (λ e. absurd (omega (arith, e))) (held j)

-- none of them belongs to the iteration that has changed
pub held_all : (i : ℕ) (w : BookState) (tokens : List (Option (FrameToken Plan))) → token_of tokens i ≡ None → AreHeldBut i w tokens
    → AreHeld w tokens
held_all i w tokens gone others j = by_index (cases_eq j i)
  where
    by_index : (j ≡ i) ⊎ (j ≢ i) → IsHeldAt w j (token_of tokens j)
    by_index (inl same) = rw (same, gone) tt
    by_index (inr other) = others j other
