-- Tokens that a book has given, and that are out.
use Rattle.std.specs.Prelude.{◌≡◌, ◌≢◌, ℕ, List, Option, Some, None, slice_index_or}
use Rattle.pipe_frame.specs.declared.token.FrameToken.{FrameToken}
use Rattle.frame_book.specs.BookStates.{BookState}
use Rattle.frame_book.specs.GivenTokens.{IsGivenBy}
use Rattle.book_tests.specs.declared.plan.Plan.{Plan}
use Rattle.book_tests.specs.PlanStates.{IsPlanAt, plan_tie}

-- what holds of a token that the book has given
abbrev pub IsGiven : BookState → FrameToken Plan → Type 0
IsGiven v t = IsGivenBy IsPlanAt plan_tie v t

abbrev pub IsHeldAt : BookState → ℕ → Option (FrameToken Plan) → Type 0
IsHeldAt v i None = Unit {0}
IsHeldAt v i (Some t) = (t.iteration ≡ i) × IsGiven v t

abbrev pub token_of : List (Option (FrameToken Plan)) → ℕ → Option (FrameToken Plan)
token_of tokens i = slice_index_or tokens i None

-- the token at each index belongs to the iteration with this number
abbrev pub AreHeld : BookState → List (Option (FrameToken Plan)) → Type 0
AreHeld v tokens = (i : ℕ) → IsHeldAt v i (token_of tokens i)

-- the same, but for one index
abbrev pub AreHeldBut : ℕ → BookState → List (Option (FrameToken Plan)) → Type 0
AreHeldBut k v tokens = (i : ℕ) → i ≢ k → IsHeldAt v i (token_of tokens i)
