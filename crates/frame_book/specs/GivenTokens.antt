-- Tokens that are passed to a book, and those that it returns.
use Rattle.std.specs.Prelude.{◌≡◌, ℕ, ℤ, List, [], ◌∷◌, ◌+◌, ◌^◌, ◌≤◌, length}
use Rattle.pipe_model.specs.declared.event.Event.{Event}
use Rattle.pipe_model.specs.Language.SyntaxTree.{SyntaxTree, tree_of}
use Rattle.pipe_frame.specs.RunningTokens.{IsTokenOf}
use Rattle.pipe_frame.specs.Ties.{Tie, BelongsTo, KnowsMarks}
use Rattle.pipe_frame.specs.TokenFields.{TokenFields, fields_of}
use Rattle.pipe_frame.specs.declared.token.FrameToken.{FrameToken}
use Rattle.frame_book.specs.BookStates.{BookState, IsOut, Kept, Spent, events_of, item_or, last_ticket, replies_at}

-- the fields belong to the token of a running instance that is out, and its ticket is in bounds
pub record IsOutOf (v : BookState) (t : TokenFields) : Type 0 where
  pub out : IsOut v t.iteration
  pub token : IsTokenOf (events_of v.log) t
  pub now : t.now ≤ 2 ^ 62 + length v.log

-- a payload that belongs to the book's lists, and is at the start of the instance of iteration i after these replies, for the book's
-- program and input
pub record IsPayloadOf {M : Type 0} (ReadyAt : SyntaxTree → List ℤ → M → ℕ → List (List ℤ) → Type 0) (tie : M → Tie) (v : BookState)
    (i : ℕ) (replies : List (List ℤ)) (m : M) : Type 0 where
  pub belongs : BelongsTo (tie m) v.lists
  pub ready : ReadyAt (tree_of v.program) v.input m i replies

-- a token that the book returns
pub record IsGivenBy {M : Type 0} (ReadyAt : SyntaxTree → List ℤ → M → ℕ → List (List ℤ) → Type 0) (tie : M → Tie) (v : BookState)
    (t : FrameToken M) : Type 0 where
  pub out : IsOutOf v (fields_of t)
  pub payload : IsPayloadOf ReadyAt tie v t.iteration (replies_at v t.iteration) t.payload
  pub knows : KnowsMarks (tie t.payload) t.marks
  pub parts : length (replies_at v t.iteration) ≡ t.index

-- the fields of a token that was given out beside these events: its ticket is that of the last one; if there is none, it is the token
-- that the book had kept
abbrev pub IsGivenBeside : List Event → BookState → BookState → TokenFields → Type 0
IsGivenBeside [] old new t = item_or Spent old.tokens t.iteration ≡ Kept t
IsGivenBeside (e ∷ es) old new t = t.now ≡ last_ticket new.log
