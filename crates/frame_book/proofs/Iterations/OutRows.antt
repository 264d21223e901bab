-- Rows of iterations whose tokens are out of the book.
use Rattle.std.proofs.Common.{◌≡◌, ℕ, List, map, set, get_or, refl, sym, ◌∙◌, false, Option, Some, None}
use Rattle.pipe_model.specs.declared.status.Status.{Status}
use Rattle.pipe_model.specs.declared.status.Status.TheVariants.{Running, Pending, Completed}
use Rattle.pipe_model.specs.Runs.State.{is_completed}
use Rattle.pipe_frame.specs.TokenFields.{fields_of}
use Rattle.pipe_frame.specs.declared.token.FrameToken.{FrameToken}
use Rattle.frame_rows.specs.AliveLists.{HasAliveList}
use Rattle.frame_rows.specs.IterationRows.{IterationRow, row_at}
use Rattle.frame_rows.proofs.AliveRows.{alive_set}
use Rattle.frame_rows.proofs.ChangedRows.{map_at}
use Rattle.frame_book.specs.BookStates.{Out, Kept, Spent}
use Rattle.frame_book.specs.Tables.{token_state_of, token_state_by}

-- the token of an iteration that has ended is not out
out_by : {M : Type 0} → (o : Option (FrameToken M)) (w : Status) → token_state_by o w ≡ Out → is_completed w ≡ false
out_by o Running e = refl
out_by o (Pending k n) e = refl
out_by None (Completed x) e = absurd (let z : Spent ≡ Out = e in cc)
out_by (Some t) (Completed x) e = absurd (let z : Kept (fields_of t) ≡ Out = e in cc)

out_alive : {M : Type 0} → (rs : List (IterationRow M)) (i : ℕ) (r : IterationRow M) → row_at rs i ≡ Some r
    → get_or (map token_state_of rs) i Spent ≡ Out → is_completed r.status ≡ false
out_alive rs i r at out = out_by r.token r.status (sym (map_at token_state_of rs i r Spent at) ∙ out)

-- the list of alive iterations stays right while such a row is changed
pub alive_out : {M : Type 0} → (rs spare : List (IterationRow M)) (i : ℕ) (r y : IterationRow M) (alive : List ℕ) (room : ℕ)
    → row_at rs i ≡ Some r → get_or (map token_state_of rs) i Spent ≡ Out → HasAliveList rs spare alive room
    → HasAliveList (set rs i y) spare alive room
alive_out rs spare i r y alive room at out h = alive_set rs spare i r y alive room at (out_alive rs i r at out) h
