-- Which action the rows, the pool and the closed flag allow next.
use Rattle.std.proofs.Common.{◌≡◌, ◌↔◌, ℕ, zero, suc, ◌+◌, ◌<◌, List, [], ◌∷◌, length, refl, ap, sym, ◌∙◌, arith, subst, Bool, true, false}
use Rattle.std.proofs.Common.{Option, Some, None, inl, inr, IsSome}
use Rattle.std.proofs.lemmas.Bool.{cases_lt}
use Rattle.pipe_model.specs.Runs.Allowed.{MayBegin, IsClosed, LastEndedFirstInstance}
use Rattle.pipe_model.specs.Runs.Run.{IsFinished}
use Rattle.pipe_model.specs.Runs.State.{State, Frame, frame_at, alive, alive_in, is_completed}
use Rattle.pipe_model.specs.declared.status.Status.TheVariants.{Running}
use Rattle.pipe_frame.specs.CallResults.{CanGoOn}
use Rattle.pipe_frame.specs.TokenFields.{fields_of}
use Rattle.run_laws.proofs.RunStates.FrameMoves.{IsSound}
use Rattle.run_laws.proofs.RunStates.Frames.{frame_at_within}
use Rattle.run_laws.proofs.RunStates.Completed.{completed_not_alive}
use Rattle.run_laws.proofs.RunStates.LoopEnds.{completed_by, goes_on_by, ended_by_going}
use Rattle.frame_book.specs.BookStates.{Kept, Spent, state_of}
use Rattle.frame_rows.specs.RowsOfFrames.{AreRows, RowGoesOn}
use Rattle.frame_book.specs.CallEffects.{IsReady}
use Rattle.frame_book.specs.Tables.{Tables, book_state, token_state_of, token_state_by}
use Rattle.frame_book.proofs.Conditions.MayEnter.{free_is_may}
use Rattle.frame_book.proofs.Keeping.Resume.{kept_token}
use Rattle.frame_rows.proofs.FrameRows.{frame_of_row, row_of_frame}
use Rattle.frame_rows.proofs.ChangedRows.{map_at}

-- a token that is there
some_token : {X : Type 0} → (o : Option X) → IsSome o → (x : X) × (o ≡ Some x)
some_token None e = absurd (let q : false ≡ true = e in cc)
some_token (Some x) e = (x, refl)

is_some : {X : Type 0} → (o : Option X) (x : X) → o ≡ Some x → IsSome o
is_some None x e = absurd (let q : None ≡ Some x = e in cc)
is_some (Some y) x e = refl

-- an iteration can go on exactly if its row goes on
pub can_is : {M : Type 0} → (going : Bool) (b : Tables M) (i : ℕ) → AreRows going (state_of (book_state b)).frames b.rows
    → RowGoesOn (state_of (book_state b)).frames b.rows i ↔ CanGoOn (IsReady (book_state b)) (state_of (book_state b)) i
can_is {M} going b i h = (
  (λ x. elim x [
    | inl y ↦ (
        let t = some_token y.0.token y.3 in
        let q = frame_of_row going (state_of (book_state b)).frames b.rows i y.0 h y.1 in
        inl (record {
          fields = fields_of t.0;
          kept = map_at token_state_of b.rows i y.0 Spent y.1 ∙ ap (λ o. token_state_by o y.0.status) t.1;
          runs = record { frame = q.frame; is = q.is; runs = sym q.matches.status ∙ y.2 };
        }))
    | inr f ↦ inr ((free_is_may (state_of (book_state b)) i).0 f)
  ]),
  (λ x. elim x [
    | inl y ↦ (
        let q = row_of_frame going (state_of (book_state b)).frames b.rows i y.runs.frame h y.runs.is in
        let s : q.row.status ≡ Running = q.matches.status ∙ y.runs.runs in
        let p : token_state_by q.row.token Running ≡ Kept y.fields = ap (token_state_by q.row.token) (sym s)
        ∙ (sym (map_at token_state_of b.rows i q.row Spent q.is) ∙ y.kept) in
        let t = kept_token q.row.token y.fields p in
        inl (q.row, q.is, s, is_some q.row.token t.0 t.1))
    | inr m ↦ inr ((free_is_may (state_of (book_state b)) i).1 m)
  ]),
)

-- if none is alive, all have ended
all_completed : (fs : List Frame) → alive_in fs ≡ 0 → (i : ℕ) (f : Frame) → frame_at fs i ≡ Some f → is_completed f.status ≡ true
all_completed [] a i f e = absurd (let q : None ≡ Some f = e in cc)
all_completed (x ∷ fs) a zero f e = let s : x ≡ f = cc in subst (λ (g : Frame). is_completed g.status ≡ true) s
    (completed_by x.status (omega (arith, a)))
all_completed (x ∷ fs) a (suc i) f e = all_completed fs (omega (arith, a)) i f e

pub none_alive : (fs : List Frame) → ((i : ℕ) (f : Frame) → frame_at fs i ≡ Some f → is_completed f.status ≡ true) → alive_in fs ≡ 0
none_alive [] h = refl
none_alive (x ∷ fs) h =
    let a = completed_not_alive x.status (h 0 x refl) in
    let r = none_alive fs (λ i f e. h (suc i) f e) in
    omega (arith, a, r)

-- closed, and none alive: finished
pub finished_by : (s : State) → s.stopped ≡ false → IsClosed s.frames → alive s ≡ 0 → IsFinished s
finished_by s going q a = record { over = all_completed s.frames a; shut = q; going = going }

pub closed_by_finish : (s : State) → IsFinished s → IsClosed s.frames × (alive s ≡ 0)
closed_by_finish s h = (h.shut, none_alive s.frames h.over)

-- when the next iteration may begin
pub begins_by : (limit : ℕ) (s : State) → IsSound s.frames → (IsClosed s.frames → ⊥) → LastEndedFirstInstance s.frames → alive s < limit
    → MayBegin limit s (length s.frames)
begins_by limit s sound n e r = record {
  number = refl;
  room = r;
  follows = λ j f z is. goes_on_by f.status f.nodes (sound.well j f is).filled (e j f z is)
      (λ x. n (record { iteration = j; frame = f; is = is; closes = x }));
}

pub open_by_begin : (limit : ℕ) (s : State) → IsSound s.frames → MayBegin limit s (length s.frames)
    → (IsClosed s.frames → ⊥) × LastEndedFirstInstance s.frames
open_by_begin limit s sound m = (
  (λ q. elim (cases_lt (q.iteration + 1) (length s.frames)) [
    | inl less ↦ (ended_by_going q.frame.status q.frame.nodes (sound.goes q.iteration q.frame q.is less)).1 q.closes
    | inr ge ↦ (
        let w = frame_at_within s.frames q.iteration q.frame q.is in
        (ended_by_going q.frame.status q.frame.nodes (m.follows q.iteration q.frame (omega (arith, ge, w)) q.is)).1 q.closes)
  ]),
  (λ j f z is. (ended_by_going f.status f.nodes (m.follows j f z is)).0),
)
