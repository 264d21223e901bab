-- Why a token is out if nothing can be done.
use Rattle.std.proofs.Common.{◌≡◌, ◌↔◌, ℕ, zero, suc, ℤ, ◌<◌, ◌⊎◌, List, [], ◌∷◌, length, not, refl, ap, sym, ◌∙◌, arith, subst, Bool, true}
use Rattle.std.proofs.Common.{false, Option, Some, None, IsTrue, inl, inr}
use Rattle.pipe_model.specs.declared.node.Node.{Node}
use Rattle.pipe_model.specs.declared.status.Status.{Status}
use Rattle.pipe_model.specs.declared.status.Status.TheVariants.{Running, Pending, Completed}
use Rattle.pipe_model.specs.Language.SyntaxTree.{SyntaxTree}
use Rattle.pipe_model.specs.Runs.Allowed.{EndedFirstInstance, IsClosed, IsRunning, LeftHasPassed, MayBegin, MayEnter}
use Rattle.pipe_model.specs.Runs.Run.{IsFinished}
use Rattle.pipe_model.specs.Runs.State.{Frame, State, alive, frame_at, is_completed}
use Rattle.run_laws.proofs.RunStates.FrameMoves.{IsSound}
use Rattle.pipe_frame.specs.CallResults.{CanGoOn}
use Rattle.pipe_frame.specs.Ties.{Tie}
use Rattle.pipe_frame.specs.TokenFields.{fields_of}
use Rattle.pipe_frame.specs.declared.token.FrameToken.{FrameToken}
use Rattle.run_laws.proofs.RunStates.Completed.{completed_passes}
use Rattle.frame_book.specs.BookStates.{IsOut, Spent, item_or, state_of}
use Rattle.frame_book.specs.CallEffects.{IsReady}
use Rattle.frame_book.specs.Invariant.{IsBook}
use Rattle.frame_rows.specs.RowsOfFrames.{AreRows}
use Rattle.frame_book.specs.Tables.{Tables, book_state, token_state_by, token_state_of}
use Rattle.frame_book.proofs.Conditions.Rescue.{begins_by, none_alive}
use Rattle.frame_rows.proofs.ChangedRows.{map_at}
use Rattle.frame_rows.proofs.FrameRows.{row_of_frame}

-- the first frame whose iteration has not ended
record FirstAlive (fs : List Frame) : Type 0 where
  pub iteration : ℕ
  pub frame : Frame
  pub is : frame_at fs iteration ≡ Some frame
  pub lives : is_completed frame.status ≡ false
  pub before : (j : ℕ) (f : Frame) → j < iteration → frame_at fs j ≡ Some f → is_completed f.status ≡ true

abbrev AllEnded : List Frame → Type 0
AllEnded fs = (i : ℕ) (f : Frame) → frame_at fs i ≡ Some f → is_completed f.status ≡ true

first_alive : (fs : List Frame) → FirstAlive fs ⊎ AllEnded fs
first_alive [] = inr (λ i f e. absurd (let q : None ≡ Some f = e in cc))
first_alive (x ∷ fs) = by_status (is_completed x.status) refl (first_alive fs)
  where
    ended : is_completed x.status ≡ true → (i : ℕ) (f : Frame)
        → ((k : ℕ) → i ≡ suc k → frame_at fs k ≡ Some f → is_completed f.status ≡ true) → frame_at (x ∷ fs) i ≡ Some f
        → is_completed f.status ≡ true
    ended e zero f more is = let same : x ≡ f = cc in subst (λ (g : Frame). is_completed g.status ≡ true) same e
    ended e (suc k) f more is = more k refl is

    by_status : (b : Bool) → is_completed x.status ≡ b → FirstAlive fs ⊎ AllEnded fs → FirstAlive (x ∷ fs) ⊎ AllEnded (x ∷ fs)
    by_status false e rest = inl (record { iteration = 0; frame = x; is = refl; lives = e; before = λ j f l is. absurd (omega (arith, l)) })
    by_status true e (inl r) = inl (record {
      iteration = suc r.iteration;
      frame = r.frame;
      is = r.is;
      lives = r.lives;
      before = λ j f l is. ended e j f (λ k q. r.before k f (omega (arith, l, q))) is;
    })
    by_status true e (inr all) = inr (λ i f is. ended e i f (λ k q. all k f) is)

ended_first_by_end : (w : Status) (nodes : List Node) → is_completed w ≡ true → EndedFirstInstance w nodes
ended_first_by_end Running nodes e = absurd (let q : false ≡ true = e in cc)
ended_first_by_end (Pending k m) nodes e = tt
ended_first_by_end (Completed x) nodes e = tt

left_passed : (fs : List Frame) (i : ℕ) (n : ℤ) → ((j : ℕ) (f : Frame) → j < i → frame_at fs j ≡ Some f → is_completed f.status ≡ true)
    → LeftHasPassed fs i n
left_passed fs zero n before = tt
left_passed fs (suc j) n before = λ f is. completed_passes f.status f.nodes n (before j f (omega arith) is)

-- if nothing can be done and the run is not over, an instance runs
pub one_runs : (limit : ℕ) (s : State) (closed : Bool) → IsTrue closed ↔ IsClosed s.frames → IsSound s.frames → 0 < limit
    → s.stopped ≡ false
    → ((i : ℕ) → MayEnter s i → ⊥) → (MayBegin limit s (length s.frames) → ⊥) → (IsFinished s → ⊥) → (i : ℕ) × IsRunning s i
one_runs limit s closed shut sound some going enters begins over = by_frames (first_alive s.frames)
  where
    by_frame : (i : ℕ) (f : Frame) → frame_at s.frames i ≡ Some f → (w : Status) → f.status ≡ w → is_completed w ≡ false
        → ((n : ℤ) → LeftHasPassed s.frames i n) → (i : ℕ) × IsRunning s i
    by_frame i f is Running runs lives passed = (i, record { frame = f; is = is; runs = runs })
    by_frame i f is (Pending k n) named lives passed =
        absurd (enters i (record { frame = f; kind = k; number = n; is = is; named = named; free = λ w. passed n }))
    by_frame i f is (Completed x) named lives passed = absurd (let q : true ≡ false = lives in cc)

    by_closed : AllEnded s.frames → (b : Bool) → closed ≡ b → (i : ℕ) × IsRunning s i
    by_closed all true e = absurd (over (record { over = all; shut = shut.0 e; going = going }))
    by_closed all false e =
        let none : alive s ≡ 0 = none_alive s.frames all in
        absurd (begins (begins_by limit s sound (λ q. let t : true ≡ false = sym (shut.1 q) ∙ e in absurd (cc))
        (λ j f z is. ended_first_by_end f.status f.nodes (all j f is)) (omega (arith, none, some))))

    by_frames : FirstAlive s.frames ⊎ AllEnded s.frames → (i : ℕ) × IsRunning s i
    by_frames (inl r) = by_frame r.iteration r.frame r.is r.frame.status refl r.lives (λ n. left_passed s.frames r.iteration n r.before)
    by_frames (inr all) = by_closed all closed refl

-- the token of a running instance that was not left ready is out
out_by : {M : Type 0} → (b : Tables M) (i : ℕ) → AreRows (not (state_of (book_state b)).stopped) (state_of (book_state b)).frames b.rows
    → IsRunning (state_of (book_state b)) i → (IsReady (book_state b) i → ⊥) → IsOut (book_state b) i
out_by {M} b i rows runs ready =
    let q = row_of_frame (not (state_of (book_state b)).stopped) (state_of (book_state b)).frames b.rows i runs.frame rows runs.is in
    let status : q.row.status ≡ Running = q.matches.status ∙ runs.runs in
    let here : item_or Spent (book_state b).tokens i ≡ token_state_by q.row.token Running =
    map_at token_state_of b.rows i q.row Spent q.is ∙ ap (token_state_by q.row.token) status in
    by_token q.row.token here
  where
    by_token : (o : Option (FrameToken M)) → item_or Spent (book_state b).tokens i ≡ token_state_by o Running → IsOut (book_state b) i
    by_token None e = e
    by_token (Some t) e = absurd (ready (record { fields = fields_of t; kept = e; runs = runs }))

-- if no iteration can go on and none may begin, and the run is not over, a token is out
pub a_token_is_out : {M : Type 0} (Whole : SyntaxTree → M → Type 0) (ReadyAt : SyntaxTree → List ℤ → M → ℕ → List (List ℤ) → Type 0)
    (tie : M → Tie) (b : Tables M)
    → IsBook Whole ReadyAt tie b → (state_of (book_state b)).stopped ≡ false
    → ((i : ℕ) → CanGoOn (IsReady (book_state b)) (state_of (book_state b)) i → ⊥)
    → (MayBegin b.limit (state_of (book_state b)) (length (state_of (book_state b)).frames) → ⊥)
    → (IsFinished (state_of (book_state b)) → ⊥) → (i : ℕ) × IsOut (book_state b) i
a_token_is_out Whole ReadyAt tie b h going none begins over =
    let found = one_runs b.limit (state_of (book_state b)) b.closed h.closed h.logged.sound.sound h.some going
    (λ i m. none i (inr m)) begins over in
    (found.0, out_by b found.0 h.rows.each found.1 (λ r. none found.0 (inl r)))
