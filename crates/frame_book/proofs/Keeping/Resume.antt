-- The token of an iteration that was left ready, taken out again.
use Rattle.std.proofs.Common.{◌≡◌, ℕ, ℤ, zero, suc, ◌<◌, List, [], ◌∷◌, length, map, set, get_or, refl, ap, sym, ◌∙◌, arith, subst}
use Rattle.std.proofs.Common.{false, not, Option, Some, None, inl, inr, append-nil}
use Rattle.std.proofs.lemmas.Bool.{cases_eq}
use Rattle.std.proofs.lemmas.List.{map-set, length-set, length-map, get_or-set_same}
use Rattle.pipe_model.specs.declared.event.Event.TheVariants.{Enter}
use Rattle.pipe_model.specs.declared.ticket.Entry.{Entry}
use Rattle.pipe_model.specs.Runs.Allowed.{MayEnter}
use Rattle.pipe_model.specs.Language.Programs.{pipeline_of}
use Rattle.pipe_model.specs.Runs.RunLogs.{state_after}
use Rattle.pipe_model.specs.Orders.Starts.{starts_of}
use Rattle.pipe_model.specs.Runs.State.{State, Frame, frame_at}
use Rattle.pipe_model.specs.declared.status.Status.TheVariants.{Running, Pending, Completed}
use Rattle.pipe_model.specs.Language.SyntaxTree.{SyntaxTree, tree_of}
use Rattle.pipe_frame.specs.CallResults.{CanGoOn, resume_events, pending_events}
use Rattle.pipe_frame.specs.Ties.{Tie}
use Rattle.pipe_frame.specs.TokenFields.{fields_of}
use Rattle.pipe_frame.specs.declared.token.FrameToken.{FrameToken}
use Rattle.run_laws.proofs.RunStates.Frames.{frame_at_within}
use Rattle.frame_book.specs.BookStates.{BookState, Out, Spent, Kept, events_of, item_or, state_of, with_events}
use Rattle.pipe_frame.specs.Replies.{replies_of}
use Rattle.frame_book.specs.Invariant.{IsBook, HasActions}
use Rattle.frame_rows.specs.RowsOfFrames.{HasTraceCount, IsRowOf, TokenFits, token_at, no_marks}
use Rattle.frame_book.specs.KeptTokens.{IsKeptToken}
use Rattle.frame_rows.specs.IterationRows.{IterationRow, row_at}
use Rattle.frame_book.specs.CallEffects.{with_resumed, with_entered, IsReady, identities_of_orders, kept_folded}
use Rattle.frame_book.specs.Tables.{Tables, book_state, token_state_of, token_state_by}
use Rattle.frame_book.specs.GivenTokens.{IsGivenBeside, IsGivenBy}
use Rattle.frame_book.proofs.Keeping.LeaveReady.{sized_set}
use Rattle.frame_rows.proofs.FrameRows.{row_of_frame, row_at_read, row_at_within, rows_length, token_of_row}
use Rattle.frame_rows.proofs.ChangedRows.{rows_set_same, token_at_set, token_at_other, map_at, map_set_same, total_set_same}
use Rattle.frame_rows.proofs.ChangedRows.{traces_of_row}

-- a row that is put back
pub set_itself : {M : Type 0} → (rs : List (IterationRow M)) (i : ℕ) (r : IterationRow M) → row_at rs i ≡ Some r → set rs i r ≡ rs
set_itself [] i r e = refl
set_itself (x ∷ rs) zero r e = let s : x ≡ r = cc in ap (λ z. z ∷ rs) (sym s)
set_itself (x ∷ rs) (suc i) r e = ap (λ l. x ∷ l) (set_itself rs i r e)

-- what can go on has begun
pub can_frame : (v : BookState) (i : ℕ) → CanGoOn (IsReady v) (state_of v) i → (f : Frame) × (frame_at (state_of v).frames i ≡ Some f)
can_frame v i (inl q) = (q.runs.frame, q.runs.is)
can_frame v i (inr m) = (m.frame, m.is)

-- one that can go on and runs was left ready
pub can_run : (v : BookState) (i : ℕ) (f : Frame) → frame_at (state_of v).frames i ≡ Some f → f.status ≡ Running
    → CanGoOn (IsReady v) (state_of v) i → IsReady v i
can_run v i f e s (inl q) = q
can_run v i f e s (inr m) = (
    let z : f ≡ m.frame = (let y : Some f ≡ Some m.frame = sym e ∙ m.is in cc) in
    let w : Pending m.kind m.number ≡ Running = sym m.named ∙ (sym (ap (λ (g : Frame). g.status) z) ∙ s) in
    absurd (cc))

-- one that can go on and has named a stage may enter it
pub can_enter : (v : BookState) (i : ℕ) (f : Frame) (k : _) (n : _) → frame_at (state_of v).frames i ≡ Some f → f.status ≡ Pending k n
    → CanGoOn (IsReady v) (state_of v) i → MayEnter (state_of v) i
can_enter v i f k n e s (inl q) = (
    let z : f ≡ q.runs.frame = (let y : Some f ≡ Some q.runs.frame = sym e ∙ q.runs.is in cc) in
    let w : Pending k n ≡ Running = sym s ∙ (ap (λ (g : Frame). g.status) z ∙ q.runs.runs) in
    absurd (cc))
can_enter v i f k n e s (inr m) = m

-- none that has ended can go on
pub can_not : (v : BookState) (i : ℕ) (f : Frame) (x : _) → frame_at (state_of v).frames i ≡ Some f → f.status ≡ Completed x
    → CanGoOn (IsReady v) (state_of v) i → ⊥
can_not v i f x e s (inl q) = (
    let z : f ≡ q.runs.frame = (let y : Some f ≡ Some q.runs.frame = sym e ∙ q.runs.is in cc) in
    let w : Completed x ≡ Running = sym s ∙ (ap (λ (g : Frame). g.status) z ∙ q.runs.runs) in
    absurd (cc))
can_not v i f x e s (inr m) = (
    let z : f ≡ m.frame = (let y : Some f ≡ Some m.frame = sym e ∙ m.is in cc) in
    let w : Completed x ≡ Pending m.kind m.number = sym s ∙ (ap (λ (g : Frame). g.status) z ∙ m.named) in
    absurd (cc))

-- a row whose token is kept
pub kept_token : {M : Type 0} → (token : Option (FrameToken M)) (f : _) → token_state_by token Running ≡ Kept f
    → (t : FrameToken M) × (token ≡ Some t)
kept_token None f e = absurd (let q : Out ≡ Kept f = e in cc)
kept_token (Some t) f e = (t, refl)

-- without a token none is kept
pub kept_none : {M : Type 0} → (token : Option (FrameToken M)) (f : _) → token ≡ None → token_state_by token Running ≡ Kept f → ⊥
kept_none None f z e = absurd (let q : Out ≡ Kept f = e in cc)
kept_none (Some t) f z e = absurd (let q : Some t ≡ None = z in cc)

-- entering is what a suspended iteration resumes with
pub resumes_by_entering : (v : BookState) (i : ℕ) (f : Frame) (k : _) (n : _) → frame_at (state_of v).frames i ≡ Some f
    → f.status ≡ Pending k n → with_entered v i ≡ with_resumed v i
resumes_by_entering v i f k n e s =
    let z : Enter i ∷ [] ≡ resume_events (frame_at (state_of v).frames i) i =
    sym (ap (λ o. resume_events o i) e ∙ ap (λ w. pending_events w i) s) in
    ap (λ es. record v {
      log = with_events v.log (Rattle.frame_book.specs.CallEffects.kept_now
          (Rattle.frame_book.specs.BookStates.item_or Spent v.tokens i)) es;
      tokens = set v.tokens i Out;
    }) z

-- a run that goes on, an iteration that can go on too, and its row and frame
pub record Resumes {M : Type 0} (b : Tables M) (i : ℕ) (r : IterationRow M) : Type 0 where
  pub going : (state_after (events_of b.ledger.log)).stopped ≡ false
  pub can : CanGoOn (IsReady (book_state b)) (state_after (events_of b.ledger.log)) i
  pub at_row : row_at b.rows i ≡ Some r
  pub frame : Frame
  pub is : frame_at (state_after (events_of b.ledger.log)).frames i ≡ Some frame
  pub status : r.status ≡ frame.status

module _ {M : Type 0} {Whole : SyntaxTree → M → Type 0} {ReadyAt : SyntaxTree → List ℤ → M → ℕ → List (List ℤ) → Type 0} {tie : M → Tie}
    {b : Tables M} (h : IsBook Whole ReadyAt tie b) {v : BookState} (seen : book_state b ≡ v) (i : ℕ)
    (can : CanGoOn (IsReady v) (state_of v) i) where
  can_here : CanGoOn (IsReady (book_state b)) (state_after (events_of b.ledger.log)) i
  can_here = subst (λ w. CanGoOn (IsReady w) (state_of w) i) (sym seen) can

  -- it has a row
  pub can_within : i < length b.rows
  can_within =
      let it = can_frame (book_state b) i can_here in
      let a = frame_at_within (state_after (events_of b.ledger.log)).frames i it.0 it.1 in
      let e = rows_length _ (state_after (events_of b.ledger.log)).frames b.rows h.rows.each in
      omega (arith, a, e)

  -- that was read
  pub resumes : (state_of v).stopped ≡ false → {r : IterationRow M} → r ≡ get_or b.rows i r → Resumes b i r
  resumes going {r = r} read =
      let it = can_frame (book_state b) i can_here in
      let at = row_at_read b.rows i r can_within read in
      let q = row_of_frame _ (state_after (events_of b.ledger.log)).frames b.rows i it.0 h.rows.each it.1 in
      let same : q.row ≡ r = (let y : Some q.row ≡ Some r = sym q.is ∙ at in cc) in
      record {
        going = subst (λ w. (state_of w).stopped ≡ false) (sym seen) going;
        can = can_here;
        at_row = at;
        frame = it.0;
        is = it.1;
        status = sym (ap (λ (z : IterationRow M). z.status) same) ∙ q.matches.status;
      }

module _ {M : Type 0} {Whole : SyntaxTree → M → Type 0} {ReadyAt : SyntaxTree → List ℤ → M → ℕ → List (List ℤ) → Type 0} {tie : M → Tie}
    {b : Tables M} (h : IsBook Whole ReadyAt tie b) {i : ℕ} {r : IterationRow M} (x : Resumes b i r) (ran : r.status ≡ Running)
    {t : FrameToken M} (held : r.token ≡ Some t) where
  open x use {going, at_row, frame as f, is}

  runs : f.status ≡ Running
  runs = sym x.status ∙ ran

  abbrev pub c : State
  c = state_after (events_of b.ledger.log)

  abbrev pub r0 : IterationRow M
  r0 = record r { token = None }

  abbrev pub traces : List (List (List Entry))
  traces = map (λ (z : IterationRow M). z.traces) b.rows

  -- the tables without the token
  abbrev pub with_resume : Tables M
  with_resume = record b { rows = set b.rows i r0 }

  row_matches : IsRowOf (not c.stopped) f r
  row_matches =
      let old = row_of_frame (not c.stopped) c.frames b.rows i f h.rows.each is in
      let z : old.row ≡ r = (let y : Some old.row ≡ Some r = sym old.is ∙ at_row in cc) in
      subst (IsRowOf (not c.stopped) f) z old.matches

  traces_are : map (λ (z : IterationRow M). z.traces) (set b.rows i r0) ≡ traces
  traces_are = map_set_same (λ z. z.traces) b.rows i r r0 at_row refl

  pub kept : IsKeptToken (ReadyAt (tree_of b.program) b.input) tie (identities_of_orders b.orders) traces
      (starts_of (events_of b.ledger.log)) c i f t
  kept = h.tokens.tokens going i f t is (token_of_row b.rows i r at_row ∙ held)

  pub resume_keeps : IsBook Whole ReadyAt tie with_resume
  resume_keeps = record {
    sized = sized_set (pipeline_of (tree_of b.program) b.input) b.rows b.spare i r r0 b.orders.down.capacity b.orders.right.capacity
        b.ledger.room at_row refl h.sized;
    logged = h.logged;
    rows = record {
      each = rows_set_same (not c.stopped) c.frames b.rows i f r0 h.rows.each is (record {
        numbers = row_matches.numbers;
        status = row_matches.status;
        marks = row_matches.marks;
        fits = row_matches.fits;
        traces = λ u. row_matches.traces (inl (ap (λ s. not (not s)) going));
        home = λ e. subst (λ w. TokenFits {M = M} w None) (sym runs) tt;
      });
      marks = λ j k l. ap (λ ms. get_or (get_or ms j []) k no_marks)
          (map_set_same (λ (z : IterationRow M). z.marks) b.rows i r r0 at_row refl) ∙ h.rows.marks j k l;
      started = h.rows.started ∙ sym (total_set_same (λ z. length z.numbers) b.rows i r r0 at_row refl);
    };
    actions = subst (λ ts. HasActions (pipeline_of (tree_of b.program) b.input) b.ledger.log ts c) (sym traces_are) h.actions;
    counted = λ j u. h.counted j (inl going) ∙ ap (λ ts. length (get_or ts j [])) (sym traces_are);
    tokens = record {
      tokens = λ go j g t' e q. subst (λ ts. IsKeptToken (ReadyAt (tree_of b.program) b.input) tie (identities_of_orders b.orders) ts
          (starts_of (events_of b.ledger.log)) c j g t') (sym traces_are) (elim (cases_eq j i) [
            | inl s ↦ (let z : None ≡ Some t' = sym (token_at_set b.rows i r0 (row_at_within b.rows i r at_row))
                ∙ (ap (token_at (set b.rows i r0)) (sym s) ∙ q) in absurd (cc))
            | inr m ↦ h.tokens.tokens go j g t' e (sym (token_at_other b.rows i j r0 m) ∙ q)
          ]);
      nows = λ j t' q. elim (cases_eq j i) [
        | inl s ↦ (let z : None ≡ Some t' = sym (token_at_set b.rows i r0 (row_at_within b.rows i r at_row))
            ∙ (ap (token_at (set b.rows i r0)) (sym s) ∙ q) in absurd (cc))
        | inr m ↦ h.tokens.nows j t' (sym (token_at_other b.rows i j r0 m) ∙ q)
      ];
      at_home = h.tokens.at_home;
    };
    down = h.down;
    right = h.right;
    stopped = h.stopped;
    closed = h.closed;
    alive = h.alive;
    size = h.size;
    some = h.some;
    last = h.last;
    reads = h.reads;
    rise = h.rise;
    reserve = (let e = length-set b.rows i r0 in let z = h.reserve in omega (arith, e, z));
  }

  places_are : map token_state_of (set b.rows i r0) ≡ set (map token_state_of b.rows) i Out
  places_are = map-set token_state_of b.rows i r0 ∙ ap (λ w. set (map token_state_of b.rows) i (token_state_by {M = M} None w))
      (row_matches.status ∙ runs)

  -- what contracts see
  pub resume_view : book_state with_resume ≡ with_resumed (book_state b) i
  resume_view =
      let none : resume_events (frame_at c.frames i) i ≡ [] = ap (λ o. resume_events o i) is ∙ ap (λ w. pending_events w i) runs in
      let log : with_events b.ledger.log (Rattle.frame_book.specs.CallEffects.kept_now (get_or (map token_state_of b.rows) i Spent))
      (resume_events (frame_at c.frames i) i) ≡ b.ledger.log =
      ap (with_events b.ledger.log (Rattle.frame_book.specs.CallEffects.kept_now (get_or (map token_state_of b.rows) i Spent))) none
      ∙ append-nil b.ledger.log in
      rw (traces_are, places_are, log) refl

  -- the token
  pub resume_given : IsGivenBy ReadyAt tie (book_state with_resume) t
  resume_given =
      let wide = length-map b.rows token_state_of in
      let w = row_at_within b.rows i r at_row in
      subst (λ k. IsGivenBy ReadyAt tie (book_state with_resume) (record t { iteration = k })) (sym kept.iteration) (record {
        out = record {
          out = ap (λ ps. get_or ps i Spent) places_are ∙ get_or-set_same (map token_state_of b.rows) i Out Spent (omega (arith, w, wide));
          token = record {
            running = record { frame = f; is = is; runs = runs };
            index = kept.index;
            marks = kept.marks runs;
            joined =
                kept.joined;
            folded = kept.folded;
          };
          now = h.tokens.nows i t (token_of_row b.rows i r at_row ∙ held);
        };
        payload = record {
          belongs = kept.belongs;
          ready =
              subst (λ ts. ReadyAt (tree_of b.program) b.input t.payload i (map replies_of (get_or ts i []))) (sym traces_are) kept.ready;
        };
        knows = kept.knows runs;
        parts = (
            let same = ap (λ ts. length (map replies_of (get_or ts i []))) traces_are in
            let row = ap (λ ts. length (map replies_of ts)) (traces_of_row b.rows i r at_row) in
            let long = length-map r.traces replies_of in
            let counted : suc (length r.traces) ≡ length f.nodes = subst (λ w. HasTraceCount w (length r.traces) (length f.nodes)) runs
            (row_matches.traces (inl (ap (λ s. not (not s)) going))) in
            let index = kept.index in
            omega (arith, same, row, long, counted, index));
      })

  -- it is the one that was kept
  pub resume_beside : IsGivenBeside (resume_events (frame_at c.frames i) i) (book_state b) (book_state with_resume) (fields_of t)
  resume_beside =
      let none : resume_events (frame_at c.frames i) i ≡ [] = ap (λ o. resume_events o i) is ∙ ap (λ w. pending_events w i) runs in
      let place : get_or (map token_state_of b.rows) i Spent ≡ Kept (fields_of t) = map_at token_state_of b.rows i r Spent at_row
      ∙ ap (λ o. token_state_by o r.status) held in
      subst (λ es. IsGivenBeside es (book_state b) (book_state with_resume) (fields_of t)) (sym none)
      (ap (λ k. get_or (map token_state_of b.rows) k Spent) kept.iteration ∙ place)

  -- its counter is the one that was kept
  pub resume_folded : t.folded ≡ kept_folded (item_or Spent (book_state b).tokens i)
  resume_folded =
      let place : get_or (map token_state_of b.rows) i Spent ≡ Kept (fields_of t) = map_at token_state_of b.rows i r Spent at_row
      ∙ ap (λ o. token_state_by o r.status) held in
      ap kept_folded (sym place)
