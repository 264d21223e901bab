-- A token that is left ready keeps the tables.
use Rattle.std.proofs.Common.{◌≡◌, ℕ, ℤ, zero, suc, ◌+◌, ◌^◌, ◌<◌, ◌≤◌, List, [], ◌∷◌, length, map, set, get_or, refl, ap, sym, ◌∙◌, arith}
use Rattle.std.proofs.Common.{subst, not, Option, Some, None, inl, inr, reverse}
use Rattle.std.proofs.Common.{w64}
use Rattle.std.proofs.Math.Facts.{Fits-bits}
use mir.Val.{Fits}
use Rattle.std.proofs.lemmas.Bool.{cases_eq}
use Rattle.std.proofs.lemmas.List.{map-set, length-set}
use Rattle.pipe_model.specs.Pipelines.Pipeline.{Pipeline}
use Rattle.pipe_model.specs.Runs.RunLogs.{state_after}
use Rattle.pipe_model.specs.Orders.Starts.{starts_of}
use Rattle.pipe_model.specs.Runs.State.{State, frame_at}
use Rattle.pipe_model.specs.declared.status.Status.{Status}
use Rattle.pipe_model.specs.Language.SyntaxTree.{SyntaxTree, tree_of}
use Rattle.pipe_frame.specs.Ties.{Tie, KnowsMarks}
use Rattle.pipe_frame.specs.TokenFields.{fields_of}
use Rattle.pipe_frame.specs.declared.token.FrameToken.{FrameToken}
use Rattle.frame_book.specs.BookStates.{Out, Kept, Spent, events_of, replies_at}
use Rattle.frame_book.specs.Invariant.{IsBook, HasActions}
use Rattle.frame_rows.specs.RowsOfFrames.{IsRowOf, IsUnheld, TokenFits, token_at, no_marks}
use Rattle.frame_book.specs.Rooms.{IsSized, IsPlanned}
use Rattle.frame_book.specs.KeptTokens.{IsKeptToken}
use Rattle.frame_rows.specs.IterationRows.{IterationRow, row_at}
use Rattle.frame_book.specs.CallEffects.{after_leave_ready, identities_of_orders}
use Rattle.pipe_model.specs.Language.Programs.{pipeline_of}
use Rattle.frame_book.specs.Tables.{Tables, book_state, token_state_of, token_state_by}
use Rattle.frame_book.proofs.Iterations.SpareRows.{few_rows}
use Rattle.frame_book.specs.GivenTokens.{IsOutOf, IsPayloadOf}
use Rattle.frame_rows.proofs.FrameRows.{row_of_frame, row_at_within, row_at_read, token_of_row}
use Rattle.frame_rows.proofs.ChangedRows.{rows_set_same, token_at_set, token_at_other, map_set_same, map_at, total_set_same}
use Rattle.frame_rows.proofs.ChangedRows.{rooms_set}

-- a row whose token is out has no kept token
pub out_keeps_none : {M : Type 0} → (token : Option (FrameToken M)) (w : Status) → token_state_by token w ≡ Out → token ≡ None
out_keeps_none None w e = refl
out_keeps_none (Some t) w e = absurd (let q : Kept (fields_of t) ≡ Out = e in cc)

-- the row of an iteration whose token is out
pub out_row : {M : Type 0} → (rs : List (IterationRow M)) (i : ℕ) (r : IterationRow M) → row_at rs i ≡ Some r
    → get_or (map token_state_of rs) i Spent ≡ Out → r.token ≡ None
out_row rs i r e o = out_keeps_none r.token r.status (sym (map_at token_state_of rs i r Spent e) ∙ o)

-- an iteration whose token is out has begun
pub out_within : {M : Type 0} → (rs : List (IterationRow M)) (i : ℕ) → get_or (map token_state_of rs) i Spent ≡ Out → i < length rs
out_within [] i e = absurd (let q : Spent ≡ Out = e in cc)
out_within (r ∷ rs) zero e = omega arith
out_within (r ∷ rs) (suc i) e = let h = out_within rs i e in omega (arith, h)

-- its number is small
pub out_fits : {M : Type 0} → (p : Pipeline) (rs spare : List (IterationRow M)) (down right log i : ℕ) → IsSized p rs spare down right log
    → get_or (map token_state_of rs) i Spent ≡ Out → Fits w64 i
out_fits p rs spare down right log i h out =
    let w = out_within rs i out in
    let a = few_rows p rs spare down right log h in
    let z = h.bounded in
    Fits-bits 31 tt (omega (arith, w, a, z))

-- the row that was read
pub out_row_read : {M : Type 0} → (rs : List (IterationRow M)) (i : ℕ) (r : IterationRow M) → get_or (map token_state_of rs) i Spent ≡ Out
    → r ≡ get_or rs i r → row_at rs i ≡ Some r
out_row_read rs i r o e = row_at_read rs i r (out_within rs i o) e

-- sizes after a change that keeps the room of a row
pub sized_set : {M : Type 0} → (p : Pipeline) (rs spare : List (IterationRow M)) (i : ℕ) (r y : IterationRow M) (down right log : ℕ)
    → row_at rs i ≡ Some r → y.room ≡ r.room → IsSized p rs spare down right log → IsSized p (set rs i y) spare down right log
sized_set p rs spare i r y down right log e q h =
    let t = total_set_same (λ z. z.room) rs i r y e q in record {
      planned = subst (IsPlanned p) (sym (rooms_set rs (reverse spare) i r y e q)) h.planned;
      fresh = h.fresh;
      bounded = (let a = h.bounded in omega (arith, a, t));
      down_room = (let a = h.down_room in omega (arith, a, t));
      right_room = (let a = h.right_room in omega (arith, a, t));
      log_room = (let a = h.log_room in omega (arith, a, t));
    }

module _ {M : Type 0} (Whole : SyntaxTree → M → Type 0) (ReadyAt : SyntaxTree → List ℤ → M → ℕ → List (List ℤ) → Type 0)
    (tie : M → Tie) where
  -- the tables with a token left ready
  abbrev pub with_ready : Tables M → FrameToken M → IterationRow M → Tables M
  with_ready b t r = record b { rows = set b.rows t.iteration (record r { token = Some t }) }

  pub ready_keeps : (b : Tables M) (t : FrameToken M) (r : IterationRow M) → IsBook Whole ReadyAt tie b → row_at b.rows t.iteration ≡ Some r
      → IsOutOf (book_state b) (fields_of t) → IsPayloadOf ReadyAt tie (book_state b) t.iteration
      (replies_at (book_state b) t.iteration) t.payload → KnowsMarks (tie t.payload) t.marks
      → IsBook Whole ReadyAt tie (with_ready b t r)
  ready_keeps b t r h at out pay knows =
      let i = t.iteration in
      let c : State = state_after (events_of b.ledger.log) in
      let y : IterationRow M = record r { token = Some t } in
      let none : r.token ≡ None = out_row b.rows i r at out.out in
      let run = out.token.running in
      let traces : map (λ (z : IterationRow M). z.traces) (set b.rows i y) ≡ map (λ (z : IterationRow M). z.traces) b.rows =
      map_set_same (λ z. z.traces) b.rows i r y at refl in
      let marks : map (λ (z : IterationRow M). z.marks) (set b.rows i y) ≡ map (λ (z : IterationRow M). z.marks) b.rows =
      map_set_same (λ z. z.marks) b.rows i r y at refl in
      let within = row_at_within b.rows i r at in
      let old = row_of_frame (not c.stopped) c.frames b.rows i run.frame h.rows.each run.is in
      let same : old.row ≡ r = (let z : Some old.row ≡ Some r = sym old.is ∙ at in cc) in
      let matches : IsRowOf (not c.stopped) run.frame r = subst (IsRowOf (not c.stopped) run.frame) same old.matches in
      record {
        sized = sized_set _ b.rows b.spare i r y _ _ _ at refl h.sized;
        logged = h.logged;
        rows = record {
          each = rows_set_same (not c.stopped) c.frames b.rows i run.frame y h.rows.each run.is (record {
            numbers = matches.numbers;
            status = matches.status;
            marks = matches.marks;
            fits = matches.fits;
            traces = λ u. matches.traces (inr none);
            home = λ e. subst (λ w. TokenFits w (Some t)) (sym run.runs) tt;
          });
          marks = λ j k l. ap (λ ms. get_or (get_or ms j []) k no_marks) marks ∙ h.rows.marks j k l;
          started = h.rows.started ∙ sym (total_set_same (λ z. length z.numbers) b.rows i r y at refl);
        };
        actions = subst (λ ts. HasActions (pipeline_of (tree_of b.program) b.input) b.ledger.log ts c) (sym traces) h.actions;
        counted = λ j u. elim (cases_eq j i) [
          | inl s ↦ (let z = h.counted j (inr (ap (token_at b.rows) s ∙ (token_of_row b.rows i r at ∙ none))) in
              z ∙ ap (λ ts. length (get_or ts j [])) (sym traces))
          | inr n ↦ (let z = h.counted j (subst (IsUnheld c.stopped) (token_at_other b.rows i j y n) u) in
              z ∙ ap (λ ts. length (get_or ts j [])) (sym traces))
        ];
        tokens = record {
          tokens = λ going j f t' e k. subst (λ ts. IsKeptToken (ReadyAt (tree_of b.program) b.input) tie
              (identities_of_orders b.orders) ts (starts_of (events_of b.ledger.log)) c j f t') (sym traces) (elim (cases_eq j i) [
                | inl s ↦ (
                    let a : Some t ≡ Some t' = sym (token_at_set b.rows i y within) ∙ (ap (token_at (set b.rows i y)) (sym s) ∙ k) in
                    let z : t ≡ t' = cc in
                    let e' : frame_at c.frames i ≡ Some f = subst (λ n. frame_at c.frames n ≡ Some f) s e in
                    let w : run.frame ≡ f = (let q : Some run.frame ≡ Some f = sym run.is ∙ e' in cc) in
                    subst (λ n. IsKeptToken (ReadyAt (tree_of b.program) b.input) tie (identities_of_orders b.orders)
                    (map (λ (z : IterationRow M). z.traces) b.rows) (starts_of (events_of b.ledger.log)) c n f t') (sym s)
                    (subst (λ x. IsKeptToken (ReadyAt (tree_of b.program) b.input) tie (identities_of_orders b.orders)
                    (map (λ (z : IterationRow M). z.traces) b.rows) (starts_of (events_of b.ledger.log)) c i f x) z
                    (subst (λ x. IsKeptToken (ReadyAt (tree_of b.program) b.input) tie (identities_of_orders b.orders)
                    (map (λ (z : IterationRow M). z.traces) b.rows) (starts_of (events_of b.ledger.log)) c i x t) w
                    (record {
                      iteration = refl;
                      index = out.token.index;
                      joined = out.token.joined;
                      folded = out.token.folded;
                      marks =
                          λ q. out.token.marks;
                      knows = λ q. knows;
                      belongs = pay.belongs;
                      ready = pay.ready;
                    }))))
                | inr n ↦ h.tokens.tokens going j f t' e (sym (token_at_other b.rows i j y n) ∙ k)
              ]);
          nows = λ j t' k. elim (cases_eq j i) [
            | inl s ↦ (
                let a : Some t ≡ Some t' = sym (token_at_set b.rows i y within) ∙ (ap (token_at (set b.rows i y)) (sym s) ∙ k) in
                let z : t ≡ t' = cc in
                subst (λ x. x.now ≤ 2 ^ 62 + length b.ledger.log) z out.now)
            | inr n ↦ h.tokens.nows j t' (sym (token_at_other b.rows i j y n) ∙ k)
          ];
          at_home = h.tokens.at_home;
        };
        down = h.down;
        right = h.right;
        stopped = h.stopped;
        closed = h.closed;
        alive = h.alive;
        size = h.size;
        some = h.some;
        last = h.last;
        reads = h.reads;
        rise = h.rise;
        reserve = (let e = length-set b.rows i y in let z = h.reserve in omega (arith, e, z));
      }

  -- what contracts see of them
  pub ready_view : (b : Tables M) (t : FrameToken M) (r : IterationRow M) → row_at b.rows t.iteration ≡ Some r
      → book_state (with_ready b t r) ≡ after_leave_ready (book_state b) (fields_of t)
  ready_view b t r at =
      let y : IterationRow M = record r { token = Some t } in
      let traces : map (λ (z : IterationRow M). z.traces) (set b.rows t.iteration y) ≡ map (λ (z : IterationRow M). z.traces) b.rows =
      map_set_same (λ z. z.traces) b.rows t.iteration r y at refl in
      let places : map token_state_of (set b.rows t.iteration y) ≡ set (map token_state_of b.rows) t.iteration (Kept (fields_of t)) =
      map-set token_state_of b.rows t.iteration y in
      rw (traces, places) refl
