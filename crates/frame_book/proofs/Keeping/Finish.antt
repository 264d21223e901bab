-- The end of an iteration keeps the tables.
use Rattle.std.proofs.Common.{◌≡◌, ◌≢◌, ℕ, ℤ, zero, suc, pos, ◌+◌, ◌<◌, ◌↔◌, List, [], ◌∷◌, ◌++◌, length, map, set, get_or, refl, ap, sym}
use Rattle.std.proofs.Common.{◌∙◌, arith, subst, Bool, true, false, not, Some, None, inl, inr, append-nil, append_assoc, ◌||◌, eq-eqb}
use Rattle.std.proofs.Common.{ne_eqb, IsTrue}
use Rattle.std.proofs.lemmas.Bool.{cases_eq}
use Rattle.std.proofs.lemmas.List.Elements.{All-push}
use Rattle.std.proofs.lemmas.List.{map-set, length_push, length-map, get_or-set_other, length-set}
use Rattle.pipe_model.specs.declared.event.Event.{Event}
use Rattle.pipe_model.specs.declared.event.Event.TheVariants.{Finish}
use Rattle.pipe_model.specs.declared.node.Kind.TheVariants.{Zero}
use Rattle.pipe_model.specs.declared.ticket.Entry.{Entry}
use Rattle.pipe_model.specs.Runs.Allowed.{MayFinish, ClosesLoop, IsClosed}
use Rattle.pipe_model.specs.Pipelines.Behaviour.{Action, Accessed, Staged, Ended, Performs, behaviour_after_all, column_of, nodes_in}
use Rattle.pipe_model.specs.Pipelines.Behaviour.{node_of, trace_end, closes_at_once}
use Rattle.pipe_model.specs.Races.Columns.{nodes_at}
use Rattle.pipe_model.specs.Runs.ControlRun.{ControlRunThen}
use Rattle.pipe_model.specs.Pipelines.Pipeline.{Pipeline}
use Rattle.pipe_model.specs.Language.Programs.{pipeline_of}
use Rattle.pipe_model.specs.Runs.RunLogs.{state_after}
use Rattle.pipe_model.specs.Orders.OrderMarks.{instance_marks}
use Rattle.pipe_model.specs.Orders.Starts.{starts_of}
use Rattle.pipe_model.specs.Runs.State.{State, Frame, frame_at, update_frame, with_action, next_state, own_columns, alive_in, alive_one}
use Rattle.pipe_model.specs.declared.status.Status.TheVariants.{Completed}
use Rattle.pipe_model.specs.Language.SyntaxTree.{SyntaxTree, tree_of}
use Rattle.pipe_model.specs.Orders.TwoOrders.{right_first_log}
use Rattle.pipe_frame.specs.RunningTokens.{left_joined}
use Rattle.pipe_frame.specs.Ties.{Tie, BelongsTo}
use Rattle.pipe_frame.specs.TokenFields.{fields_of}
use Rattle.pipe_frame.specs.declared.token.FrameToken.{FrameToken}
use Rattle.run_laws.proofs.ListOrders.StartsOfRuns.{IsStartSound, sound_step}
use Rattle.run_laws.proofs.RunStates.FrameMoves.{IsMove, moves_completed, frame_at_moved}
use Rattle.run_laws.proofs.RunStates.Frames.{frame_at_updated, frame_at_other}
use Rattle.run_laws.proofs.RunStates.GrowingColumns.{columns-action}
use Rattle.frame_book.specs.BookStates.{events_of, with_events, actions_at, pipeline_in, Spent}
use Rattle.pipe_frame.specs.Replies.{replies_of, accessed}
use Rattle.frame_book.specs.Invariant.{IsBook, HasActions, MatchesFrame, actions_in, pending_nodes}
use Rattle.frame_rows.specs.RowsOfFrames.{IsRowOf, IsUnheld, HasTraceCount, token_at, no_marks}
use Rattle.frame_book.specs.KeptTokens.{IsKeptToken, IsAtHome}
use Rattle.frame_rows.specs.IterationRows.{IterationRow, row_at, with_trace}
use Rattle.pipe_model.specs.declared.column.ColumnEnd.{ColumnEnd}
use Rattle.frame_book.proofs.Keeping.Name.{running_set, left_passed_moved}
use Rattle.frame_book.specs.CallEffects.{identities_of_orders, with_finished}
use Rattle.frame_book.specs.Tables.{Tables, book_state, token_state_of, token_state_by}
use Rattle.throttle.specs.Stock.{Stock}
use Rattle.frame_book.specs.TicketLog.{Ledger}
use Rattle.frame_book.specs.GivenTokens.{IsOutOf}
use Rattle.frame_book.proofs.Actions.TraceActions.{actions_more, actions_other, counted_more}
use Rattle.frame_book.proofs.BookLogs.AtEvents.{after_event}
use Rattle.frame_book.proofs.Actions.LegalActions.{performs_split, legal_after, offered_end, no_end_accessed, first_after}
use Rattle.frame_book.proofs.BookLogs.LogEntries.{rise_with, last_ticket_with, length_with, entry_of, end_actions-push}
use Rattle.frame_book.proofs.Keeping.LeaveReady.{out_row, sized_set}
use Rattle.frame_rows.proofs.FrameRows.{row_of_frame, row_at_within}
use Rattle.frame_rows.proofs.ChangedRows.{rows_set, token_at_set, token_at_other, map_set_same, map_at, total_set_same}

-- an iteration that ends is alive no more
pub alive_drop : (fs : List Frame) (i : ℕ) (f : Frame) (u : Frame → Frame) → frame_at fs i ≡ Some f → alive_one f.status ≡ 1
    → alive_one (u f).status ≡ 0 → alive_in (update_frame fs i u) + 1 ≡ alive_in fs
alive_drop [] i f u e a z = absurd (cc)
alive_drop (x ∷ fs) zero f u e a z =
    let s : x ≡ f = cc in
    let p : alive_one (u x).status ≡ 0 = ap (λ y. alive_one (u y).status) s ∙ z in
    let q : alive_one x.status ≡ 1 = ap (λ y. alive_one y.status) s ∙ a in
    omega (arith, p, q)
alive_drop (x ∷ fs) (suc i) f u e a z = let h = alive_drop fs i f u e a z in omega (arith, h)

-- an end names no instance
nodes_ended : (xs : List Action) (tr : List Entry) (e : ColumnEnd) → nodes_in (xs ++ (accessed tr ++ Ended e ∷ [])) ≡ nodes_in xs
nodes_ended [] [] e = refl
nodes_ended [] (t ∷ tr) e = nodes_ended [] tr e
nodes_ended (Accessed a ∷ xs) tr e = nodes_ended xs tr e
nodes_ended (Staged j m ∷ xs) tr e = ap (λ l. node_of j m ∷ l) (nodes_ended xs tr e)
nodes_ended (Ended f ∷ xs) tr e = nodes_ended xs tr e

-- it is the end
end_ended : (xs : List Action) (tr : List Entry) (e : ColumnEnd) → trace_end xs ≡ None → trace_end
    (xs ++ (accessed tr ++ Ended e ∷ [])) ≡ Some e
end_ended [] [] e n = refl
end_ended [] (t ∷ tr) e n = end_ended [] tr e n
end_ended (Accessed a ∷ xs) tr e n = end_ended xs tr e n
end_ended (Staged j m ∷ xs) tr e n = end_ended xs tr e n
end_ended (Ended f ∷ xs) tr e n = absurd (let q : Some f ≡ None = n in cc)

-- after a stage it is not the first
first_gone : (xs : List Action) → first_after false xs ≡ true → ⊥
first_gone [] e = (let q : false ≡ true = e in absurd (cc))
first_gone (Accessed a ∷ xs) e = first_gone xs e
first_gone (Staged k m ∷ xs) e = first_gone xs e
first_gone (Ended f ∷ xs) e = first_gone xs e

-- the first instance has named none
first_names_none : (xs : List Action) (tr : List Entry) → first_after true (xs ++ accessed tr) ≡ true → nodes_in xs ≡ []
first_names_none [] tr e = refl
first_names_none (Accessed a ∷ xs) tr e = first_names_none xs tr e
first_names_none (Staged k m ∷ xs) tr e = absurd (first_gone (xs ++ accessed tr) e)
first_names_none (Ended f ∷ xs) tr e = first_names_none xs tr e

-- the loop is closed exactly if it was, or this end closes it
closed_ended : (fs : List Frame) (i : ℕ) (f : Frame) (u : Frame → Frame) (was now : Bool) → frame_at fs i ≡ Some f
    → (ClosesLoop f.status f.nodes → ⊥) → (IsTrue was ↔ IsClosed fs) → (IsTrue now ↔ ClosesLoop (u f).status (u f).nodes)
    → IsTrue (was || now) ↔ IsClosed (update_frame fs i u)
closed_ended fs i f u was now e a w n = (
  (λ q. go was now refl refl q),
  (λ q. elim (frame_at_moved fs i q.iteration f u q.frame e q.is) [
    | inl here ↦ or_right_true was now (n.1 (subst (λ (g : Frame). ClosesLoop g.status g.nodes) here.1 q.closes))
    | inr there ↦ or_left_true was now (w.1 (record { iteration = q.iteration; frame = q.frame; is = there.1; closes = q.closes }))
  ]),
)
  where
    or_left_true : (b d : Bool) → IsTrue b → IsTrue (b || d)
    or_left_true true d h = refl
    or_left_true false d h = absurd (let q : false ≡ true = h in cc)

    or_right_true : (b d : Bool) → IsTrue d → IsTrue (b || d)
    or_right_true true d h = refl
    or_right_true false d h = h

    moved : IsClosed fs → IsClosed (update_frame fs i u)
    moved q = elim (cases_eq q.iteration i) [
      | inl s ↦ (
          let e' : frame_at fs i ≡ Some q.frame = subst (λ m. frame_at fs m ≡ Some q.frame) s q.is in
          let z : q.frame ≡ f = (let y : Some q.frame ≡ Some f = sym e' ∙ e in cc) in
          absurd (a (subst (λ (g : Frame). ClosesLoop g.status g.nodes) z q.closes)))
      | inr m ↦ record { iteration = q.iteration; frame = q.frame; is = frame_at_other fs i q.iteration u m ∙ q.is; closes = q.closes }
    ]

    go : (b d : Bool) → was ≡ b → now ≡ d → IsTrue (b || d) → IsClosed (update_frame fs i u)
    go true d p r q = moved (w.0 p)
    go false true p r q = record { iteration = i; frame = u f; is = frame_at_updated fs i f u e; closes = n.0 r }
    go false false p r q = absurd (let z : false ≡ true = q in cc)

module _ {M : Type 0} (Whole : SyntaxTree → M → Type 0) (ReadyAt : SyntaxTree → List ℤ → M → ℕ → List (List ℤ) → Type 0) (tie : M → Tie)
    (b : Tables M) (t : FrameToken M) (r : IterationRow M) (x : ColumnEnd) (shut : Bool) (trace : List Entry)
    (h : IsBook Whole ReadyAt tie b) (at : row_at b.rows t.iteration ≡ Some r)
    (going : (state_after (events_of b.ledger.log)).stopped ≡ false)
    (out : IsOutOf (book_state b) (fields_of t))
    (performs : Performs ((pipeline_in (book_state b)).behaviour t.iteration)
    (actions_at (book_state b) t.iteration ++ (accessed trace ++ Ended x ∷ [])))
    (whole : Whole (tree_of b.program) t.payload) (names : BelongsTo (tie t.payload) (identities_of_orders b.orders))
    (shuts : IsTrue shut ↔ (closes_at_once x ≡ true) × (t.index ≡ 0)) where
  -- the state before
  abbrev pub c : State
  c = state_after (events_of b.ledger.log)

  abbrev pub traces : List (List (List Entry))
  traces = map (λ (z : IterationRow M). z.traces) b.rows

  abbrev pub acts : List Action
  acts = actions_in b.ledger.log traces t.iteration

  abbrev pub p : Pipeline
  p = pipeline_of (tree_of b.program) b.input

  abbrev pub u : Frame → Frame
  u = with_action (Ended x) (Completed x)

  abbrev pub row : IterationRow M
  row = with_trace trace (Completed x) r

  abbrev pub with_finish : Tables M
  with_finish = record b {
    closed = b.closed || shut;
    pool = record { home = b.pool.home ++ t.payload ∷ []; size = b.pool.size };
    ledger =
        record { log = with_events b.ledger.log t.now (Finish t.iteration x ∷ []); room = b.ledger.room };
    rows = set b.rows t.iteration row;
  }

  -- tables with its parts are these tables
  pub finished_tables : {y' : IterationRow M} {ledger' : Ledger} {pool' : Stock M} {closed' : Bool} → y' ≡ row
      → ledger' ≡ record { log = with_events b.ledger.log t.now (Finish t.iteration x ∷ []); room = b.ledger.room }
      → pool' ≡ record { home = b.pool.home ++ t.payload ∷ []; size = b.pool.size } → closed' ≡ (b.closed || shut)
      → record b { closed = closed'; pool = pool'; ledger = ledger'; rows = set b.rows t.iteration y' } ≡ with_finish
  finished_tables ey el ep ec = rw (ey, el, ep, ec) refl

  abbrev pub f : Frame
  f = out.token.running.frame

  matches : MatchesFrame f acts
  matches = h.actions.matches t.iteration f out.token.running.is

  no_end : trace_end acts ≡ None
  no_end = matches.end ∙ ap Rattle.pipe_model.specs.Runs.State.end_of_status out.token.running.runs

  nodes_are : column_of acts ≡ f.nodes
  nodes_are = matches.nodes ∙ (ap (λ w. f.nodes ++ pending_nodes w) out.token.running.runs ∙ append-nil f.nodes)

  -- the control part allows the event
  pub may : MayFinish c t.iteration x
  may =
      let q = performs_split (p.behaviour t.iteration) (acts ++ accessed trace) (Ended x ∷ [])
      (subst (Performs (p.behaviour t.iteration)) (sym (append_assoc acts (accessed trace) (Ended x ∷ []))) performs) in
      let l = legal_after true (pos 0) (p.behaviour t.iteration) (acts ++ accessed trace) (h.sized.planned.proper.legal t.iteration) q.0
      (no_end_accessed acts trace no_end) in
      record {
        running = out.token.running;
        first = λ e. (
            let o = offered_end _ _ (behaviour_after_all (p.behaviour t.iteration) (acts ++ accessed trace)) x l q.1.0 e in
            let z = first_names_none acts trace o in
            let w : length (node_of Zero (pos 0) ∷ nodes_in acts) ≡ 1 = ap (λ ns. length (node_of Zero (pos 0) ∷ ns)) z in
            sym (ap length nodes_are) ∙ w);
      }

  -- the columns stay
  columns_stay : own_columns (next_state c (Finish t.iteration x)) ≡ own_columns c
  columns_stay = columns-action c.frames t.iteration (Ended x) (Completed x)

  traces_are : map (λ (z : IterationRow M). z.traces) (set b.rows t.iteration row) ≡ set traces t.iteration
      (get_or traces t.iteration [] ++ trace ∷ [])
  traces_are = map-set (λ (z : IterationRow M). z.traces) b.rows t.iteration row ∙ ap (λ ts. set traces t.iteration (ts ++ trace ∷ []))
      (sym (map_at (λ (z : IterationRow M). z.traces) b.rows t.iteration r [] at))

  marks_are : map (λ (z : IterationRow M). z.marks) (set b.rows t.iteration row) ≡ map (λ (z : IterationRow M). z.marks) b.rows
  marks_are = map_set_same (λ z. z.marks) b.rows t.iteration r row at refl

  none : r.token ≡ None
  none = out_row b.rows t.iteration r at out.out

  counted_here : length (Rattle.pipe_model.specs.Runs.TicketLogs.end_actions t.iteration b.ledger.log) ≡ length
      (get_or traces t.iteration [])
  counted_here = h.counted t.iteration (inl going)

  within : t.iteration < length traces
  within = let l = row_at_within b.rows t.iteration r at in let e = length-map b.rows (λ (z : IterationRow M). z.traces) in
      omega (arith, l, e)

  -- the row matches the frame
  row_matches : IsRowOf (not c.stopped) f r
  row_matches =
      let old = row_of_frame (not c.stopped) c.frames b.rows t.iteration f h.rows.each out.token.running.is in
      let same : old.row ≡ r = (let z : Some old.row ≡ Some r = sym old.is ∙ at in cc) in
      subst (IsRowOf (not c.stopped) f) same old.matches

  new_row_matches : IsRowOf (not c.stopped) (u f) row
  new_row_matches = record {
    numbers = row_matches.numbers;
    status = refl;
    marks = row_matches.marks;
    fits = row_matches.fits;
    traces = λ q. (
        let old : suc (length r.traces) ≡ length f.nodes = subst (λ w. HasTraceCount w (length r.traces) (length f.nodes))
        out.token.running.runs (row_matches.traces (inr none)) in
        let w = length_push r.traces trace in
        omega (arith, old, w));
    home = λ q. none;
  }

  move : IsMove c.frames t.iteration f (u f)
  move = moves_completed c.frames t.iteration f (Ended x) x out.token.running.runs

  ends_here : Rattle.pipe_model.specs.Runs.TicketLogs.end_action t.iteration (Finish t.iteration x)
      (entry_of b.ledger.log t.now (Finish t.iteration x)).ticket
      ≡ record { ticket = (entry_of b.ledger.log t.now (Finish t.iteration x)).ticket; action = Ended x } ∷ []
  ends_here = rw (eq-eqb t.iteration t.iteration refl) refl

  ends_not : (j : ℕ) → j ≢ t.iteration → Rattle.pipe_model.specs.Runs.TicketLogs.end_action j (Finish t.iteration x)
      (entry_of b.ledger.log t.now (Finish t.iteration x)).ticket ≡ []
  ends_not j m = rw (ne_eqb t.iteration j (λ e. m (sym e))) refl

  -- what the iterations have done then
  here_is : actions_in (with_events b.ledger.log t.now (Finish t.iteration x ∷ []))
      (set traces t.iteration (get_or traces t.iteration [] ++ trace ∷ [])) t.iteration ≡ acts ++ (accessed trace ++ Ended x ∷ [])
  here_is = actions_more b.ledger.log t.now (Finish t.iteration x) traces t.iteration trace (Ended x) within counted_here ends_here

  other_is : (j : ℕ) → j ≢ t.iteration → actions_in (with_events b.ledger.log t.now (Finish t.iteration x ∷ []))
      (set traces t.iteration (get_or traces t.iteration [] ++ trace ∷ [])) j ≡ actions_in b.ledger.log traces j
  other_is j m = actions_other b.ledger.log t.now (Finish t.iteration x) traces t.iteration trace
      (Ended x) within counted_here ends_here j m (ends_not j m)

  actions_keep : HasActions p (with_events b.ledger.log t.now (Finish t.iteration x ∷ []))
      (set traces t.iteration (get_or traces t.iteration [] ++ trace ∷ [])) (next_state c (Finish t.iteration x))
  actions_keep = record {
    performs = λ j. elim (cases_eq j t.iteration) [
      | inl s ↦ subst (λ m. Performs (p.behaviour m) (actions_in (with_events b.ledger.log t.now (Finish t.iteration x ∷ []))
          (set traces t.iteration (get_or traces t.iteration [] ++ trace ∷ [])) m)) (sym s)
          (subst (Performs (p.behaviour t.iteration)) (sym here_is) performs)
      | inr m ↦ subst (Performs (p.behaviour j)) (sym (other_is j m)) (h.actions.performs j)
    ];
    matches = λ j g e. elim (frame_at_moved c.frames t.iteration j f u g out.token.running.is e) [
      | inl here ↦ subst (λ m. MatchesFrame g (actions_in (with_events b.ledger.log t.now (Finish t.iteration x ∷ []))
          (set traces t.iteration (get_or traces t.iteration [] ++ trace ∷ [])) m)) (sym here.0)
          (subst (λ (y : Frame). MatchesFrame y (actions_in (with_events b.ledger.log t.now (Finish t.iteration x ∷ []))
          (set traces t.iteration (get_or traces t.iteration [] ++ trace ∷ [])) t.iteration)) (sym here.1)
          (subst (MatchesFrame (u f)) (sym here_is) (record {
            nodes = ap (λ l. node_of Zero (pos 0) ∷ l) (nodes_ended acts trace x) ∙ (nodes_are ∙ sym (append-nil f.nodes));
            end = end_ended acts trace x no_end;
          })))
      | inr there ↦ subst (MatchesFrame g) (sym (other_is j there.0)) (h.actions.matches j g there.1)
    ];
  }

  -- another token that is kept
  other_keeps : (j : ℕ) (g : Frame) (t' : FrameToken M) → j ≢ t.iteration → IsKeptToken (ReadyAt (tree_of b.program) b.input) tie
      (identities_of_orders b.orders) traces (starts_of (events_of b.ledger.log)) c j g t'
      → IsKeptToken (ReadyAt (tree_of b.program) b.input) tie (identities_of_orders b.orders)
      (set traces t.iteration (get_or traces t.iteration [] ++ trace ∷ [])) (starts_of (events_of b.ledger.log))
      (next_state c (Finish t.iteration x)) j g t'
  other_keeps j g t' m q = record {
    iteration = q.iteration;
    index = q.index;
    joined = q.joined ∙ ap (λ cols. left_joined cols j t'.index) (sym columns_stay);
    folded = λ a x. left_passed_moved c.frames t.iteration f u out.token.running.is move j a (q.folded a x);
    marks = λ e. q.marks e ∙ ap (λ cols. instance_marks cols (starts_of (events_of b.ledger.log)) j t'.index) (sym columns_stay);
    knows = q.knows;
    belongs = q.belongs;
    ready = subst (ReadyAt (tree_of b.program) b.input t'.payload j)
        (sym (ap (map replies_of) (get_or-set_other traces t.iteration j (get_or traces t.iteration [] ++ trace ∷ []) [] m))) q.ready;
  }

  shuts_it : IsTrue shut ↔ ClosesLoop (Completed x) f.nodes
  shuts_it = let w = out.token.index in (
    (λ y. (let q = shuts.0 y in let z = q.1 in (q.0, omega (arith, w, z)))),
    (λ y. (let z = y.1 in shuts.1 (y.0, omega (arith, w, z)))),
  )

  pub finish_keeps : IsBook Whole ReadyAt tie with_finish
  finish_keeps =
      let log = b.ledger.log in
      let i = t.iteration in
      let e : Event = Finish i x in
      let starts = starts_of (events_of log) in
      let long = length_with log t.now e in
      let last = h.last in
      let l = row_at_within b.rows i r at in
      after_event Whole ReadyAt tie with_finish log t.now e starts refl (append-nil starts) record {
        sized = sized_set _ b.rows b.spare i r row _ _ _ at refl h.sized;
        logged = record {
          run = ControlRunThen h.logged.run e refl going may;
          sound = subst (IsStartSound (next_state c e).frames) (append-nil starts) (sound_step b.limit c e starts may h.logged.sound);
          entries = (
              let w = length_push (events_of log) e in
              let q = running_set c.frames i f u out.token.running.is out.token.running.runs refl in
              let z = h.logged.entries in
              omega (arith, w, q, z));
        };
        rows = record {
          each = rows_set (not c.stopped) c.frames b.rows i f u row h.rows.each out.token.running.is new_row_matches;
          marks = subst (λ cols. (j q : ℕ) → q < length (nodes_at cols j)
              → get_or (get_or (map (λ (z : IterationRow M). z.marks) (set b.rows i row)) j []) q no_marks ≡ instance_marks cols starts j
              q) (sym columns_stay)
              (λ j q w. ap (λ ms. get_or (get_or ms j []) q no_marks) marks_are ∙ h.rows.marks j q w);
          started = h.rows.started ∙ sym (total_set_same (λ z. length z.numbers) b.rows i r row at refl);
        };
        actions = subst (λ ts. HasActions p (with_events log t.now (e ∷ [])) ts (next_state c e)) (sym traces_are) actions_keep;
        counted = λ j q. subst (λ ts. length (Rattle.pipe_model.specs.Runs.TicketLogs.end_actions j (with_events log t.now (e ∷ [])))
            ≡ length (get_or ts j [])) (sym traces_are) (counted_keep j q);
        tokens = record {
          tokens = λ go j g t' is q. subst (λ ts. IsKeptToken (ReadyAt (tree_of b.program) b.input) tie
              (identities_of_orders b.orders) ts starts (next_state c e) j g t') (sym traces_are) (token_keeps j g t' is q);
          nows = λ j t' q. elim (cases_eq j i) [
            | inl s ↦ (let a : None ≡ Some t' = sym none ∙ (sym (token_at_set b.rows i row l)
                ∙ (ap (token_at (set b.rows i row)) (sym s) ∙ q)) in absurd (cc))
            | inr m ↦ (let a = h.tokens.nows j t' (sym (token_at_other b.rows i j row m) ∙ q) in omega (arith, a, long))
          ];
          at_home = All-push (IsAtHome (Whole (tree_of b.program)) tie (identities_of_orders b.orders)) b.pool.home t.payload
              h.tokens.at_home (record { whole = whole; belongs = names });
        };
        down = h.down;
        right = h.right ∙ ap (λ cols. right_first_log cols starts) (sym columns_stay);
        stopped = h.stopped;
        closed = closed_ended c.frames i f u b.closed shut out.token.running.is
            (λ y. subst (λ w. ClosesLoop w f.nodes) out.token.running.runs y) h.closed shuts_it;
        alive = (let a = alive_drop c.frames i f u out.token.running.is (ap alive_one out.token.running.runs) refl in let z = h.alive in
            let w = length_push b.pool.home t.payload in omega (arith, a, z, w));
        size = h.size;
        some = h.some;
        last = (let q = last_ticket_with log t.now e in let o = out.now in omega (arith, q, long, last, o));
        reads = (let z = h.reads in omega (arith, z, long));
        reserve = (let q = length-set b.rows i row in let z = h.reserve in omega (arith, q, z));
        rise = rise_with log t.now e h.rise;
      }
    where
      token_keeps : (j : ℕ) (g : Frame) (t' : FrameToken M) → frame_at (next_state c (Finish t.iteration x)).frames j ≡ Some g
          → token_at (set b.rows t.iteration row) j ≡ Some t'
          → IsKeptToken (ReadyAt (tree_of b.program) b.input) tie (identities_of_orders b.orders)
          (set traces t.iteration (get_or traces t.iteration [] ++ trace ∷ [])) (starts_of (events_of b.ledger.log))
          (next_state c (Finish t.iteration x)) j g t'
      token_keeps j g t' is q = elim (frame_at_moved c.frames t.iteration j f u g out.token.running.is is) [
        | inl here ↦ (let a : None ≡ Some t' = sym none ∙ (sym (token_at_set b.rows t.iteration row
            (row_at_within b.rows t.iteration r at)) ∙ (ap (token_at (set b.rows t.iteration row)) (sym here.0) ∙ q)) in absurd (cc))
        | inr there ↦ other_keeps j g t' there.0 (h.tokens.tokens going j g t' there.1
            (sym (token_at_other b.rows t.iteration j row there.0) ∙ q))
      ]

      counted_keep : (j : ℕ) → IsUnheld c.stopped (token_at (set b.rows t.iteration row) j)
          → length (Rattle.pipe_model.specs.Runs.TicketLogs.end_actions j (with_events b.ledger.log t.now (Finish t.iteration x ∷ [])))
          ≡ length (get_or (set traces t.iteration (get_or traces t.iteration [] ++ trace ∷ [])) j [])
      counted_keep j q = elim (cases_eq j t.iteration) [
        | inl s ↦ subst (λ m. length (Rattle.pipe_model.specs.Runs.TicketLogs.end_actions m
            (with_events b.ledger.log t.now (Finish t.iteration x ∷ []))) ≡ length
            (get_or (set traces t.iteration (get_or traces t.iteration [] ++ trace ∷ [])) m [])) (sym s)
            (counted_more b.ledger.log t.now (Finish t.iteration x) traces t.iteration trace (Ended x) within counted_here ends_here)
        | inr m ↦ ap length (end_actions-push j b.ledger.log (entry_of b.ledger.log t.now (Finish t.iteration x))
            ∙ (ap (λ es. Rattle.pipe_model.specs.Runs.TicketLogs.end_actions j b.ledger.log ++ es) (ends_not j m)
            ∙ append-nil (Rattle.pipe_model.specs.Runs.TicketLogs.end_actions j b.ledger.log)))
            ∙ (h.counted j (subst (IsUnheld c.stopped) (token_at_other b.rows t.iteration j row m) q)
            ∙ ap length (sym (get_or-set_other traces t.iteration j (get_or traces t.iteration [] ++ trace ∷ []) [] m)))
      ]

  -- a payload is out
  pub pool_room : length b.pool.home < b.pool.size
  pool_room = let a = alive_drop c.frames t.iteration f u out.token.running.is (ap alive_one out.token.running.runs) refl in
      let z = h.alive in omega (arith, a, z)

  -- what contracts see
  pub finish_view : book_state with_finish ≡ with_finished (book_state b) (fields_of t) (Finish t.iteration x) trace
  finish_view =
      let place : token_state_of row ≡ Spent = ap (λ o. token_state_by o (Completed x)) none in
      let places : map token_state_of (set b.rows t.iteration row) ≡ set (map token_state_of b.rows) t.iteration Spent =
      map-set token_state_of b.rows t.iteration row ∙ ap (set (map token_state_of b.rows) t.iteration) place in
      rw (traces_are, places) refl
