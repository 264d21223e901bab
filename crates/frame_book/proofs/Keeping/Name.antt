-- The naming of a next stage keeps the tables.
use Rattle.std.proofs.Common.{◌≡◌, ◌≢◌, ℕ, ℤ, zero, suc, pos, ◌+◌, ◌-◌, ◌^◌, ◌<◌, ◌≤◌, ◌<ℤ◌, ◌↔◌, max, List, [], ◌∷◌, ◌++◌, length, map}
use Rattle.std.proofs.Common.{set, get_or, refl, ap, sym, ◌∙◌, arith, subst, true, false, not, Some, None, inl, inr, append-nil}
use Rattle.std.proofs.Common.{append_assoc, eq-eqb, ne_eqb}
use Rattle.std.proofs.lemmas.Bool.{cases_eq}
use Rattle.std.proofs.lemmas.List.{map-set, map-append, length_push, length-map, get_or-set_same, get_or-set_other, length-set}
use Rattle.pipe_model.specs.declared.event.Event.{Event}
use Rattle.pipe_model.specs.declared.event.Event.TheVariants.{Advance}
use Rattle.pipe_model.specs.declared.node.Kind.{Kind}
use Rattle.pipe_model.specs.declared.node.Kind.TheVariants.{Zero}
use Rattle.pipe_model.specs.declared.ticket.Entry.{Entry}
use Rattle.pipe_model.specs.Runs.Allowed.{MayAdvance, LeftHasPassed, HasPassed, ClosesLoop, IsClosed}
use Rattle.pipe_model.specs.Pipelines.Behaviour.{Action, Accessed, Staged, Ended, Performs, behaviour_after_all, column_of, nodes_in}
use Rattle.pipe_model.specs.Pipelines.Behaviour.{node_of, trace_end}
use Rattle.pipe_model.specs.Races.Columns.{node_at, nodes_at}
use Rattle.pipe_model.specs.Runs.ControlRun.{ControlRunThen}
use Rattle.pipe_model.specs.Pipelines.Pipeline.{Pipeline}
use Rattle.pipe_model.specs.Language.Programs.{pipeline_of}
use Rattle.pipe_model.specs.Runs.RunLogs.{state_after}
use Rattle.pipe_model.specs.Orders.OrderMarks.{instance_marks}
use Rattle.pipe_model.specs.Orders.Starts.{starts_of}
use Rattle.pipe_model.specs.Runs.State.{State, Frame, frame_at, update_frame, with_action, next_state, own_columns, alive_in, alive_one}
use Rattle.pipe_model.specs.declared.status.Status.TheVariants.{Running, Pending}
use Rattle.pipe_model.specs.Language.SyntaxTree.{SyntaxTree, tree_of}
use Rattle.pipe_model.specs.Orders.TwoOrders.{right_first_log}
use Rattle.pipe_frame.specs.RunningTokens.{left_joined}
use Rattle.pipe_frame.specs.Ties.{Tie}
use Rattle.pipe_frame.specs.TokenFields.{fields_of}
use Rattle.pipe_frame.specs.declared.token.FrameToken.{FrameToken}
use Rattle.run_laws.proofs.ListOrders.StartsOfRuns.{IsStartSound, sound_step}
use Rattle.run_laws.proofs.RunStates.FrameMoves.{IsMove, moves_pending, frame_at_moved}
use Rattle.run_laws.proofs.RunStates.Frames.{frame_at_other}
use Rattle.run_laws.proofs.RunStates.GrowingColumns.{columns-action}
use Rattle.frame_book.specs.BookStates.{events_of, last_ticket, with_events, replies_at, actions_at, pipeline_in, Kept}
use Rattle.pipe_frame.specs.Replies.{replies_of, accessed}
use Rattle.frame_book.specs.Invariant.{IsBook, HasActions, MatchesFrame, actions_in, pending_nodes}
use Rattle.frame_rows.specs.RowsOfFrames.{IsRowOf, IsUnheld, HasTraceCount, token_at, no_marks}
use Rattle.frame_book.specs.KeptTokens.{IsKeptToken}
use Rattle.pipe_model.specs.Runs.Schedules.{running_in_frames, running_of_status}
use Rattle.frame_rows.specs.IterationRows.{IterationRow, row_at, suspended_row}
use Rattle.frame_book.specs.CallEffects.{identities_of_orders, with_named}
use Rattle.frame_book.specs.Tables.{Tables, book_state, token_state_of}
use Rattle.frame_book.specs.TicketLog.{Ledger}
use Rattle.frame_book.specs.GivenTokens.{IsOutOf, IsPayloadOf}
use Rattle.frame_book.proofs.Actions.TraceActions.{actions_more, actions_other, counted_more}
use Rattle.frame_book.proofs.BookLogs.AtEvents.{after_event}
use Rattle.frame_book.proofs.Actions.LegalActions.{performs_split, legal_after, offered_stage, no_end_accessed, last_number}
use Rattle.frame_book.proofs.Actions.LegalActions.{last_number_accessed, last_number_is}
use Rattle.frame_book.proofs.BookLogs.LogEntries.{rise_with, last_ticket_with, length_with, entry_of, end_actions-push}
use Rattle.frame_book.proofs.Keeping.LeaveReady.{out_row, sized_set}
use Rattle.frame_rows.proofs.FrameRows.{row_of_frame, row_at_within}
use Rattle.frame_rows.proofs.ChangedRows.{rows_set, token_at_set, token_at_other, map_set_same, map_at, total_set_same}

-- a running instance that ends leaves one fewer running
pub running_set : (fs : List Frame) (i : ℕ) (f : Frame) (u : Frame → Frame) → frame_at fs i ≡ Some f → f.status ≡ Running
    → running_of_status (u f).status ≡ 0 → running_in_frames (update_frame fs i u) + 1 ≡ running_in_frames fs
running_set [] i f u e r z = absurd (cc)
running_set (x ∷ fs) zero f u e r z =
    let s : x ≡ f = cc in
    let a : running_of_status (u x).status ≡ 0 = ap (λ y. running_of_status (u y).status) s ∙ z in
    let b : running_of_status x.status ≡ 1 = ap (λ y. running_of_status y.status) s ∙ ap running_of_status r in
    omega (arith, a, b)
running_set (x ∷ fs) (suc i) f u e r z = let h = running_set fs i f u e r z in omega (arith, h)

-- an iteration that goes on stays alive
pub alive_set : (fs : List Frame) (i : ℕ) (f : Frame) (u : Frame → Frame) → frame_at fs i ≡ Some f
    → alive_one (u f).status ≡ alive_one f.status → alive_in (update_frame fs i u) ≡ alive_in fs
alive_set [] i f u e z = absurd (cc)
alive_set (x ∷ fs) zero f u e z = let s : x ≡ f = cc in let a : alive_one (u x).status ≡ alive_one x.status =
    subst (λ y. alive_one (u y).status ≡ alive_one y.status) (sym s) z in omega (arith, a)
alive_set (x ∷ fs) (suc i) f u e z = ap (λ n. alive_one x.status + n) (alive_set fs i f u e z)

-- the instances that actions name, with one more
nodes_named : (xs : List Action) (tr : List Entry) (k : Kind) (n : ℤ) → nodes_in (xs ++ (accessed tr ++ Staged k n ∷ [])) ≡ nodes_in xs
    ++ node_of k n ∷ []
nodes_named [] [] k n = refl
nodes_named [] (t ∷ tr) k n = nodes_named [] tr k n
nodes_named (Accessed a ∷ xs) tr k n = nodes_named xs tr k n
nodes_named (Staged j m ∷ xs) tr k n = ap (λ l. node_of j m ∷ l) (nodes_named xs tr k n)
nodes_named (Ended e ∷ xs) tr k n = nodes_named xs tr k n

-- a named stage is no end
end_named : (xs : List Action) (tr : List Entry) (k : Kind) (n : ℤ) → trace_end xs ≡ None → trace_end
    (xs ++ (accessed tr ++ Staged k n ∷ [])) ≡ None
end_named [] [] k n e = refl
end_named [] (t ∷ tr) k n e = end_named [] tr k n e
end_named (Accessed a ∷ xs) tr k n e = end_named xs tr k n e
end_named (Staged j m ∷ xs) tr k n e = end_named xs tr k n e
end_named (Ended f ∷ xs) tr k n e = absurd (let q : Some f ≡ None = e in cc)

-- an event that moves a running instance to a status that closes nothing closes no loop
pub closed_moved : (fs : List Frame) (i : ℕ) (f : Frame) (u : Frame → Frame) → frame_at fs i ≡ Some f → (ClosesLoop f.status f.nodes → ⊥)
    → (ClosesLoop (u f).status (u f).nodes → ⊥) → IsClosed fs ↔ IsClosed (update_frame fs i u)
closed_moved fs i f u e a b = (
  (λ q. elim (cases_eq q.iteration i) [
    | inl s ↦ (
        let e' : frame_at fs i ≡ Some q.frame = subst (λ m. frame_at fs m ≡ Some q.frame) s q.is in
        let z : q.frame ≡ f = (let y : Some q.frame ≡ Some f = sym e' ∙ e in cc) in
        absurd (a (subst (λ (g : Frame). ClosesLoop g.status g.nodes) z q.closes)))
    | inr m ↦ record { iteration = q.iteration; frame = q.frame; is = frame_at_other fs i q.iteration u m ∙ q.is; closes = q.closes }
  ]),
  (λ q. elim (frame_at_moved fs i q.iteration f u q.frame e q.is) [
    | inl here ↦ absurd (b (subst (λ (g : Frame). ClosesLoop g.status g.nodes) here.1 q.closes))
    | inr there ↦ record { iteration = q.iteration; frame = q.frame; is = there.1; closes = q.closes }
  ]),
)

-- what the left neighbour has passed it has passed after an event too
pub left_passed_moved : (fs : List Frame) (i : ℕ) (f : Frame) (u : Frame → Frame) → frame_at fs i ≡ Some f → IsMove fs i f (u f)
    → (j : ℕ) (m : ℤ) → LeftHasPassed fs j m → LeftHasPassed (update_frame fs i u) j m
left_passed_moved fs i f u e w zero m l = tt
left_passed_moved fs i f u e w (suc j) m l = λ g is. elim (frame_at_moved fs i j f u g e is) [
  | inl here ↦ (
      let old = l f (subst (λ q. frame_at fs q ≡ Some f) (sym here.0) e) in
      subst (λ (y : Frame). HasPassed y.status y.nodes m) (sym here.1) (w.passes m old))
  | inr there ↦ l g there.1
]

module _ {M : Type 0} (Whole : SyntaxTree → M → Type 0) (ReadyAt : SyntaxTree → List ℤ → M → ℕ → List (List ℤ) → Type 0) (tie : M → Tie)
    (b : Tables M) (t : FrameToken M) (r : IterationRow M) (k : Kind) (n : ℤ) (trace : List Entry)
    (h : IsBook Whole ReadyAt tie b) (at : row_at b.rows t.iteration ≡ Some r)
    (going : (state_after (events_of b.ledger.log)).stopped ≡ false)
    (out : IsOutOf (book_state b) (fields_of t))
    (performs : Performs ((pipeline_in (book_state b)).behaviour t.iteration)
    (actions_at (book_state b) t.iteration ++ (accessed trace ++ Staged k n ∷ [])))
    (pay : IsPayloadOf ReadyAt tie (book_state b) t.iteration (replies_at (book_state b) t.iteration ++ replies_of trace ∷ []) t.payload)
  where
    -- the state before
    abbrev pub c : State
    c = state_after (events_of b.ledger.log)

    abbrev pub traces : List (List (List Entry))
    traces = map (λ (z : IterationRow M). z.traces) b.rows

    abbrev pub acts : List Action
    acts = actions_in b.ledger.log traces t.iteration

    abbrev pub p : Pipeline
    p = pipeline_of (tree_of b.program) b.input

    abbrev pub u : Frame → Frame
    u = with_action (Staged k n) (Pending k n)

    -- the token as it is kept
    abbrev pub kept : FrameToken M
    kept = record t { now = 1 + max (last_ticket b.ledger.log) t.now }

    abbrev pub row : IterationRow M
    row = suspended_row trace k n kept r

    abbrev pub with_name : Tables M
    with_name = record b {
      ledger = record { log = with_events b.ledger.log t.now (Advance t.iteration k n ∷ []); room = b.ledger.room };
      rows = set b.rows t.iteration row;
    }

    -- tables with its parts are these tables
    pub named_tables : {y' : IterationRow M} {ledger' : Ledger} {now' : ℕ} {n' : ℤ}
        → y' ≡ suspended_row trace k n' (record t { now = now' }) r
        → ledger' ≡ record { log = with_events b.ledger.log t.now (Advance t.iteration k n' ∷ []); room = b.ledger.room }
        → now' ≡ 1 + max (last_ticket b.ledger.log) t.now → n' ≡ n
        → record b { ledger = ledger'; rows = set b.rows t.iteration y' } ≡ with_name
    named_tables ey el et en = rw (ey, el, et, en) refl

    abbrev pub f : Frame
    f = out.token.running.frame

    matches : MatchesFrame f acts
    matches = h.actions.matches t.iteration f out.token.running.is

    no_end : trace_end acts ≡ None
    no_end = matches.end ∙ ap Rattle.pipe_model.specs.Runs.State.end_of_status out.token.running.runs

    nodes_are : column_of acts ≡ f.nodes
    nodes_are = matches.nodes ∙ (ap (λ w. f.nodes ++ pending_nodes w) out.token.running.runs ∙ append-nil f.nodes)

    -- the control part allows the event
    pub may : MayAdvance c t.iteration k n
    may =
        let q = performs_split (p.behaviour t.iteration) (acts ++ accessed trace) (Staged k n ∷ [])
        (subst (Performs (p.behaviour t.iteration)) (sym (append_assoc acts (accessed trace) (Staged k n ∷ []))) performs) in
        let l = legal_after true (pos 0) (p.behaviour t.iteration) (acts ++ accessed trace) (h.sized.planned.proper.legal t.iteration) q.0
        (no_end_accessed acts trace no_end) in
        let o = offered_stage _ _ (behaviour_after_all (p.behaviour t.iteration) (acts ++ accessed trace)) k n l q.1.0 in
        let e : last_number (pos 0) (acts ++ accessed trace) ≡ (node_at f.nodes (length f.nodes - 1)).number =
        last_number_accessed (pos 0) acts trace ∙ (last_number_is Zero (pos 0) acts ∙ ap (λ ns. (node_at ns (length ns - 1)).number)
        nodes_are) in
        record { running = out.token.running; kind = o.0; above = subst (λ z. z <ℤ n) e o.1 }

    -- the columns stay
    columns_stay : own_columns (next_state c (Advance t.iteration k n)) ≡ own_columns c
    columns_stay = columns-action c.frames t.iteration (Staged k n) (Pending k n)

    traces_are : map (λ (z : IterationRow M). z.traces) (set b.rows t.iteration row) ≡ set traces t.iteration
        (get_or traces t.iteration [] ++ trace ∷ [])
    traces_are = map-set (λ (z : IterationRow M). z.traces) b.rows t.iteration row ∙ ap (λ ts. set traces t.iteration (ts ++ trace ∷ []))
        (sym (map_at (λ (z : IterationRow M). z.traces) b.rows t.iteration r [] at))

    marks_are : map (λ (z : IterationRow M). z.marks) (set b.rows t.iteration row) ≡ map (λ (z : IterationRow M). z.marks) b.rows
    marks_are = map_set_same (λ z. z.marks) b.rows t.iteration r row at refl

    none : r.token ≡ None
    none = out_row b.rows t.iteration r at out.out

    counted_here : length (Rattle.pipe_model.specs.Runs.TicketLogs.end_actions t.iteration b.ledger.log) ≡ length
        (get_or traces t.iteration [])
    counted_here = h.counted t.iteration (inl going)

    within : t.iteration < length traces
    within = let l = row_at_within b.rows t.iteration r at in let e = length-map b.rows (λ (z : IterationRow M). z.traces) in
        omega (arith, l, e)

    -- the row matches the frame
    row_matches : IsRowOf (not c.stopped) f r
    row_matches =
        let old = row_of_frame (not c.stopped) c.frames b.rows t.iteration f h.rows.each out.token.running.is in
        let same : old.row ≡ r = (let z : Some old.row ≡ Some r = sym old.is ∙ at in cc) in
        subst (IsRowOf (not c.stopped) f) same old.matches

    new_row_matches : IsRowOf (not c.stopped) (u f) row
    new_row_matches = record {
      numbers = row_matches.numbers;
      status = refl;
      marks = row_matches.marks;
      fits = row_matches.fits;
      traces = λ q. (
          let old : suc (length r.traces) ≡ length f.nodes = subst (λ w. HasTraceCount w (length r.traces) (length f.nodes))
          out.token.running.runs (row_matches.traces (inr none)) in
          let w = length_push r.traces trace in
          omega (arith, old, w));
      home = λ q. (kept, refl);
    }

    move : IsMove c.frames t.iteration f (u f)
    unfolding may
    move = moves_pending c.frames t.iteration f (Staged k n) k n out.token.running.runs may.above

    ends_here : Rattle.pipe_model.specs.Runs.TicketLogs.end_action t.iteration (Advance t.iteration k n)
        (entry_of b.ledger.log t.now (Advance t.iteration k n)).ticket
        ≡ record { ticket = (entry_of b.ledger.log t.now (Advance t.iteration k n)).ticket; action = Staged k n } ∷ []
    ends_here = rw (eq-eqb t.iteration t.iteration refl) refl

    ends_not : (j : ℕ) → j ≢ t.iteration → Rattle.pipe_model.specs.Runs.TicketLogs.end_action j (Advance t.iteration k n)
        (entry_of b.ledger.log t.now (Advance t.iteration k n)).ticket ≡ []
    ends_not j m = rw (ne_eqb t.iteration j (λ e. m (sym e))) refl

    -- what the iterations have done then
    here_is : actions_in (with_events b.ledger.log t.now (Advance t.iteration k n ∷ []))
        (set traces t.iteration (get_or traces t.iteration [] ++ trace ∷ [])) t.iteration ≡ acts ++ (accessed trace ++ Staged k n ∷ [])
    here_is = actions_more b.ledger.log t.now (Advance t.iteration k n) traces t.iteration trace (Staged k n) within counted_here ends_here

    other_is : (j : ℕ) → j ≢ t.iteration → actions_in (with_events b.ledger.log t.now (Advance t.iteration k n ∷ []))
        (set traces t.iteration (get_or traces t.iteration [] ++ trace ∷ [])) j ≡ actions_in b.ledger.log traces j
    other_is j m = actions_other b.ledger.log t.now (Advance t.iteration k n) traces t.iteration trace
        (Staged k n) within counted_here ends_here j m (ends_not j m)

    actions_keep : HasActions p (with_events b.ledger.log t.now (Advance t.iteration k n ∷ []))
        (set traces t.iteration (get_or traces t.iteration [] ++ trace ∷ [])) (next_state c (Advance t.iteration k n))
    actions_keep = record {
      performs = λ j. elim (cases_eq j t.iteration) [
        | inl s ↦ subst (λ m. Performs (p.behaviour m) (actions_in (with_events b.ledger.log t.now (Advance t.iteration k n ∷ []))
            (set traces t.iteration (get_or traces t.iteration [] ++ trace ∷ [])) m)) (sym s)
            (subst (Performs (p.behaviour t.iteration)) (sym here_is) performs)
        | inr m ↦ subst (Performs (p.behaviour j)) (sym (other_is j m)) (h.actions.performs j)
      ];
      matches = λ j g e. elim (frame_at_moved c.frames t.iteration j f u g out.token.running.is e) [
        | inl here ↦ subst (λ m. MatchesFrame g (actions_in (with_events b.ledger.log t.now (Advance t.iteration k n ∷ []))
            (set traces t.iteration (get_or traces t.iteration [] ++ trace ∷ [])) m)) (sym here.0)
            (subst (λ (y : Frame). MatchesFrame y (actions_in (with_events b.ledger.log t.now (Advance t.iteration k n ∷ []))
            (set traces t.iteration (get_or traces t.iteration [] ++ trace ∷ [])) t.iteration)) (sym here.1)
            (subst (MatchesFrame (u f)) (sym here_is) (record {
              nodes = ap (λ l. node_of Zero (pos 0) ∷ l) (nodes_named acts trace k n) ∙ ap (λ l. l ++ node_of k n ∷ []) nodes_are;
              end = end_named acts trace k n no_end;
            })))
        | inr there ↦ subst (MatchesFrame g) (sym (other_is j there.0)) (h.actions.matches j g there.1)
      ];
    }

    -- the token that is kept
    kept_keeps : IsKeptToken (ReadyAt (tree_of b.program) b.input) tie (identities_of_orders b.orders)
        (set traces t.iteration (get_or traces t.iteration [] ++ trace ∷ [])) (starts_of (events_of b.ledger.log))
        (next_state c (Advance t.iteration k n)) t.iteration (u f) kept
    kept_keeps = record {
      iteration = refl;
      index = out.token.index;
      joined = out.token.joined ∙ ap (λ cols. left_joined cols t.iteration t.index) (sym columns_stay);
      folded = λ m q. left_passed_moved c.frames t.iteration f u out.token.running.is move t.iteration m (out.token.folded m q);
      marks = λ e. absurd (let q : Pending k n ≡ Running = e in cc);
      knows = λ e. absurd (let q : Pending k n ≡ Running = e in cc);
      belongs = pay.belongs;
      ready = subst (ReadyAt (tree_of b.program) b.input t.payload t.iteration)
          (sym (ap (map replies_of) (get_or-set_same traces t.iteration (get_or traces t.iteration [] ++ trace ∷ []) [] within)
          ∙ map-append replies_of (get_or traces t.iteration []) (trace ∷ []))) pay.ready;
    }

    -- another token that is kept
    other_keeps : (j : ℕ) (g : Frame) (t' : FrameToken M) → j ≢ t.iteration → IsKeptToken (ReadyAt (tree_of b.program) b.input) tie
        (identities_of_orders b.orders) traces (starts_of (events_of b.ledger.log)) c j g t'
        → IsKeptToken (ReadyAt (tree_of b.program) b.input) tie (identities_of_orders b.orders)
        (set traces t.iteration (get_or traces t.iteration [] ++ trace ∷ [])) (starts_of (events_of b.ledger.log))
        (next_state c (Advance t.iteration k n)) j g t'
    other_keeps j g t' m q = record {
      iteration = q.iteration;
      index = q.index;
      joined = q.joined ∙ ap (λ cols. left_joined cols j t'.index) (sym columns_stay);
      folded = λ a x. left_passed_moved c.frames t.iteration f u out.token.running.is move j a (q.folded a x);
      marks = λ e. q.marks e ∙ ap (λ cols. instance_marks cols (starts_of (events_of b.ledger.log)) j t'.index) (sym columns_stay);
      knows = q.knows;
      belongs = q.belongs;
      ready = subst (ReadyAt (tree_of b.program) b.input t'.payload j)
          (sym (ap (map replies_of) (get_or-set_other traces t.iteration j (get_or traces t.iteration [] ++ trace ∷ []) [] m))) q.ready;
    }

    pub name_keeps : IsBook Whole ReadyAt tie with_name
    name_keeps =
        let log = b.ledger.log in
        let i = t.iteration in
        let e : Event = Advance i k n in
        let starts = starts_of (events_of log) in
        let long = length_with log t.now e in
        let last = h.last in
        let l = row_at_within b.rows i r at in
        after_event Whole ReadyAt tie with_name log t.now e starts refl (append-nil starts) record {
          sized = sized_set _ b.rows b.spare i r row _ _ _ at refl h.sized;
          logged = record {
            run = ControlRunThen h.logged.run e refl going may;
            sound = subst (IsStartSound (next_state c e).frames) (append-nil starts) (sound_step b.limit c e starts may h.logged.sound);
            entries = (
                let w = length_push (events_of log) e in
                let q = running_set c.frames i f u out.token.running.is out.token.running.runs refl in
                let z = h.logged.entries in
                omega (arith, w, q, z));
          };
          rows = record {
            each = rows_set (not c.stopped) c.frames b.rows i f u row h.rows.each out.token.running.is new_row_matches;
            marks = subst (λ cols. (j q : ℕ) → q < length (nodes_at cols j)
                → get_or (get_or (map (λ (z : IterationRow M). z.marks) (set b.rows i row)) j []) q no_marks ≡ instance_marks cols starts j
                q) (sym columns_stay)
                (λ j q w. ap (λ ms. get_or (get_or ms j []) q no_marks) marks_are ∙ h.rows.marks j q w);
            started = h.rows.started ∙ sym (total_set_same (λ z. length z.numbers) b.rows i r row at refl);
          };
          actions = subst (λ ts. HasActions p (with_events log t.now (e ∷ [])) ts (next_state c e)) (sym traces_are) actions_keep;
          counted = λ j q. subst (λ ts. length (Rattle.pipe_model.specs.Runs.TicketLogs.end_actions j (with_events log t.now (e ∷ [])))
              ≡ length (get_or ts j [])) (sym traces_are) (counted_keep j q);
          tokens = record {
            tokens = λ go j g t' is q. subst (λ ts. IsKeptToken (ReadyAt (tree_of b.program) b.input) tie
                (identities_of_orders b.orders) ts starts (next_state c e) j g t') (sym traces_are) (token_keeps j g t' is q);
            nows = λ j t' q. elim (cases_eq j i) [
              | inl s ↦ (
                  let a : Some kept ≡ Some t' = sym (token_at_set b.rows i row l) ∙ (ap (token_at (set b.rows i row)) (sym s) ∙ q) in
                  let z : kept ≡ t' = cc in
                  let o = out.now in
                  let w : kept.now ≤ 2 ^ 62 + length (with_events log t.now (e ∷ [])) = omega (arith, o, last, long) in
                  subst (λ (x : FrameToken M). x.now ≤ 2 ^ 62 + length (with_events log t.now (e ∷ []))) z w)
              | inr m ↦ (let a = h.tokens.nows j t' (sym (token_at_other b.rows i j row m) ∙ q) in omega (arith, a, long))
            ];
            at_home = h.tokens.at_home;
          };
          down = h.down;
          right = h.right ∙ ap (λ cols. right_first_log cols starts) (sym columns_stay);
          stopped = h.stopped;
          closed = (let q = closed_moved c.frames i f u out.token.running.is
              (λ x. subst (λ w. ClosesLoop w f.nodes) out.token.running.runs x) (λ x. x) in
              ((λ x. q.0 (h.closed.0 x)), (λ x. h.closed.1 (q.1 x))));
          alive = (let a = alive_set c.frames i f u out.token.running.is (sym (ap alive_one out.token.running.runs)) in let z = h.alive in
              omega (arith, a, z));
          size = h.size;
          some = h.some;
          last = (let q = last_ticket_with log t.now e in let o = out.now in omega (arith, q, long, last, o));
          reads = (let z = h.reads in omega (arith, z, long));
          reserve = (let q = length-set b.rows i row in let z = h.reserve in omega (arith, q, z));
          rise = rise_with log t.now e h.rise;
        }
      where
        token_keeps : (j : ℕ) (g : Frame) (t' : FrameToken M) → frame_at (next_state c (Advance t.iteration k n)).frames j ≡ Some g
            → token_at (set b.rows t.iteration row) j ≡ Some t'
            → IsKeptToken (ReadyAt (tree_of b.program) b.input) tie (identities_of_orders b.orders)
            (set traces t.iteration (get_or traces t.iteration [] ++ trace ∷ [])) (starts_of (events_of b.ledger.log))
            (next_state c (Advance t.iteration k n)) j g t'
        token_keeps j g t' is q = elim (frame_at_moved c.frames t.iteration j f u g out.token.running.is is) [
          | inl here ↦ (
              let a : Some kept ≡ Some t' = sym (token_at_set b.rows t.iteration row (row_at_within b.rows t.iteration r at))
              ∙ (ap (token_at (set b.rows t.iteration row)) (sym here.0) ∙ q) in
              let z : kept ≡ t' = cc in
              subst (λ m. IsKeptToken (ReadyAt (tree_of b.program) b.input) tie (identities_of_orders b.orders)
              (set traces t.iteration (get_or traces t.iteration [] ++ trace ∷ [])) (starts_of (events_of b.ledger.log))
              (next_state c (Advance t.iteration k n)) m g t') (sym here.0)
              (subst (λ x. IsKeptToken (ReadyAt (tree_of b.program) b.input) tie (identities_of_orders b.orders)
              (set traces t.iteration (get_or traces t.iteration [] ++ trace ∷ [])) (starts_of (events_of b.ledger.log))
              (next_state c (Advance t.iteration k n)) t.iteration x t') (sym here.1)
              (subst (λ x. IsKeptToken (ReadyAt (tree_of b.program) b.input) tie (identities_of_orders b.orders)
              (set traces t.iteration (get_or traces t.iteration [] ++ trace ∷ [])) (starts_of (events_of b.ledger.log))
              (next_state c (Advance t.iteration k n)) t.iteration (u f) x) z kept_keeps)))
          | inr there ↦ other_keeps j g t' there.0 (h.tokens.tokens going j g t' there.1
              (sym (token_at_other b.rows t.iteration j row there.0) ∙ q))
        ]

        counted_keep : (j : ℕ) → IsUnheld c.stopped (token_at (set b.rows t.iteration row) j)
            → length (Rattle.pipe_model.specs.Runs.TicketLogs.end_actions j (with_events b.ledger.log t.now (Advance t.iteration k n ∷ [])))
            ≡ length (get_or (set traces t.iteration (get_or traces t.iteration [] ++ trace ∷ [])) j [])
        counted_keep j q = elim (cases_eq j t.iteration) [
          | inl s ↦ subst (λ m. length (Rattle.pipe_model.specs.Runs.TicketLogs.end_actions m
              (with_events b.ledger.log t.now (Advance t.iteration k n ∷ []))) ≡ length
              (get_or (set traces t.iteration (get_or traces t.iteration [] ++ trace ∷ [])) m [])) (sym s)
              (counted_more b.ledger.log t.now (Advance t.iteration k n) traces t.iteration trace
              (Staged k n) within counted_here ends_here)
          | inr m ↦ ap length (end_actions-push j b.ledger.log (entry_of b.ledger.log t.now (Advance t.iteration k n))
              ∙ (ap (λ es. Rattle.pipe_model.specs.Runs.TicketLogs.end_actions j b.ledger.log ++ es) (ends_not j m)
              ∙ append-nil (Rattle.pipe_model.specs.Runs.TicketLogs.end_actions j b.ledger.log)))
              ∙ (h.counted j (subst (IsUnheld c.stopped) (token_at_other b.rows t.iteration j row m) q)
              ∙ ap length (sym (get_or-set_other traces t.iteration j (get_or traces t.iteration [] ++ trace ∷ []) [] m)))
        ]

    -- what contracts see
    pub name_view : book_state with_name ≡ with_named (book_state b) (fields_of t) (Advance t.iteration k n) trace
    name_view =
        let places : map token_state_of (set b.rows t.iteration row) ≡ set (map token_state_of b.rows) t.iteration (Kept (fields_of kept)) =
        map-set token_state_of b.rows t.iteration row in
        rw (traces_are, places) refl
