-- A stopped book takes back a token whose instance has not ended, and its tables stay those of a book.
use Rattle.std.proofs.Common.{◌≡◌, ◌≢◌, ℕ, ℤ, zero, suc, ◌+◌, ◌^◌, ◌<◌, ◌≤◌, List, [], ◌∷◌, ◌++◌, length, map, set, get_or, refl, ap, ap₂}
use Rattle.std.proofs.Common.{sym, ◌∙◌, arith, subst, Bool, true, false, not, Option, Some, None, inl, inr, append_assoc}
use Rattle.std.proofs.lemmas.Bool.{cases_eq}
use Rattle.std.proofs.lemmas.List.{map-set, map-append, length-map, get_or-set_same, get_or-set_other, get_or_append_left, get_or_push}
use Rattle.std.proofs.lemmas.List.{get_or_past, length-set}
use Rattle.pipe_model.specs.declared.ticket.Entry.{Entry}
use Rattle.pipe_model.specs.Pipelines.Behaviour.{Action, Accessed, Staged, Ended, Performs, nodes_in, column_of, trace_end}
use Rattle.pipe_model.specs.Runs.RunLogs.{state_after}
use Rattle.pipe_model.specs.Runs.State.{State, Frame, frame_at}
use Rattle.pipe_model.specs.declared.status.Status.TheVariants.{Running}
use Rattle.pipe_model.specs.Language.SyntaxTree.{SyntaxTree, tree_of}
use Rattle.pipe_model.specs.Language.Programs.{pipeline_of}
use Rattle.pipe_model.specs.Runs.TicketLogs.{TimedAction, laid_traces, end_actions}
use Rattle.pipe_frame.specs.Ties.{Tie}
use Rattle.pipe_frame.specs.TokenFields.{fields_of}
use Rattle.pipe_frame.specs.declared.token.FrameToken.{FrameToken}
use Rattle.frame_book.specs.BookStates.{events_of, actions_at, pipeline_in, made, timed_access, Kept}
use Rattle.frame_book.specs.Invariant.{IsBook, HasActions, MatchesFrame, actions_in}
use Rattle.frame_rows.specs.RowsOfFrames.{IsRowOf, IsUnheld, TokenFits, token_at, no_marks}
use Rattle.frame_rows.specs.IterationRows.{IterationRow, row_at}
use Rattle.frame_book.specs.CallEffects.{with_held}
use Rattle.frame_book.specs.Tables.{Tables, book_state, token_state_of}
use Rattle.frame_book.specs.GivenTokens.{IsOutOf}
use Rattle.pipe_frame.specs.Replies.{accessed}
use Rattle.frame_book.proofs.Actions.TraceActions.{laid_same, untimed}
use Rattle.frame_book.proofs.Keeping.LeaveReady.{out_row, sized_set}
use Rattle.frame_rows.proofs.FrameRows.{row_of_frame, row_at_within}
use Rattle.frame_rows.proofs.ChangedRows.{rows_set_same, token_at_set, token_at_other, map_set_same, map_at, total_set_same}

-- the traces of ended instances, and one without an end
laid_held : (made made' : ℕ → List TimedAction) (k : ℕ) (ends : List TimedAction) (n : ℕ) → k + length ends ≡ n
    → ((q : ℕ) → q < n → made' q ≡ made q) → made n ≡ [] → laid_traces made' k ends ≡ laid_traces made k ends ++ made' n
laid_held made made' k [] n e same none =
    let s : k ≡ n = omega (arith, e) in
    ap made' s ∙ sym (ap (λ l. l ++ made' n) (ap made s ∙ none))
laid_held made made' k (y ∷ ends) n e same none =
    let l : k < n = omega (arith, e) in
    let q : k + 1 + length ends ≡ n = omega (arith, e) in
    ap₂ (λ a b. a ++ y ∷ b) (same k l) (laid_held made made' (k + 1) ends n q same none)
    ∙ sym (append_assoc (made k) (y ∷ laid_traces made (k + 1) ends) (made' n))

-- accesses at the end of a list of actions add no stage to it
nodes_accessed : (xs : List Action) (tr : List Entry) → nodes_in (xs ++ accessed tr) ≡ nodes_in xs
nodes_accessed [] [] = refl
nodes_accessed [] (t ∷ tr) = nodes_accessed [] tr
nodes_accessed (Accessed a ∷ xs) tr = nodes_accessed xs tr
nodes_accessed (Staged j m ∷ xs) tr = ap (λ l. Rattle.pipe_model.specs.Pipelines.Behaviour.node_of j m ∷ l) (nodes_accessed xs tr)
nodes_accessed (Ended f ∷ xs) tr = nodes_accessed xs tr

-- nor an end of the iteration
end_accessed : (xs : List Action) (tr : List Entry) → trace_end (xs ++ accessed tr) ≡ trace_end xs
end_accessed [] [] = refl
end_accessed [] (t ∷ tr) = end_accessed [] tr
end_accessed (Accessed a ∷ xs) tr = end_accessed xs tr
end_accessed (Staged j m ∷ xs) tr = end_accessed xs tr
end_accessed (Ended f ∷ xs) tr = refl

module _ {M : Type 0} (Whole : SyntaxTree → M → Type 0) (ReadyAt : SyntaxTree → List ℤ → M → ℕ → List (List ℤ) → Type 0) (tie : M → Tie)
    (b : Tables M) (t : FrameToken M) (r : IterationRow M) (trace : List Entry)
    (h : IsBook Whole ReadyAt tie b) (at : row_at b.rows t.iteration ≡ Some r)
    (halted : (state_after (events_of b.ledger.log)).stopped ≡ true)
    (out : IsOutOf (book_state b) (fields_of t))
    (performs : Performs ((pipeline_in (book_state b)).behaviour t.iteration) (actions_at (book_state b) t.iteration ++ accessed trace))
  where
    abbrev pub c : State
    c = state_after (events_of b.ledger.log)

    abbrev pub traces : List (List (List Entry))
    traces = map (λ (z : IterationRow M). z.traces) b.rows

    abbrev pub longer : List (List (List Entry))
    longer = set traces t.iteration (get_or traces t.iteration [] ++ trace ∷ [])

    abbrev pub f : Frame
    f = out.token.running.frame

    abbrev pub row : IterationRow M
    row = record r { traces = r.traces ++ trace ∷ []; status = Running; token = Some t }

    abbrev pub tables_held : Tables M
    tables_held = record b { rows = set b.rows t.iteration row }

    none : r.token ≡ None
    none = out_row b.rows t.iteration r at out.out

    within : t.iteration < length traces
    within = let l = row_at_within b.rows t.iteration r at in let e = length-map b.rows (λ (z : IterationRow M). z.traces) in
        omega (arith, l, e)

    counted_here : length (end_actions t.iteration b.ledger.log) ≡ length (get_or traces t.iteration [])
    counted_here = h.counted t.iteration (inr (Rattle.frame_rows.proofs.FrameRows.token_of_row b.rows t.iteration r at ∙ none))

    traces_are : map (λ (z : IterationRow M). z.traces) (set b.rows t.iteration row) ≡ longer
    traces_are = map-set (λ (z : IterationRow M). z.traces) b.rows t.iteration row ∙ ap (λ ts. set traces t.iteration (ts ++ trace ∷ []))
        (sym (map_at (λ (z : IterationRow M). z.traces) b.rows t.iteration r [] at))

    here_is : actions_in b.ledger.log longer t.iteration ≡ actions_in b.ledger.log traces t.iteration ++ accessed trace
    here_is =
        let n : ℕ = length (get_or traces t.iteration []) in
        let same : get_or longer t.iteration [] ≡ get_or traces t.iteration [] ++ trace ∷ [] =
        get_or-set_same traces t.iteration (get_or traces t.iteration [] ++ trace ∷ []) [] within in
        let on : (q : ℕ) → made longer t.iteration q ≡ map timed_access (get_or (get_or traces t.iteration [] ++ trace ∷ []) q []) =
        λ q. ap (λ ts. map timed_access (get_or ts q [])) same in
        let here : made longer t.iteration n ≡ map timed_access trace = on n ∙ ap (map timed_access)
        (get_or_push (get_or traces t.iteration []) trace [] n refl) in
        let laid = laid_held (made traces t.iteration) (made longer t.iteration) 0 (end_actions t.iteration b.ledger.log) n
        (let q = counted_here in omega (arith, q))
        (λ q w. on q ∙ ap (map timed_access) (get_or_append_left (get_or traces t.iteration []) (trace ∷ []) [] q w))
        (ap (map timed_access) (get_or_past (get_or traces t.iteration []) n [] (omega arith))) in
        ap (map (λ (a : TimedAction). a.action)) laid ∙ (map-append (λ (a : TimedAction). a.action)
        (laid_traces (made traces t.iteration) 0 (end_actions t.iteration b.ledger.log)) (made longer t.iteration n)
        ∙ ap (λ ys. actions_in b.ledger.log traces t.iteration ++ ys) (ap (map (λ (a : TimedAction). a.action)) here ∙ untimed trace))

    other_is : (j : ℕ) → j ≢ t.iteration → actions_in b.ledger.log longer j ≡ actions_in b.ledger.log traces j
    other_is j m = ap (map (λ (a : TimedAction). a.action))
        (laid_same (made traces j) (made longer j) 0 (end_actions j b.ledger.log)
        (λ q. ap (λ ts. map timed_access (get_or ts q []))
        (get_or-set_other traces t.iteration j (get_or traces t.iteration [] ++ trace ∷ []) [] m)))

    going_not : c.stopped ≡ false → ⊥
    going_not e = (let q : true ≡ false = sym halted ∙ e in absurd (cc))

    row_matches : IsRowOf (not c.stopped) f r
    row_matches =
        let old = row_of_frame (not c.stopped) c.frames b.rows t.iteration f h.rows.each out.token.running.is in
        let same : old.row ≡ r = (let z : Some old.row ≡ Some r = sym old.is ∙ at in cc) in
        subst (IsRowOf (not c.stopped) f) same old.matches

    unheld_not : (s : Bool) → s ≡ true → IsUnheld s (Some t) → ⊥
    unheld_not s e (inl q) = (let z : true ≡ false = sym e ∙ q in absurd (cc))
    unheld_not s e (inr q) = absurd (cc)

    pub hold_keeps : IsBook Whole ReadyAt tie tables_held
    hold_keeps = record {
      sized = sized_set _ b.rows b.spare t.iteration r row _ _ _ at refl h.sized;
      logged = h.logged;
      rows = record {
        each = rows_set_same (not c.stopped) c.frames b.rows t.iteration f row h.rows.each out.token.running.is (record {
          numbers = row_matches.numbers;
          status = sym out.token.running.runs;
          marks = row_matches.marks;
          fits = row_matches.fits;
          traces = λ u. absurd (unheld_not (not (not c.stopped)) (ap (λ s. not (not s)) halted) u);
          home = λ e. subst (λ w. TokenFits w (Some t)) (sym out.token.running.runs) tt;
        });
        marks = λ j k l. ap (λ ms. get_or (get_or ms j []) k no_marks)
            (map_set_same (λ (z : IterationRow M). z.marks) b.rows t.iteration r row at refl) ∙ h.rows.marks j k l;
        started = h.rows.started ∙ sym (total_set_same (λ z. length z.numbers) b.rows t.iteration r row at refl);
      };
      actions = subst (λ ts. HasActions (pipeline_of (tree_of b.program) b.input) b.ledger.log ts c) (sym traces_are) record {
        performs = λ j. elim (cases_eq j t.iteration) [
          | inl s ↦ subst (λ m. Performs ((pipeline_of (tree_of b.program) b.input).behaviour m) (actions_in b.ledger.log longer m)) (sym s)
              (subst (Performs ((pipeline_of (tree_of b.program) b.input).behaviour t.iteration)) (sym here_is) performs)
          | inr m ↦ subst (Performs ((pipeline_of (tree_of b.program) b.input).behaviour j)) (sym (other_is j m)) (h.actions.performs j)
        ];
        matches = λ j g e. elim (cases_eq j t.iteration) [
          | inl s ↦ (
              let old = h.actions.matches t.iteration g (subst (λ m. frame_at c.frames m ≡ Some g) s e) in
              subst (λ m. MatchesFrame g (actions_in b.ledger.log longer m)) (sym s) (subst (MatchesFrame g) (sym here_is) (record {
                nodes = ap (λ l. Rattle.pipe_model.specs.Pipelines.Behaviour.node_of
                    Rattle.pipe_model.specs.declared.node.Kind.TheVariants.Zero (Rattle.std.proofs.Common.pos 0) ∷ l)
                    (nodes_accessed (actions_in b.ledger.log traces t.iteration) trace) ∙ old.nodes;
                end = end_accessed (actions_in b.ledger.log traces t.iteration) trace ∙ old.end;
              })))
          | inr m ↦ subst (MatchesFrame g) (sym (other_is j m)) (h.actions.matches j g e)
        ];
      };
      counted = λ j q. elim (cases_eq j t.iteration) [
        | inl s ↦ absurd (unheld_not c.stopped halted (subst (IsUnheld c.stopped)
            (ap (token_at (set b.rows t.iteration row)) s ∙ token_at_set b.rows t.iteration row (row_at_within b.rows t.iteration r at)) q))
        | inr m ↦ h.counted j (subst (IsUnheld c.stopped) (token_at_other b.rows t.iteration j row m) q)
            ∙ ap length (sym (ap (λ ts. get_or ts j []) traces_are ∙ get_or-set_other traces t.iteration j
            (get_or traces t.iteration [] ++ trace ∷ []) [] m))
      ];
      tokens = record {
        tokens = λ e. absurd (going_not e);
        nows = λ j t' q. elim (cases_eq j t.iteration) [
          | inl s ↦ (
              let a : Some t ≡ Some t' = sym (token_at_set b.rows t.iteration row (row_at_within b.rows t.iteration r at))
              ∙ (ap (token_at (set b.rows t.iteration row)) (sym s) ∙ q) in
              let z : t ≡ t' = cc in
              subst (λ (x : FrameToken M). x.now ≤ 2 ^ 62 + length b.ledger.log) z out.now)
          | inr m ↦ h.tokens.nows j t' (sym (token_at_other b.rows t.iteration j row m) ∙ q)
        ];
        at_home = h.tokens.at_home;
      };
      down = h.down;
      right = h.right;
      stopped = h.stopped;
      closed = h.closed;
      alive = h.alive;
      size = h.size;
      some = h.some;
      last = h.last;
      reads = h.reads;
      rise = h.rise;
      reserve = (let e = length-set b.rows t.iteration row in let z = h.reserve in omega (arith, e, z));
    }

    -- what contracts see
    pub hold_view : book_state tables_held ≡ with_held (book_state b) (fields_of t) trace
    hold_view =
        let places : map token_state_of (set b.rows t.iteration row) ≡ set (map token_state_of b.rows) t.iteration (Kept (fields_of t)) =
        map-set token_state_of b.rows t.iteration row in
        rw (traces_are, places) refl
