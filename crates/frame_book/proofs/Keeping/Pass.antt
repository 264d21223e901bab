-- An instance ends, and its iteration enters the next stage at once: the tables between the two events.
use Rattle.std.proofs.Common.{◌≡◌, ℕ, ℤ, ◌+◌, ◌<◌, List, [], ◌∷◌, ◌++◌, length, set, get_or, refl, ap, sym, ◌∙◌, arith, subst}
use Rattle.std.proofs.Common.{Bool, cond, false, None, Some}
use Rattle.std.proofs.lemmas.List.{set-set}
use Rattle.pipe_model.specs.declared.event.Event.TheVariants.{Advance}
use Rattle.pipe_model.specs.declared.marks.Marks.{Marks}
use Rattle.pipe_model.specs.declared.node.Kind.{Kind}
use Rattle.pipe_model.specs.declared.node.Kind.TheVariants.{Wait}
use Rattle.pipe_model.specs.declared.status.Status.TheVariants.{Pending}
use Rattle.pipe_model.specs.declared.ticket.Entry.{Entry}
use Rattle.pipe_model.specs.Language.SyntaxTree.{SyntaxTree}
use Rattle.pipe_model.specs.Pipelines.Behaviour.{Performs, Staged}
use Rattle.pipe_model.specs.Runs.Allowed.{LeftHasPassed}
use Rattle.pipe_frame.specs.Replies.{accessed, replies_of}
use Rattle.pipe_frame.specs.Ties.{Tie}
use Rattle.pipe_frame.specs.TokenFields.{fields_of}
use Rattle.pipe_frame.specs.declared.token.FrameToken.{FrameToken}
use Rattle.frame_rows.specs.IterationRows.{IterationRow, row_at, suspended_row, with_instance, with_trace}
use Rattle.frame_rows.specs.Places.{HoldsRows, PlaceTable, place_of, with_place}
use Rattle.frame_rows.proofs.FrameRows.{row_at_within}
use Rattle.frame_rows.proofs.PlacedRows.{places_entered, places_same, row_at_set}
use Rattle.frame_book.specs.BookStates.{BookState, actions_at, left_of, pipeline_in, replies_at, state_of}
use Rattle.frame_book.specs.CallEffects.{with_entered, with_passed}
use Rattle.frame_book.specs.GivenTokens.{IsOutOf, IsPayloadOf}
use Rattle.frame_book.specs.Invariant.{IsBook}
use Rattle.frame_book.specs.Tables.{Tables, book_state}
use Rattle.frame_book.proofs.BookLogs.LogEntries.{length_with}
use Rattle.frame_book.proofs.Conditions.AdvancedStates.{count_small, entered1, going1, may1, more_reads}
use Rattle.frame_book.proofs.Keeping.Enter.{Enters, named, rows}
use Rattle.frame_book.proofs.Keeping.LeaveReady.{out_row, out_row_read}
use Rattle.frame_book.proofs.Keeping.Name as naming
use Rattle.frame_book.proofs.Keeping.Performed.{performed}

-- an instance starts in a row that has changed otherwise
pub places_started : {M : Type 0} → (rows : List (IterationRow M)) (p q : PlaceTable) (i k : ℕ) (r changed again y : IterationRow M)
    (n : ℤ) (m : Marks) → row_at rows i ≡ Some r → changed.numbers ≡ r.numbers → changed.marks ≡ r.marks → changed.room ≡ r.room
    → again ≡ changed → y ≡ with_instance n m again → k ≡ length r.numbers → length r.numbers < r.room
    → q ≡ with_place (place_of p i k) n m p → HoldsRows rows p → HoldsRows (set (set rows i changed) i y) q
places_started rows p q i k r changed again y n m at en em er ea ey ek free eq h =
    let there = row_at_set rows i changed (row_at_within rows i r at) in
    let long = ap length en in
    let place : k ≡ length changed.numbers = omega (arith, ek, long) in
    let held = places_entered (set rows i changed) p i changed n m there (omega (arith, free, long, er))
    (places_same rows p i r changed changed at refl en em er h) in
    rw (ey, ea, eq, place) held

module _ {M : Type 0} {Whole : SyntaxTree → M → Type 0} {ReadyAt : SyntaxTree → List ℤ → M → ℕ → List (List ℤ) → Type 0} {tie : M → Tie}
    {b : Tables M} (h : IsBook Whole ReadyAt tie b) {v : BookState} (seen : book_state b ≡ v) (t : FrameToken M) (k : Kind) (n : ℤ)
    (trace : List Entry) (read : Bool) (going : (state_of v).stopped ≡ false) (out : IsOutOf v (fields_of t))
    (performs : Performs (left_of v t.iteration) (accessed trace ++ Staged k n ∷ []))
    (pay : IsPayloadOf ReadyAt tie v t.iteration (replies_at v t.iteration ++ replies_of trace ∷ []) t.payload)
    (free : k ≡ Wait → LeftHasPassed (state_of v).frames t.iteration n) {r : IterationRow M} (read_row : r ≡ get_or b.rows t.iteration r)
  where
    pub going_here : (state_of (book_state b)).stopped ≡ false
    going_here = subst (λ w. (state_of w).stopped ≡ false) (sym seen) going

    pub out_here : IsOutOf (book_state b) (fields_of t)
    out_here = subst (λ w. IsOutOf w (fields_of t)) (sym seen) out

    pub at : row_at b.rows t.iteration ≡ Some r
    at = out_row_read b.rows t.iteration r out_here.out read_row

    pub performs_here : Performs ((pipeline_in (book_state b)).behaviour t.iteration)
        (actions_at (book_state b) t.iteration ++ (accessed trace ++ Staged k n ∷ []))
    performs_here = performed Whole ReadyAt tie b t r h at out_here (accessed trace ++ Staged k n ∷ [])
        (subst (λ w. Performs (left_of w t.iteration) (accessed trace ++ Staged k n ∷ [])) (sym seen) performs)

    pub pay_here : IsPayloadOf ReadyAt tie (book_state b) t.iteration
        (replies_at (book_state b) t.iteration ++ replies_of trace ∷ []) t.payload
    pay_here = subst (λ w. IsPayloadOf ReadyAt tie w t.iteration (replies_at w t.iteration ++ replies_of trace ∷ []) t.payload) (sym seen)
        pay

    -- the token as it would be kept
    abbrev pub kept : FrameToken M
    kept = naming.kept Whole ReadyAt tie b t r k n trace h at going_here out_here performs_here pay_here

    abbrev pub row : IterationRow M
    row = suspended_row trace k n kept r

    -- the tables with the token kept, and the left counter counted
    abbrev pub between : Tables M
    between = record (naming.with_name Whole ReadyAt tie b t r k n trace h at going_here out_here performs_here pay_here) {
      reads = b.reads + cond read 1 0;
    }

    pub keeps : IsBook Whole ReadyAt tie between
    keeps =
        let long = length_with b.ledger.log t.now (Advance t.iteration k n) in
        let few = h.reads in
        let one = count_small read in
        more_reads (naming.name_keeps Whole ReadyAt tie b t r k n trace h at going_here out_here performs_here pay_here)
        (b.reads + cond read 1 0) (omega (arith, long, few, one))

    abbrev pub entry : Enters between t.iteration row
    entry = named keeps {r = row} record {
      going = going1 k n trace t.folded going_here out_here;
      may = may1 k n trace t.folded going_here out_here
          (λ w. subst (λ z. LeftHasPassed (state_of z).frames t.iteration n) (sym seen) (free w));
      at_row = row_at_set b.rows t.iteration row (row_at_within b.rows t.iteration r at);
    } refl

    -- the row while the stage is entered
    pub row_between : with_trace trace (Pending k n) r ≡ record row { token = None }
    row_between = ap (λ o. record r { traces = r.traces ++ trace ∷ []; status = Pending k n; token = o })
        (out_row b.rows t.iteration r at out_here.out)

    -- the rows while it is entered
    pub rows_between : {y : IterationRow M} → y ≡ with_trace trace (Pending k n) r → set b.rows t.iteration y ≡ rows keeps entry
    rows_between e = ap (set b.rows t.iteration) (e ∙ row_between) ∙ sym (set-set b.rows t.iteration row (record row { token = None }))

    -- what contracts see once it is entered
    pub passed_view : with_entered (book_state between) t.iteration ≡ with_passed v (fields_of t) k n trace read
    passed_view =
        ap (λ (w : BookState). with_entered (record w { reads = b.reads + cond read 1 0 }) t.iteration)
        (naming.name_view Whole ReadyAt tie b t r k n trace h at going_here out_here performs_here pay_here)
        ∙ (entered1 k n trace t.folded going_here out_here (cond read 1 0)
        ∙ ap (λ (w : BookState). with_passed w (fields_of t) k n trace read) seen)
