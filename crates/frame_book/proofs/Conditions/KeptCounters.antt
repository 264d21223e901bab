-- Whether a named stage may be entered at once, by the kept counter.
use Rattle.std.proofs.Common.{◌≡◌, ◌≢◌, ℕ, ℤ, zero, suc, ◌+◌, ◌≤◌, List, [], ◌∷◌, ◌++◌, length, max, refl, ap, ap₂, sym, ◌∙◌, arith}
use Rattle.std.proofs.Common.{subst, Bool, true, false, not, cond, Option, Some, None, append_assoc}
use Rattle.std.proofs.lemmas.Int.{ints}
use Rattle.dep_fold.specs.Folding.{FoldedPasses, folded_passes}
use Rattle.pipe_model.specs.declared.event.Event.{Event}
use Rattle.pipe_model.specs.declared.event.Event.TheVariants.{Advance}
use Rattle.pipe_model.specs.declared.node.Kind.{Kind}
use Rattle.pipe_model.specs.declared.node.Kind.TheVariants.{Zero, Wait, Continue}
use Rattle.pipe_model.specs.declared.stage.Counter.{Counter}
use Rattle.pipe_model.specs.declared.stage.Counter.TheVariants.{At, Ended}
use Rattle.pipe_model.specs.declared.ticket.BookEntry.{BookEntry}
use Rattle.pipe_model.specs.Runs.Allowed.{LeftHasPassed}
use Rattle.pipe_model.specs.Runs.StageEnds.{stage_end_events}
use Rattle.pipe_model.specs.Runs.State.{Frame, State, update_frame}
use Rattle.pipe_frame.specs.LeftCounters.{IsNotAhead, must_read_left, left_counter}
use Rattle.pipe_frame.specs.StageEndCases.{EntersAtOnce, MustWait}
use Rattle.run_laws.proofs.RunStates.Frames.{frame_at_other}
use Rattle.frame_book.specs.BookStates.{with_events, last_ticket, stamped}
use Rattle.frame_rows.specs.RowsOfFrames.{AreRows}
use Rattle.frame_rows.specs.IterationRows.{IterationRow, left_row_counter, CounterPasses, WaitsAt}
use Rattle.frame_rows.specs.NamedStages.{stage_end}
use Rattle.frame_book.proofs.BookLogs.LogEntries.{last_ticket_with, entry_of}
use Rattle.frame_rows.proofs.FrameRows.{left_passes, counter_same}

-- the left counter by rows and by frames
pub left_counter_same : {M : Type 0} → (going : Bool) (fs : List Frame) (rs : List (IterationRow M)) (i : ℕ) → AreRows going fs rs
    → left_row_counter rs i ≡ left_counter fs i
left_counter_same going fs rs zero h = refl
left_counter_same going [] [] (suc j) h = refl
left_counter_same going [] (r ∷ rs) (suc j) h = absurd h
left_counter_same going (f ∷ fs) [] (suc j) h = absurd h
left_counter_same going (f ∷ fs) (r ∷ rs) (suc zero) h = ap Some (counter_same going f r h.0)
left_counter_same going (f ∷ fs) (r ∷ rs) (suc (suc j)) h = left_counter_same going fs rs (suc j) h.1

-- who reads passes what a left counter passes
pub passes_option : (o : Option Counter) (n : ℤ) → FoldedPasses o n → CounterPasses o n
passes_option None n p = absurd p
passes_option (Some c) n p = p

-- the kept counter after a read is not ahead
pub not_ahead : {M : Type 0} → (going : Bool) (fs : List Frame) (rs : List (IterationRow M)) (i : ℕ) (read : Bool)
    (folded : Option Counter) → AreRows going fs rs → i ≤ length rs → IsNotAhead fs i folded
    → IsNotAhead fs i (cond read (left_row_counter rs i) folded)
not_ahead going fs rs i true folded h l a = λ n p. (left_passes going fs rs i n h l).0 (passes_option (left_row_counter rs i) n p)
not_ahead going fs rs i false folded h l a = a

-- the test of a kept counter
pub test_passes : (o : Option Counter) (n : ℤ) → folded_passes o n ≡ true → FoldedPasses o n
test_passes None n e = absurd (let q : false ≡ true = e in cc)
test_passes (Some (At m)) n e = grind (arith, ints)
test_passes (Some Ended) n e = tt

-- a left counter that is there passes as a kept one
pub passes_left : {M : Type 0} → (going : Bool) (fs : List Frame) (rs : List (IterationRow M)) (j : ℕ) (n : ℤ) → AreRows going fs rs
    → suc j ≤ length rs → CounterPasses (left_row_counter rs (suc j)) n → FoldedPasses (left_row_counter rs (suc j)) n
passes_left going fs [] j n h l p = absurd (omega (arith, l))
passes_left going [] (r ∷ rs) j n h l p = absurd h
passes_left going (f ∷ fs) (r ∷ rs) zero n h l p = p
passes_left going (f ∷ fs) (r ∷ rs) (suc j) n h l p = passes_left going fs rs j n h.1 (omega (arith, l)) p

module _ {M : Type 0} (going : Bool) (fs : List Frame) (rs : List (IterationRow M)) (i : ℕ) (kind : Kind) (n : ℤ) (read : Bool)
    (folded : Option Counter)
    (h : AreRows going fs rs) (l : i ≤ length rs) (a : IsNotAhead fs i folded) (is : read ≡ must_read_left i folded (stage_end kind n))
  where
    abbrev pub now : Option Counter
    now = cond read (left_row_counter rs i) folded

    -- if the kept counter lets it enter, the left neighbour has passed the stage
    pub lets : (WaitsAt kind i → FoldedPasses now n) → kind ≡ Wait → LeftHasPassed fs i n
    lets p w = by i refl
      where
        by : (k : ℕ) → i ≡ k → LeftHasPassed fs k n
        by zero e = tt
        by (suc j) e = subst (λ k. LeftHasPassed fs k n) e (not_ahead going fs rs i read folded h l a n (p (w, omega (arith, e))))

    -- and the other way round
    pub let_by : (kind ≡ Wait → LeftHasPassed fs i n) → WaitsAt kind i → FoldedPasses now n
    let_by p w = by read i refl refl
      where
        by : (t : Bool) (k : ℕ) → read ≡ t → i ≡ k → FoldedPasses (cond t (left_row_counter rs i) folded) n
        by t zero e s = absurd (let x = w.1 in omega (arith, x, s))
        by true (suc j) e s =
            let q = (left_passes going fs rs i n h l).1 (p w.0) in
            let q' : CounterPasses (left_row_counter rs (suc j)) n = subst (λ k. CounterPasses (left_row_counter rs k) n) s q in
            subst (λ k. FoldedPasses (left_row_counter rs k) n) (sym s) (passes_left going fs rs j n h (omega (arith, l, s)) q')
        by false (suc j) e s =
            let z : not (folded_passes folded n) ≡ false = sym (ap₂ (λ k q. must_read_left k folded (stage_end q n)) s w.0)
            ∙ (sym is ∙ e) in
            test_passes folded n (by_not (folded_passes folded n) z)
          where
            by_not : (t : Bool) → not t ≡ false → t ≡ true
            by_not true e = refl
            by_not false e = absurd (let q : true ≡ false = e in cc)

-- the same for the end of the instance
pub goes_by : (s : State) (i : ℕ) (kind : Kind) (n : ℤ) → (kind ≡ Wait → LeftHasPassed s.frames i n) → EntersAtOnce s i (stage_end kind n)
goes_by s i Wait n p = p refl
goes_by s i Continue n p = tt
goes_by s i Zero n p = tt

pub waits_by : (s : State) (i : ℕ) (kind : Kind) (n : ℤ) → ((kind ≡ Wait → LeftHasPassed s.frames i n) → ⊥)
    → MustWait s i (stage_end kind n)
waits_by s i Wait n p = λ x. p (λ w. x)
waits_by s i Continue n p = absurd (p (λ w. (let q : Continue ≡ Wait = w in absurd (cc))))
waits_by s i Zero n p = absurd (p (λ w. (let q : Zero ≡ Wait = w in absurd (cc))))

-- the event of the end
pub end_is : (i : ℕ) (kind : Kind) (n : ℤ) → kind ≢ Zero → stage_end_events i (stage_end kind n) ≡ Advance i kind n ∷ []
end_is i Wait n d = refl
end_is i Continue n d = refl
end_is i Zero n d = absurd (d refl)

-- what the left neighbour has passed does not hang on the iteration's own frame
pub passed_beside : (fs : List Frame) (i : ℕ) (u : Frame → Frame) (n : ℤ) → LeftHasPassed fs i n → LeftHasPassed (update_frame fs i u) i n
passed_beside fs zero u n p = tt
passed_beside fs (suc j) u n p = λ f e. p f (sym (frame_at_other fs (suc j) j u (λ z. (omega (arith, z)))) ∙ e)

-- two events one after the other
pub two_events : (log : List BookEntry) (now : ℕ) (e e' : Event) → with_events (with_events log now (e ∷ []))
    (1 + max (last_ticket log) now) (e' ∷ []) ≡ with_events log now (e ∷ e' ∷ [])
two_events log now e e' =
    let m : max (last_ticket (with_events log now (e ∷ []))) (1 + max (last_ticket log) now) ≡ suc (max (last_ticket log) now) =
    (let q = last_ticket_with log now e in omega (arith, q)) in
    ap (λ k. with_events log now (e ∷ []) ++ stamped k (e' ∷ [])) m
    ∙ append_assoc log (entry_of log now e ∷ []) (stamped (suc (max (last_ticket log) now)) (e' ∷ []))
