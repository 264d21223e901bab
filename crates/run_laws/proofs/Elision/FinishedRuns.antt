-- A finished run without a race has the traces of the serial elision.
use Rattle.std.proofs.Common.{ℕ, ◌≡◌, List, [], true, false, ◌+◌, ◌⊎◌, ◌∷◌, Some, length, ◌<◌, arith, subst, refl, inl, inr, suc, map, ◌≤◌}
use Rattle.std.proofs.Common.{zero, ap, ◌++◌, sym, ◌∙◌, append-nil}
use Rattle.std.proofs.lemmas.Bool.{cases_Bool, cases_lt, false≢true}
use Rattle.pipe_model.specs.Runs.Allowed.{ContinuesLoop, ClosesLoop}
use Rattle.pipe_model.specs.Pipelines.Behaviour.{Performs, column_of, closes_loop, accesses_in, closes_at_once}
use Rattle.pipe_model.specs.Pipelines.Pipeline.{Pipeline, AlwaysClosesLoop}
use Rattle.pipe_model.specs.Races.DeterminacyRaces.{IsRaceFree}
use Rattle.pipe_model.specs.Runs.Run.{Run, IsFinished}
use Rattle.pipe_model.specs.Pipelines.SerialElision.{serial_traces_from, serial_trace, unless, serial_traces}
use Rattle.pipe_model.specs.declared.status.Status.{Status}
use Rattle.pipe_model.specs.declared.status.Status.TheVariants.{Completed, Running, Pending}
use Rattle.pipe_model.specs.Runs.State.{Frame, frame_at, is_completed, State, own_columns}
use Rattle.run_laws.proofs.Iterations.Replies.{AllHaveReplies}
use Rattle.pipe_model.specs.declared.access.Access.{Access as Cell_access}
use Rattle.pipe_model.specs.declared.column.ColumnEnd.{ColumnEnd}
use Rattle.pipe_model.specs.declared.event.Event.{Event}
use Rattle.pipe_model.specs.declared.node.Node.{Node}
use Rattle.run_laws.proofs.Elision.ColumnOrder.{run_agrees}
use Rattle.run_laws.proofs.Iterations.CellWrites.{replies_front, replies_rest}
use Rattle.run_laws.proofs.Iterations.ElisionTraces.{unless_true, unless_false}
use Rattle.run_laws.proofs.Iterations.SerialTraces.{performed_is_serial_trace, always_closes}
use Rattle.run_laws.proofs.Iterations.TraceParts.{EndsWith, closes_loop_cases}
use Rattle.run_laws.proofs.RunStates.FrameAccesses.{accesses_by_column}
use Rattle.run_laws.proofs.RunStates.FrameTraces.{IsTraced, completed_is, EndsBy, pending_node, run_traced}
use Rattle.run_laws.proofs.RunStates.Frames.{frame_at_within, frame_at_exists}
use Rattle.run_laws.proofs.RunStates.RunInvariant.{run_consistent}

-- an iteration of a finished run, which has ended
pub record IsEnded (p : Pipeline) (i : ℕ) (f : Frame) : Type 0 where
  pub end : ColumnEnd
  pub status : f.status ≡ Completed end
  pub performs : Performs (p.behaviour i) f.trace
  pub ends : EndsWith f.trace end
  pub nodes : column_of f.trace ≡ f.nodes

-- the iterations of a finished run: only the last one closes the loop
abbrev pub IsWhole : Pipeline → ℕ → List Frame → Type 0
IsWhole p i [] = ⊥
IsWhole p i (f ∷ fs) =
    IsEnded p i f × (((closes_loop f.trace ≡ true) × (fs ≡ []))
    ⊎ ((closes_loop f.trace ≡ false) × IsWhole p (i + 1) fs))

-- iterations that have ended, and only the last of them closes the loop
whole_from : (p : Pipeline) (i : ℕ) (fs : List Frame)
    → ((j : ℕ) (f : Frame) → frame_at fs j ≡ Some f → IsEnded p (i + j) f)
    → ((j : ℕ) (f : Frame) → frame_at fs j ≡ Some f → j + 1 < length fs → closes_loop f.trace ≡ false)
    → ((j : ℕ) (f : Frame) → frame_at fs j ≡ Some f → j + 1 ≡ length fs → closes_loop f.trace ≡ true) → 0 < length fs
    → IsWhole p i fs
whole_from p i [] ended inner last l = absurd (omega (arith, l))
whole_from p i (f ∷ []) ended inner last l =
    (subst (λ n. IsEnded p n f) (omega arith) (ended 0 f refl), inl (last 0 f refl (omega arith), refl))
whole_from p i (f ∷ g ∷ fs) ended inner last l = (
  subst (λ n. IsEnded p n f) (omega arith) (ended 0 f refl),
  inr (
    inner 0 f refl (omega arith),
    whole_from p (i + 1) (g ∷ fs)
        (λ j h e. subst (λ n. IsEnded p n h) (omega arith) (ended (suc j) h e))
        (λ j h e w. inner (suc j) h e (omega (arith, w)))
        (λ j h e w. last (suc j) h e (omega (arith, w)))
        (omega arith),
  ),
)

-- whole iterations with right replies have the traces of the elision
whole_is_serial : (p : Pipeline) (n i : ℕ) (before : List Cell_access) (fs : List Frame) → IsWhole p i fs
    → length fs ≤ n → AllHaveReplies p before (accesses_by_column fs)
    → map (λ f. f.trace) fs ≡ serial_traces_from p n i before
whole_is_serial p n i before [] whole l right = absurd whole
whole_is_serial p zero i before (f ∷ fs) whole l right = absurd (omega (arith, l))
whole_is_serial p (suc n) i before (f ∷ fs) whole l right =
    let first = whole.0 in
    let one : f.trace ≡ serial_trace p.store (p.behaviour i) before =
    performed_is_serial_trace p (p.behaviour i) before f.trace first.end first.performs first.ends
    (replies_front p before (accesses_in f.trace) (accesses_by_column fs) right) in
    let later = replies_rest p before (accesses_in f.trace) (accesses_by_column fs) right in
    elim whole.1 [
      | inl shut ↦ (
          let same = ap (λ actions. actions ∷ unless (closes_loop actions)
          (serial_traces_from p n (i + 1) (before ++ accesses_in actions))) one in
          ap (λ gs. f.trace ∷ map (λ (h : Frame). h.trace) gs) shut.1
          ∙ ap (λ l. f.trace ∷ l) (sym (unless_true (closes_loop f.trace)
          (serial_traces_from p n (i + 1) (before ++ accesses_in f.trace)) shut.0))
          ∙ same)
      | inr open' ↦ (
          let same = ap (λ actions. actions ∷ unless (closes_loop actions)
          (serial_traces_from p n (i + 1) (before ++ accesses_in actions))) one in
          ap (λ l. f.trace ∷ l) (whole_is_serial p n (i + 1) (before ++ accesses_in f.trace) fs open'.1
          (omega (arith, l)) later)
          ∙ ap (λ l. f.trace ∷ l) (sym (unless_false (closes_loop f.trace)
          (serial_traces_from p n (i + 1) (before ++ accesses_in f.trace)) open'.0))
          ∙ same)
    ]

-- a frame that has ended is such an iteration
ended_frame : (p : Pipeline) (i : ℕ) (f : Frame) → IsTraced p i f → is_completed f.status ≡ true → IsEnded p i f
ended_frame p i f t over =
    let e = completed_is f.status over in
    record {
      end = e.0;
      status = e.1;
      performs = t.performs;
      ends = subst (λ w. EndsBy w f.trace) e.1 t.ending;
      nodes = t.nodes ∙ ap (λ w. f.nodes ++ pending_node w) e.1 ∙ append-nil f.nodes;
    }

-- an iteration with one after it does not close the loop
inner_closes_not : (p : Pipeline) (i : ℕ) (f : Frame) → IsEnded p i f → ContinuesLoop f.status f.nodes
    → closes_loop f.trace ≡ false
inner_closes_not p i f e g =
    let g' : closes_at_once e.end ≡ true → 1 < length f.nodes = subst (λ w. ContinuesLoop w f.nodes) e.status g in
    elim (closes_loop_cases f.trace e.end e.ends) [
      | inl one ↦ elim (cases_Bool (closes_at_once e.end)) [
        | inl shut ↦ (
            let wide = g' shut in
            let same = ap (λ (l : List Node). length l) (sym e.nodes) in
            let short = ap (λ (l : List Node). suc (length l)) one.0 in
            absurd (omega (arith, wide, same, short)))
        | inr free ↦ one.1 ∙ free
      ]
      | inr more ↦ more.1
    ]

-- the iteration that closes the loop does so in its trace
last_closes : (p : Pipeline) (i : ℕ) (f : Frame) → IsEnded p i f → ClosesLoop f.status f.nodes
    → closes_loop f.trace ≡ true
last_closes p i f e s =
    let shut : (closes_at_once e.end ≡ true) × (length f.nodes ≡ 1) = subst (λ w. ClosesLoop w f.nodes) e.status s in
    elim (closes_loop_cases f.trace e.end e.ends) [
      | inl one ↦ one.1 ∙ shut.0
      | inr more ↦ (
          let same = ap (λ (l : List Node). length l) (sym e.nodes) in
          let wide = more.0 in
          let short = shut.1 in
          absurd (omega (arith, wide, same, short)))
    ]

-- a frame that closes the loop has none after it
pub closed_or_goes_on : (w : Status) (nodes : List Node) → ClosesLoop w nodes → ContinuesLoop w nodes → ⊥
closed_or_goes_on Running nodes s g = s
closed_or_goes_on (Pending k n) nodes s g = s
closed_or_goes_on (Completed e) nodes s g =
    let wide = g s.0 in
    let one = s.1 in omega (arith, wide, one)

-- what the run and the elision have in common
pub record HasSerialTraces (p : Pipeline) (s : State) : Type 0 where
  pub traces : map (λ f. f.trace) s.frames ≡ serial_traces p
  pub whole : IsWhole p 0 s.frames

-- a finished run without a race has the serial traces
pub run_has_serial_traces : {p : Pipeline} {limit : ℕ} {events : List Event} {s : State}
    → AlwaysClosesLoop (p.behaviour p.last_iteration) → Run p limit events s → IsFinished s
    → IsRaceFree (own_columns s) s.accesses → HasSerialTraces p s
run_has_serial_traces {p} {limit} {events} {s} closing r fin free =
    let k = run_consistent r in
    let t = run_traced r in
    let g = run_agrees r free in
    let ended : (j : ℕ) (f : Frame) → frame_at s.frames j ≡ Some f → IsEnded p j f =
    λ j f e. ended_frame p j f (t j f e) (fin.over j f e) in
    let inner : (j : ℕ) (f : Frame) → frame_at s.frames j ≡ Some f → j + 1 < length s.frames
    → closes_loop f.trace ≡ false =
    λ j f e l. inner_closes_not p j f (ended j f e) (k.sound.goes j f e l) in
    let shut = fin.shut in
    let within = frame_at_within s.frames shut.iteration shut.frame shut.is in
    let end : shut.iteration + 1 ≡ length s.frames = elim (cases_lt (shut.iteration + 1) (length s.frames)) [
      | inl less ↦ absurd (closed_or_goes_on shut.frame.status shut.frame.nodes shut.closes
          (k.sound.goes shut.iteration shut.frame shut.is less))
      | inr past ↦ omega (arith, within, past)
    ] in
    let last : (j : ℕ) (f : Frame) → frame_at s.frames j ≡ Some f → j + 1 ≡ length s.frames
    → closes_loop f.trace ≡ true = λ j f e l.
    let same : shut.iteration ≡ j = omega (arith, end, l) in
    let there : frame_at s.frames j ≡ Some shut.frame = subst (λ n. frame_at s.frames n ≡ Some shut.frame) same shut.is in
    let equal : shut.frame ≡ f = cc in
    last_closes p j f (ended j f e) (subst (λ (h : Frame). ClosesLoop h.status h.nodes) equal shut.closes) in
    let whole = whole_from p 0 s.frames (λ j f e. subst (λ n. IsEnded p n f) (omega arith) (ended j f e)) inner last
    (omega (arith, within)) in
    let bound : length s.frames ≤ p.last_iteration + 1 = elim (cases_lt (p.last_iteration + 1) (length s.frames)) [
      | inl more ↦ (
          let f = frame_at_exists s.frames p.last_iteration (omega (arith, more)) in
          let e = ended p.last_iteration f.0 f.1 in
          let a = always_closes (p.behaviour p.last_iteration) f.0.trace e.end closing e.performs e.ends in
          let b = inner p.last_iteration f.0 f.1 more in
          absurd (false≢true (sym b ∙ a)))
      | inr ok ↦ ok
    ] in
    record {
      traces = whole_is_serial p (p.last_iteration + 1) 0 p.preamble s.frames whole bound g.replies;
      whole = whole;
    }
