-- The control part depends on the outlines of the frames alone; stage counters.
use Rattle.std.proofs.Common.{◌≡◌, ◌∙◌, sym, ap, subst, refl, ℕ, ℤ, List, [], ◌∷◌, ◌++◌, Bool, true, false, inl, inr, map, Some, arith}
use Rattle.std.proofs.Common.{if◌then◌else◌, append-nil}
use Rattle.pipe_model.specs.declared.event.Event.{Event}
use Rattle.pipe_model.specs.declared.event.Event.TheVariants.{Begin, Access, Advance, Enter, Finish, Stop}
use Rattle.pipe_model.specs.declared.node.Node.{Node}
use Rattle.pipe_model.specs.Runs.Allowed.{Allowed, ControlAllows, ClosesLoop, HasPassed}
use Rattle.pipe_model.specs.Pipelines.Behaviour.{Accessed}
use Rattle.pipe_model.specs.Runs.ControlRun.{EmptyControlRun, ControlRunThen, is_access}
use Rattle.pipe_model.specs.Pipelines.Pipeline.{Pipeline}
use Rattle.pipe_model.specs.Runs.Run.{EmptyRun, RunThen, IsFinished, state_from}
use Rattle.pipe_model.specs.Runs.State.{Frame, State, frame_at, next_state, own_columns, initial_state, is_completed, update_frame}
use Rattle.pipe_model.specs.Runs.State.{with_action}
use Rattle.pipe_model.specs.declared.status.Status.{Status}
use Rattle.pipe_model.specs.declared.status.Status.TheVariants.{Running, Pending, Completed}
use Rattle.run_laws.proofs.LogMerge.ControlPart.{SameControl, same_frame, control_same, after_same, access_same}
use Rattle.run_laws.proofs.RunStates.FrameMoves.{frame_at_moved, frame_at_begun, moves_running, IsMove}
use Rattle.run_laws.proofs.RunStates.Frames.{frame_at_within}
use Rattle.run_laws.proofs.RunStates.QuietEvents.{IsQuiet, advance_is_quiet, enter_is_quiet, finish_is_quiet}
use Rattle.pipe_model.specs.Runs.ControlParts.{HaveSameControl, control_after, control_from, next_control, outlines_of, without_accesses}
use Rattle.pipe_model.specs.Runs.StageCounters.{Passes, counter_of}
use Rattle.schedule_laws.specs.ControlLaws.{ControlGoesByOutlines, AccessesChangeNoOutline, ControlSkipsAccesses, HasControlRun}
use Rattle.schedule_laws.specs.ControlLaws.{RunsHaveControlRuns, GreaterLimitsAllow, CountersDecidePassing, CountersGrow}

to_same : (s t : State) → HaveSameControl s t → SameControl s t
to_same s t h = record { frames = h.frames; stopped = h.stopped }

of_same : (s t : State) → SameControl s t → HaveSameControl s t
of_same s t h = record { frames = h.frames; stopped = h.stopped }

other_way : (s t : State) → HaveSameControl s t → HaveSameControl t s
other_way s t h = record { frames = sym h.frames; stopped = sym h.stopped }

columns_of_outlines : (fs : List Frame) → map (λ f. f.nodes) (outlines_of fs) ≡ map (λ f. f.nodes) fs
columns_of_outlines [] = refl
columns_of_outlines (f ∷ fs) = ap (λ l. f.nodes ∷ l) (columns_of_outlines fs)

same_columns : (s t : State) → HaveSameControl s t → own_columns s ≡ own_columns t
same_columns s t h = sym (columns_of_outlines s.frames) ∙ ap (λ l. map (λ (f : Frame). f.nodes) l) h.frames ∙ columns_of_outlines t.frames

same_finished : (s t : State) → HaveSameControl s t → IsFinished s → IsFinished t
same_finished s t h fin =
    let shut = fin.shut in
    let there = same_frame t.frames s.frames shut.iteration shut.frame (sym h.frames) shut.is in
    record {
      over = λ i f is. (
          let g = same_frame s.frames t.frames i f h.frames is in
          subst (λ w. is_completed w ≡ true) g.status (fin.over i g.frame g.is));
      shut = record {
        iteration = shut.iteration;
        frame = there.frame;
        is = there.is;
        closes = subst (λ w. ClosesLoop w there.frame.nodes) (sym there.status)
            (subst (λ (l : List Node). ClosesLoop shut.frame.status l) (sym there.nodes) shut.closes);
      };
      going = sym h.stopped ∙ fin.going;
    }

pub control_goes_by_outlines : ControlGoesByOutlines
control_goes_by_outlines limit s t h = record {
  allow = λ e. ((λ a. control_same limit t s e (to_same t s (other_way s t h)) a), (λ a. control_same limit s t e (to_same s t h) a));
  go_on = λ e free. of_same (next_state s e) (next_state t e) (after_same s t e free (to_same s t h));
  columns = same_columns s t h;
  finished = (same_finished s t h, same_finished t s (other_way s t h));
}

pub accesses_change_no_outline : AccessesChangeNoOutline
accesses_change_no_outline s i a r = of_same (next_state s (Access i a)) s
    (access_same s s i a (record { frames = refl; stopped = refl }) r)

-- ---- the fold

pub control_skips_accesses : ControlSkipsAccesses
control_skips_accesses c [] = refl
control_skips_accesses c (e ∷ es) = by_test (is_access e) refl (control_skips_accesses c es) (control_skips_accesses (next_state c e) es)
  where
    by_test : (b : Bool) → is_access e ≡ b → control_from c es ≡ state_from c (without_accesses es)
        → control_from (next_state c e) es ≡ state_from (next_state c e) (without_accesses es)
        → control_from (if is_access e then c else next_state c e) es ≡ state_from c
        (if is_access e then without_accesses es else e ∷ without_accesses es)
    by_test true t skip keep = rw t skip
    by_test false t skip keep = rw t keep

pub control_from-push : (c : State) (es : List Event) (e : Event) → control_from c (es ++ e ∷ []) ≡ next_control (control_from c es) e
control_from-push c [] e = refl
control_from-push c (x ∷ es) e = control_from-push (next_control c x) es e

without_accesses-push : (es : List Event) (e : Event) → without_accesses (es ++ e ∷ []) ≡ without_accesses es
    ++ (if is_access e then [] else e ∷ [])
without_accesses-push [] e = refl
without_accesses-push (x ∷ es) e = by_test (is_access x) refl (without_accesses-push es e)
  where
    by_test : (b : Bool) → is_access x ≡ b → without_accesses (es ++ e ∷ []) ≡ without_accesses es ++ (if is_access e then [] else e ∷ [])
        → (if is_access x then without_accesses (es ++ e ∷ []) else x ∷ without_accesses (es ++ e ∷ []))
        ≡ (if is_access x then without_accesses es else x ∷ without_accesses es) ++ (if is_access e then [] else e ∷ [])
    by_test true t h = rw t h
    by_test false t h = rw t (ap (λ l. x ∷ l) h)

-- one more event, which may be an access
control_after_one : (p : Pipeline) (limit : ℕ) (events : List Event) (s : State) (e : Event) → Allowed p limit s e
    → HasControlRun limit events s
    → (b : Bool) → is_access e ≡ b → HasControlRun limit (events ++ e ∷ []) (next_state s e)
control_after_one p limit events s (Access i a) h k true t =
    let log : without_accesses (events ++ Access i a ∷ []) ≡ without_accesses events = without_accesses-push events (Access i a)
    ∙ append-nil (without_accesses events) in
    let state : control_after (events ++ Access i a ∷ []) ≡ control_after events = control_from-push initial_state events (Access i a) in
    record {
      run = rw (log, state) k.run;
      same = rw state (of_same (next_state s (Access i a)) (control_after events)
          (access_same s (control_after events) i a (to_same s (control_after events) k.same) h.control));
    }
control_after_one p limit events s (Access i a) h k false t = absurd (cc)
control_after_one p limit events s (Begin i) h k true t = absurd (cc)
control_after_one p limit events s (Advance i j n) h k true t = absurd (cc)
control_after_one p limit events s (Enter i) h k true t = absurd (cc)
control_after_one p limit events s (Finish i d) h k true t = absurd (cc)
control_after_one p limit events s Stop h k true t = absurd (cc)
control_after_one p limit events s e h k false t =
    let c = control_after events in
    let log : without_accesses (events ++ e ∷ []) ≡ without_accesses events ++ e ∷ [] =
    without_accesses-push events e ∙ ap (λ b. without_accesses events ++ (if b then [] else e ∷ [])) t in
    let state : control_after (events ++ e ∷ []) ≡ next_state c e =
    control_from-push initial_state events e ∙ ap (λ b. if b then c else next_state c e) t in
    record {
      run = rw (log, state) (ControlRunThen k.run e t (sym k.same.stopped ∙ h.going)
          (control_same limit c s e (to_same c s (other_way s c k.same)) h.control));
      same = rw state (of_same (next_state s e) (next_state c e) (after_same s c e t (to_same s c k.same)));
    }

pub runs_have_control_runs : RunsHaveControlRuns
runs_have_control_runs p limit events s EmptyRun = record { run = EmptyControlRun; same = record { frames = refl; stopped = refl } }
runs_have_control_runs p limit events s (RunThen {events = es} {s = t} r e h) =
    control_after_one p limit es t e h (runs_have_control_runs p limit es t r) (is_access e) refl

pub greater_limits_allow : GreaterLimitsAllow
greater_limits_allow limit more events c le EmptyControlRun = EmptyControlRun
greater_limits_allow limit more events c le (ControlRunThen {events = es} {c = d} r e free going h) =
    ControlRunThen (greater_limits_allow limit more es d le r) e free going (by_event e h)
  where
    by_event : (x : Event) → ControlAllows limit d x → ControlAllows more d x
    by_event (Begin i) h = record { number = h.number; room = (let l = h.room in omega (arith, l, le)); follows = h.follows }
    by_event (Access i a) h = h
    by_event (Advance i k n) h = h
    by_event (Enter i) h = h
    by_event (Finish i f) h = h
    by_event Stop h = h

-- ---- counters

passes_counter : (w : Status) (nodes : List Node) (n : ℤ) → HasPassed w nodes n → Passes (counter_of w nodes) n
passes_counter Running nodes n h = h
passes_counter (Pending k m) nodes n h = h
passes_counter (Completed e) nodes n h = h

counter_passes : (w : Status) (nodes : List Node) (n : ℤ) → Passes (counter_of w nodes) n → HasPassed w nodes n
counter_passes Running nodes n h = h
counter_passes (Pending k m) nodes n h = h
counter_passes (Completed e) nodes n h = h

pub counters_decide_passing : CountersDecidePassing
counters_decide_passing w nodes n = (passes_counter w nodes n, counter_passes w nodes n)

-- an action does not lower the counter
grows_moved : (fs : List Frame) (i j : ℕ) (f u g : Frame) (v : Frame → Frame) → frame_at fs i ≡ Some u → IsMove fs i u (v u)
    → frame_at fs j ≡ Some f → frame_at (update_frame fs i v) j ≡ Some g
    → (n : ℤ) → Passes (counter_of f.status f.nodes) n → Passes (counter_of g.status g.nodes) n
grows_moved fs i j f u g v is m before after n h = elim (frame_at_moved fs i j u v g is after) [
  | inl here ↦ (
      let was : frame_at fs i ≡ Some f = subst (λ k. frame_at fs k ≡ Some f) here.0 before in
      let same : u ≡ f = cc in
      let old : HasPassed u.status u.nodes n = subst (λ (x : Frame). HasPassed x.status x.nodes n) (sym same)
      (counter_passes f.status f.nodes n h) in
      passes_counter g.status g.nodes n (subst (λ (x : Frame). HasPassed x.status x.nodes n) (sym here.1) (m.passes n old)))
  | inr there ↦ (
      let is2 = there.1 in
      let same : f ≡ g = cc in
      subst (λ (x : Frame). Passes (counter_of x.status x.nodes) n) same h)
]

grows_quiet : (s : State) (fs : List Frame) (q : IsQuiet s fs) (j : ℕ) (f g : Frame) → frame_at s.frames j ≡ Some f → frame_at fs j ≡ Some g
    → (n : ℤ) → Passes (counter_of f.status f.nodes) n → Passes (counter_of g.status g.nodes) n
grows_quiet s fs q j f g before after n h =
    grows_moved s.frames q.place j f q.frame g q.update q.is q.moves before (subst (λ l. frame_at l j ≡ Some g) q.result after) n h

pub counters_grow : CountersGrow
counters_grow limit s (Begin i) j f g a before after n h = elim (frame_at_begun s.frames j g after) [
  | inl new ↦ (let w = frame_at_within s.frames j f before in let e = new.0 in absurd (omega (arith, w, e)))
  | inr old ↦ (
      let is = old.1 in
      let same : f ≡ g = cc in
      subst (λ (x : Frame). Passes (counter_of x.status x.nodes) n) same h)
]
counters_grow limit s (Access i x) j f g a before after n h =
    grows_moved s.frames i j f a.frame g (with_action (Accessed x) Running) a.is (moves_running s.frames i a.frame (Accessed x) a.runs)
    before after n h
counters_grow limit s (Advance i k m) j f g a before after n h =
    grows_quiet s (next_state s (Advance i k m)).frames (advance_is_quiet s i k m a) j f g before after n h
counters_grow limit s (Enter i) j f g a before after n h =
    grows_quiet s (next_state s (Enter i)).frames (enter_is_quiet s i a) j f g before after n h
counters_grow limit s (Finish i e) j f g a before after n h =
    grows_quiet s (next_state s (Finish i e)).frames (finish_is_quiet s i e a) j f g before after n h
counters_grow limit s Stop j f g a before after n h =
    let same : f ≡ g = cc in
    subst (λ (x : Frame). Passes (counter_of x.status x.nodes) n) same h
