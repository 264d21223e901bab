-- The number of events of a run.
use Rattle.std.proofs.Common.{ℕ, ◌≡◌, ◌+◌, ◌*◌, List, [], ◌∷◌, ◌≤◌, Some, zero, arith, subst, sym, suc, length, ◌++◌, ℤ, refl, ap, ◌∙◌}
use Rattle.std.proofs.Common.{false, inl, inr}
use Rattle.std.proofs.lemmas.Bool.{false≢true, cases_lt}
use Rattle.std.proofs.lemmas.List.{length_push}
use Rattle.pipe_model.specs.Runs.Allowed.{Allowed}
use Rattle.pipe_model.specs.Pipelines.Behaviour.{Behaviour, behaviour_after_all, Offers, Accessed, behaviour_after, Reading, Writing}
use Rattle.pipe_model.specs.Pipelines.Behaviour.{Staging, Ending}
use Rattle.pipe_model.specs.Pipelines.Behaviour.{Staged, Ended}
use Rattle.pipe_model.specs.Pipelines.Pipeline.{HasBoundedWork, Pipeline}
use Rattle.pipe_model.specs.Runs.Run.{Run, EmptyRun, RunThen}
use Rattle.pipe_model.specs.declared.status.Status.{Status}
use Rattle.pipe_model.specs.declared.status.Status.TheVariants.{Running, Pending, Completed}
use Rattle.pipe_model.specs.Runs.State.{Frame, frame_at, update_frame, fresh_frame, with_action}
use Rattle.pipe_model.specs.Runs.State.{enter_pending, State, next_state}
use Rattle.pipe_model.specs.declared.event.Event.{Event}
use Rattle.pipe_model.specs.declared.event.Event.TheVariants.{Begin, Access, Advance, Enter, Finish, Stop}
use Rattle.pipe_model.specs.declared.node.Kind.{Kind}
use Rattle.run_laws.proofs.Iterations.PerformedActions.{behaviour_after_all-push}
use Rattle.run_laws.proofs.RunStates.FrameMoves.{enter_pending_is}
use Rattle.run_laws.proofs.RunStates.FrameTraces.{action_offered}
use Rattle.run_laws.proofs.RunStates.Frames.{length-update_frame, frame_at_exists}
use Rattle.run_laws.proofs.RunStates.LastIteration.{stays_or_continues, run_stays}
use Rattle.run_laws.proofs.RunStates.RunInvariant.{run_consistent}
use Rattle.run_laws.specs.RunLaws.{sum_below, RunsAreBounded}

-- the number of events of an iteration that may still follow
abbrev Spare : ℕ → Status → Behaviour → ℕ → Type 0
Spare each Running d q =
    (left : ℕ) × (more : ℕ) × (q ≡ left + 1 + more * (each + 2)) × HasBoundedWork each left more d
Spare each (Pending k n) d q = (more : ℕ) × (q ≡ (more + 1) * (each + 2)) × HasBoundedWork each each more d
Spare each (Completed e) d q = Unit {0}

-- the number of events that may still follow, iteration by iteration
abbrev Spares : Pipeline → ℕ → ℕ → List Frame → List ℕ → Type 0
Spares p each i [] [] = Unit {0}
Spares p each i [] (q ∷ qs) = ⊥
Spares p each i (f ∷ fs) [] = ⊥
Spares p each i (f ∷ fs) (q ∷ qs) =
    Spare each f.status (behaviour_after_all (p.behaviour i) f.trace) q × Spares p each (i + 1) fs qs

-- the sum of a list
abbrev total : List ℕ → ℕ
total [] = 0
total (q ∷ qs) = q + total qs

-- an event of an iteration spends at least one
record Spends (each : ℕ) (f g : Frame) (c : Behaviour) (q : ℕ) : Type 0 where
  left : ℕ
  less : left + 1 ≤ q
  spare : Spare each g.status (behaviour_after_all c g.trace) left

-- an update of one frame leaves at least one event less to follow
record Spent (p : Pipeline) (each i : ℕ) (fs : List Frame) (qs : List ℕ) : Type 0 where
  lefts : List ℕ
  spares : Spares p each i fs lefts
  less : total lefts + 1 ≤ total qs

-- an event of one iteration spends one of the run's
spends_one : (p : Pipeline) (each i : ℕ) (fs : List Frame) (qs : List ℕ) (j : ℕ) (f : Frame) (u : Frame → Frame)
    → Spares p each i fs qs → frame_at fs j ≡ Some f
    → ((q : ℕ) → Spare each f.status (behaviour_after_all (p.behaviour (i + j)) f.trace) q
    → Spends each f (u f) (p.behaviour (i + j)) q) → Spent p each i (update_frame fs j u) qs
spends_one p each i [] qs j f u s e h = absurd (cc)
spends_one p each i (x ∷ fs) [] j f u s e h = absurd s
spends_one p each i (x ∷ fs) (q ∷ qs) zero f u s e h =
    let same : f ≡ x = cc in
    let z : i + 0 ≡ i = omega arith in
    let go = subst (λ n. (r : ℕ) → Spare each f.status (behaviour_after_all (p.behaviour n) f.trace) r
    → Spends each f (u f) (p.behaviour n) r) z h in
    let here : Spare each f.status (behaviour_after_all (p.behaviour i) f.trace) q =
    subst (λ (y : Frame). Spare each y.status (behaviour_after_all (p.behaviour i) y.trace) q) (sym same) s.0 in
    let t = go q here in
    let l = t.less in
    record {
      lefts = t.left ∷ qs;
      spares = (
        subst (λ (y : Frame). Spare each (u y).status (behaviour_after_all (p.behaviour i) (u y).trace)
            t.left) same t.spare,
        s.1,
      );
      less = omega (arith, l);
    }
spends_one p each i (x ∷ fs) (q ∷ qs) (suc j) f u s e h =
    let z : i + suc j ≡ i + 1 + j = omega arith in
    let t = spends_one p each (i + 1) fs qs j f u s.1 e
    (subst (λ n. (q : ℕ) → Spare each f.status (behaviour_after_all (p.behaviour n) f.trace) q
    → Spends each f (u f) (p.behaviour n) q) z h) in
    let l = t.less in
    record { lefts = q ∷ t.lefts; spares = (s.0, t.spares); less = omega (arith, l) }

-- one more iteration adds its own events
spares_push : (p : Pipeline) (each i : ℕ) (fs : List Frame) (qs : List ℕ) (q : ℕ) → Spares p each i fs qs
    → Spare each Running (p.behaviour (i + length fs)) q → Spares p each i (fs ++ fresh_frame ∷ []) (qs ++ q ∷ [])
spares_push p each i [] [] q s h = let z : i + 0 ≡ i = omega arith in (rw z at h, tt)
spares_push p each i [] (r ∷ qs) q s h = absurd s
spares_push p each i (f ∷ fs) [] q s h = absurd s
spares_push p each i (f ∷ fs) (r ∷ qs) q s h =
    let z : i + suc (length fs) ≡ i + 1 + length fs = omega arith in
    (s.0, spares_push p each (i + 1) fs qs q s.1 (rw z at h))

-- the sum with one more number
total-push : (qs : List ℕ) (q : ℕ) → total (qs ++ q ∷ []) ≡ total qs + q
total-push [] q = omega arith
total-push (r ∷ qs) q = let h = total-push qs q in omega (arith, h)

-- an access is one of the accesses that may still follow
bounded_accessed : (each left more : ℕ) (d : Behaviour) (a : _) → HasBoundedWork each left more d
    → Offers d (Accessed a) → (m : ℕ) × (left ≡ suc m) × HasBoundedWork each m more (behaviour_after d (Accessed a))
bounded_accessed each left more (Reading c go) a b o = (b.0, b.1, b.2 a.value)
bounded_accessed each left more (Writing c v d) a b o = b
bounded_accessed each left more (Staging k n d) a b o = absurd (cc)
bounded_accessed each left more (Ending e) a b o = absurd (cc)

-- a next stage is one of the stages that may still follow
bounded_staged : (each left more : ℕ) (d : Behaviour) (k : Kind) (n : ℤ) → HasBoundedWork each left more d
    → Offers d (Staged k n) → (m : ℕ) × (more ≡ suc m) × HasBoundedWork each each m (behaviour_after d (Staged k n))
bounded_staged each left more (Reading c go) k n b o = absurd (let q = o.1 in cc)
bounded_staged each left more (Writing c v d) k n b o = absurd (cc)
bounded_staged each left more (Staging j x d) k n b o = b
bounded_staged each left more (Ending e) k n b o = absurd (cc)

-- an access spends one
spends_accessed : (each : ℕ) (c : Behaviour) (f : Frame) (a : _) → f.status ≡ Running
    → Offers (behaviour_after_all c f.trace) (Accessed a) → (q : ℕ)
    → Spare each f.status (behaviour_after_all c f.trace) q → Spends each f (with_action (Accessed a) Running f) c q
spends_accessed each c f a runs o q s =
    let t : Spare each Running (behaviour_after_all c f.trace) q =
    subst (λ w. Spare each w (behaviour_after_all c f.trace) q) runs s in
    let b = bounded_accessed each t.0 t.1 (behaviour_after_all c f.trace) a t.3 o in
    let e = t.2 in
    let l = b.1 in
    record {
      left = b.0 + 1 + t.1 * (each + 2);
      less = omega (arith, e, l);
      spare = (
        b.0,
        t.1,
        refl,
        subst (λ d. HasBoundedWork each b.0 t.1 d)
            (sym (behaviour_after_all-push c f.trace (Accessed a))) b.2,
      );
    }

-- a next stage spends one, with its entering still to follow
spends_staged : (each : ℕ) (c : Behaviour) (f : Frame) (k : Kind) (n : ℤ) → f.status ≡ Running
    → Offers (behaviour_after_all c f.trace) (Staged k n) → (q : ℕ)
    → Spare each f.status (behaviour_after_all c f.trace) q
    → Spends each f (with_action (Staged k n) (Pending k n) f) c q
spends_staged each c f k n runs o q s =
    let t : Spare each Running (behaviour_after_all c f.trace) q =
    subst (λ w. Spare each w (behaviour_after_all c f.trace) q) runs s in
    let b = bounded_staged each t.0 t.1 (behaviour_after_all c f.trace) k n t.3 o in
    let next : t.1 ≡ b.0 + 1 = (let l = b.1 in omega (arith, l)) in
    let e : q ≡ t.0 + 1 + (b.0 + 1) * (each + 2) = t.2 ∙ ap (λ m. t.0 + 1 + m * (each + 2)) next in
    record {
      left = (b.0 + 1) * (each + 2);
      less = omega (arith, e);
      spare = (
        b.0,
        refl,
        subst (λ d. HasBoundedWork each each b.0 d)
            (sym (behaviour_after_all-push c f.trace (Staged k n))) b.2,
      );
    }

-- entering spends one
spends_entered : (each : ℕ) (c : Behaviour) (f : Frame) (k : Kind) (n : ℤ) → f.status ≡ Pending k n → (q : ℕ)
    → Spare each f.status (behaviour_after_all c f.trace) q → Spends each f (enter_pending f.status f) c q
spends_entered each c f k n named q s =
    let t : Spare each (Pending k n) (behaviour_after_all c f.trace) q =
    subst (λ w. Spare each w (behaviour_after_all c f.trace) q) named s in
    let e = t.1 in
    subst (λ (g : Frame). Spends each f g c q) (sym (enter_pending_is f k n named)) (record {
      left = each + 1 + t.0 * (each + 2);
      less = omega (arith, e);
      spare = (each, t.0, refl, t.2);
    })

-- an end spends all that is left
spends_ended : (each : ℕ) (c : Behaviour) (f : Frame) (e : _) → f.status ≡ Running → (q : ℕ)
    → Spare each f.status (behaviour_after_all c f.trace) q
    → Spends each f (with_action (Ended e) (Completed e) f) c q
spends_ended each c f e runs q s =
    let t : Spare each Running (behaviour_after_all c f.trace) q =
    subst (λ w. Spare each w (behaviour_after_all c f.trace) q) runs s in
    let q1 = t.2 in
    record { left = 0; less = omega (arith, q1); spare = tt }

-- the events so far and those that may still follow are bounded
record HasSpares (p : Pipeline) (each : ℕ) (C : ℕ → ℕ) (n : ℕ) (s : State) : Type 0 where
  spares : List ℕ
  is : Spares p each 0 s.frames spares
  bound : n + total spares ≤ sum_below C (length s.frames)

-- the bound holds after every event that is not a stop
spares_after : (p : Pipeline) (limit each : ℕ) (more : ℕ → ℕ) (n : ℕ) (s : State) (e : Event)
    → ((i : ℕ) → HasBoundedWork each each (more i) (p.behaviour i)) → Allowed p limit s e
    → (next_state s e).stopped ≡ false
    → HasSpares p each (λ i. (more i + 1) * (each + 2)) n s
    → HasSpares p each (λ i. (more i + 1) * (each + 2)) (n + 1) (next_state s e)
spares_after p limit each more n s e bounded h going k = by_event e h going
  where
    C : ℕ → ℕ
    C i = (more i + 1) * (each + 2)

    spent_at : (j : ℕ) (f : Frame) (u : Frame → Frame) (t : State) → t.frames ≡ update_frame s.frames j u
        → frame_at s.frames j ≡ Some f
        → ((q : ℕ) → Spare each f.status (behaviour_after_all (p.behaviour j) f.trace) q
        → Spends each f (u f) (p.behaviour j) q)
        → HasSpares p each (λ i. (more i + 1) * (each + 2)) (n + 1) t
    spent_at j f u t frames is go =
        let z : 0 + j ≡ j = omega arith in
        let m = spends_one p each 0 s.frames k.spares j f u k.is is
        (subst (λ x. (q : ℕ) → Spare each f.status (behaviour_after_all (p.behaviour x) f.trace) q
        → Spends each f (u f) (p.behaviour x) q) (sym z) go) in
        let b = k.bound in
        let l = m.less in
        let long = ap (λ x. sum_below (λ i. (more i + 1) * (each + 2)) x) (ap (λ (x : List Frame). length x) frames
        ∙ length-update_frame s.frames j u) in
        record { spares = m.lefts; is = rw frames m.spares; bound = omega (arith, b, l, long) }

    by_event : (y : Event) → Allowed p limit s y → (next_state s y).stopped ≡ false
        → HasSpares p each (λ i. (more i + 1) * (each + 2)) (n + 1) (next_state s y)
    by_event (Begin i) a g =
        let x = length s.frames in
        let q = each + 1 + more x * (each + 2) in
        let long : length (s.frames ++ fresh_frame ∷ []) ≡ suc x = (
        let w = length_push s.frames fresh_frame in
        omega (arith, w)) in
        let b = k.bound in
        let w = total-push k.spares q in
        record {
          spares = k.spares ++ q ∷ [];
          is = spares_push p each 0 s.frames k.spares q k.is (
            each,
            more x,
            refl,
            (
                let z : 0 + x ≡ x = omega arith in
                rw z (bounded x)),
          );
          bound = rw long (omega (arith, b, w));
        }
    by_event (Access i x) a g =
        let r = a.control in
        spent_at i r.frame (with_action (Accessed x) Running) (next_state s (Access i x)) refl r.is
        (spends_accessed each (p.behaviour i) r.frame x r.runs
        (action_offered p s i r.frame (Accessed x) r.is a.program.0))
    by_event (Advance i j m) a g =
        let r = a.control.running in
        spent_at i r.frame (with_action (Staged j m) (Pending j m)) (next_state s (Advance i j m)) refl r.is
        (spends_staged each (p.behaviour i) r.frame j m r.runs
        (action_offered p s i r.frame (Staged j m) r.is a.program))
    by_event (Enter i) a g =
        let m = a.control in
        spent_at i m.frame (λ f. enter_pending f.status f) (next_state s (Enter i)) refl m.is
        (spends_entered each (p.behaviour i) m.frame m.kind m.number m.named)
    by_event (Finish i d) a g =
        let r = a.control.running in
        spent_at i r.frame (with_action (Ended d) (Completed d)) (next_state s (Finish i d)) refl r.is
        (spends_ended each (p.behaviour i) r.frame d r.runs)
    by_event Stop a g = absurd (false≢true (sym g))

-- every run that was not stopped has the bound
run_spares : {p : Pipeline} {limit : ℕ} {events : List Event} {s : State} → (each : ℕ) (more : ℕ → ℕ)
    → ((i : ℕ) → HasBoundedWork each each (more i) (p.behaviour i)) → Run p limit events s → s.stopped ≡ false
    → HasSpares p each (λ i. (more i + 1) * (each + 2)) (length events) s
run_spares each more bounded EmptyRun going = record { spares = []; is = tt; bound = omega arith }
run_spares {p} {limit} each more bounded (RunThen {events = es} {s = t} r e h) going =
    let k = run_spares each more bounded r h.going in
    let long : length (es ++ e ∷ []) ≡ length es + 1 = length_push es e in
    rw long (spares_after p limit each more (length es) t e bounded h going k)

-- the law of bounds
pub runs_are_bounded : RunsAreBounded
runs_are_bounded p limit each more events s r closing bounded going =
    let k = run_spares each more bounded r going in
    let b = k.bound in (
      omega (arith, b),
      elim (cases_lt (p.last_iteration + 1) (length s.frames)) [
        | inl more' ↦ (
            let f = frame_at_exists s.frames p.last_iteration (omega (arith, more')) in
            absurd (stays_or_continues f.0.status f.0.nodes _ (run_stays closing r f.0 f.1)
            ((run_consistent r).sound.goes p.last_iteration f.0 f.1 more')))
        | inr ok ↦ ok
      ],
    )
