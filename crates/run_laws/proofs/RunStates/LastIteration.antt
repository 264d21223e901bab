-- The iteration that always closes the loop stays in its instance 0, so none follows it.
use Rattle.std.proofs.Common.{List, length, ◌≡◌, true, Some, ℤ, ap, ◌∙◌, ℕ, inl, subst, sym, inr, refl, arith}
use Rattle.pipe_model.specs.Runs.Allowed.{Allowed, ContinuesLoop}
use Rattle.pipe_model.specs.Pipelines.Behaviour.{Behaviour, closes_at_once, behaviour_after_all, Offers, Accessed, behaviour_after, Reading}
use Rattle.pipe_model.specs.Pipelines.Behaviour.{Writing}
use Rattle.pipe_model.specs.Pipelines.Behaviour.{Staging, Ending, Staged, Ended}
use Rattle.pipe_model.specs.Pipelines.Pipeline.{AlwaysClosesLoop, Pipeline}
use Rattle.pipe_model.specs.Runs.Run.{Run, EmptyRun, RunThen}
use Rattle.pipe_model.specs.declared.status.Status.{Status}
use Rattle.pipe_model.specs.declared.status.Status.TheVariants.{Running, Pending, Completed}
use Rattle.pipe_model.specs.Runs.State.{Frame, frame_at, update_frame, State, next_state, with_action, enter_pending}
use Rattle.pipe_model.specs.declared.event.Event.{Event}
use Rattle.pipe_model.specs.declared.event.Event.TheVariants.{Begin, Access, Advance, Enter, Finish, Stop}
use Rattle.pipe_model.specs.declared.node.Kind.{Kind}
use Rattle.pipe_model.specs.declared.node.Node.{Node}
use Rattle.run_laws.proofs.Iterations.PerformedActions.{behaviour_after_all-push}
use Rattle.run_laws.proofs.RunStates.FrameMoves.{frame_at_moved, frame_at_begun}
use Rattle.run_laws.proofs.RunStates.FrameTraces.{action_offered}

-- the iteration is in its instance 0, or has closed the loop there
abbrev pub StaysInFirst : Status → List Node → Behaviour → Type 0
StaysInFirst Running nodes d = (length nodes ≡ 1) × AlwaysClosesLoop d
StaysInFirst (Pending k n) nodes d = ⊥
StaysInFirst (Completed e) nodes d = (length nodes ≡ 1) × (closes_at_once e ≡ true)

-- the last iteration stays in its first instance
abbrev pub LastStays : Pipeline → List Frame → Type 0
LastStays p fs =
    (f : Frame) → frame_at fs p.last_iteration ≡ Some f
    → StaysInFirst f.status f.nodes (behaviour_after_all (p.behaviour p.last_iteration) f.trace)

-- a behaviour that always closes the loop does so after an access
closes_after_access : (d : Behaviour) (a : _) → AlwaysClosesLoop d → Offers d (Accessed a)
    → AlwaysClosesLoop (behaviour_after d (Accessed a))
closes_after_access (Reading c go) a h o = h a.value
closes_after_access (Writing c v d) a h o = h
closes_after_access (Staging k n d) a h o = absurd h
closes_after_access (Ending e) a h o = absurd (cc)

-- a behaviour that always closes the loop names no next stage
closes_names_no_stage : (d : Behaviour) (k : Kind) (n : ℤ) → AlwaysClosesLoop d → Offers d (Staged k n) → ⊥
closes_names_no_stage (Reading c go) k n h o = let q = o.1 in cc
closes_names_no_stage (Writing c v d) k n h o = cc
closes_names_no_stage (Staging j m d) k n h o = h
closes_names_no_stage (Ending e) k n h o = cc

-- the end of a behaviour that always closes the loop closes it
closes_by_end : (d : Behaviour) (e : _) → AlwaysClosesLoop d → Offers d (Ended e) → closes_at_once e ≡ true
closes_by_end (Reading c go) e h o = absurd (let q = o.1 in cc)
closes_by_end (Writing c v d) e h o = absurd (cc)
closes_by_end (Staging j m d) e h o = absurd h
closes_by_end (Ending f) e h o = let same : e ≡ f = cc in ap closes_at_once same ∙ h

-- the last iteration stays in its instance 0 if an event that changes it keeps it there
stays_moved : (p : Pipeline) (fs : List Frame) (i : ℕ) (f : Frame) (u : Frame → Frame) → LastStays p fs
    → frame_at fs i ≡ Some f
    → (i ≡ p.last_iteration → StaysInFirst f.status f.nodes (behaviour_after_all (p.behaviour i) f.trace)
    → StaysInFirst (u f).status (u f).nodes (behaviour_after_all (p.behaviour i) (u f).trace))
    → LastStays p (update_frame fs i u)
stays_moved p fs i f u all e go = λ h c. elim (frame_at_moved fs i p.last_iteration f u h e c) [
  | inl here ↦ (
      let was = all f (subst (λ n. frame_at fs n ≡ Some f) (sym here.0) e) in
      let now = go (sym here.0) (subst (λ n. StaysInFirst f.status f.nodes
      (behaviour_after_all (p.behaviour n) f.trace)) here.0 was) in
      rw here.1 (subst (λ n. StaysInFirst (u f).status (u f).nodes (behaviour_after_all (p.behaviour n) (u f).trace))
      (sym here.0) now))
  | inr there ↦ all h there.1
]

-- the last iteration stays in its instance 0 after every event
stays_after : (p : Pipeline) (limit : ℕ) (s : State) (e : Event) → AlwaysClosesLoop (p.behaviour p.last_iteration)
    → Allowed p limit s e → LastStays p s.frames → LastStays p (next_state s e).frames
stays_after p limit s (Begin i) closing h all = λ f c. elim (frame_at_begun s.frames p.last_iteration f c) [
  | inl new ↦ rw new.1 (refl, closing)
  | inr old ↦ all f old.1
]
stays_after p limit s (Access i a) closing h all =
    let r = h.control in
    let f = r.frame in
    stays_moved p s.frames i f (with_action (Accessed a) Running) all r.is (λ m was. (
    let w : StaysInFirst Running f.nodes (behaviour_after_all (p.behaviour i) f.trace) =
    subst (λ w. StaysInFirst w f.nodes (behaviour_after_all (p.behaviour i) f.trace)) r.runs was in (
      w.0,
      subst AlwaysClosesLoop (sym (behaviour_after_all-push (p.behaviour i) f.trace (Accessed a)))
          (closes_after_access (behaviour_after_all (p.behaviour i) f.trace) a w.1
          (action_offered p s i f (Accessed a) r.is h.program.0)),
    )))
stays_after p limit s (Advance i k n) closing h all =
    let r = h.control.running in
    let f = r.frame in
    stays_moved p s.frames i f (with_action (Staged k n) (Pending k n)) all r.is (λ m was. (
    let w : StaysInFirst Running f.nodes (behaviour_after_all (p.behaviour i) f.trace) =
    subst (λ w. StaysInFirst w f.nodes (behaviour_after_all (p.behaviour i) f.trace)) r.runs was in
    closes_names_no_stage (behaviour_after_all (p.behaviour i) f.trace) k n w.1
    (action_offered p s i f (Staged k n) r.is h.program)))
stays_after p limit s (Enter i) closing h all =
    let m = h.control in
    stays_moved p s.frames i m.frame (λ f. enter_pending f.status f) all m.is
    (λ q was. absurd (subst (λ w. StaysInFirst w m.frame.nodes
    (behaviour_after_all (p.behaviour i) m.frame.trace)) m.named was))
stays_after p limit s (Finish i e) closing h all =
    let r = h.control.running in
    let f = r.frame in
    stays_moved p s.frames i f (with_action (Ended e) (Completed e)) all r.is (λ m was. (
    let w : StaysInFirst Running f.nodes (behaviour_after_all (p.behaviour i) f.trace) =
    subst (λ w. StaysInFirst w f.nodes (behaviour_after_all (p.behaviour i) f.trace)) r.runs was in (
      w.0,
      closes_by_end (behaviour_after_all (p.behaviour i) f.trace) e w.1
          (action_offered p s i f (Ended e) r.is h.program),
    )))
stays_after p limit s Stop closing h all = all

-- in every run the last iteration stays in its instance 0
pub run_stays : {p : Pipeline} {limit : ℕ} {events : List Event} {s : State}
    → AlwaysClosesLoop (p.behaviour p.last_iteration) → Run p limit events s → LastStays p s.frames
run_stays closing EmptyRun = λ f e. absurd (cc)
run_stays {p} {limit} closing (RunThen {s = t} r e h) = stays_after p limit t e closing h (run_stays closing r)

-- the loop does not go on after it
pub stays_or_continues : (w : Status) (nodes : List Node) (d : Behaviour) → StaysInFirst w nodes d
    → ContinuesLoop w nodes → ⊥
stays_or_continues Running nodes d s g = let one = s.0 in omega (arith, one, g)
stays_or_continues (Pending k n) nodes d s g = s
stays_or_continues (Completed e) nodes d s g =
    let one = s.0 in
    let wide = g s.1 in omega (arith, one, wide)
