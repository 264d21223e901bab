-- The control part depends on the instances and the status of each iteration, and not on its trace.
use Rattle.std.proofs.Common.{[], List, map, ℕ, Some, ◌≡◌, ◌∷◌, zero, refl, ap, ◌∙◌, suc, length, sym, ◌+◌, ℤ, subst, arith, ◌-◌, ◌<ℤ◌}
use Rattle.std.proofs.Common.{false, ◌++◌}
use Rattle.std.proofs.lemmas.List.{length-map, map-append}
use Rattle.pipe_model.specs.Runs.Allowed.{IsRunning, LeftHasPassed, HasPassed, ControlAllows, ContinuesLoop}
use Rattle.pipe_model.specs.Pipelines.Behaviour.{Staged, Ended, Accessed}
use Rattle.pipe_model.specs.Races.Columns.{node_at}
use Rattle.pipe_model.specs.Runs.ControlRun.{is_access}
use Rattle.pipe_model.specs.declared.status.Status.{Status}
use Rattle.pipe_model.specs.declared.status.Status.TheVariants.{Running, Pending, Completed}
use Rattle.pipe_model.specs.Runs.State.{Frame, frame_at, alive_in, alive_one, update_frame, enter_pending}
use Rattle.pipe_model.specs.Runs.State.{State, next_state, fresh_frame, with_action}
use Rattle.pipe_model.specs.declared.access.Access.{Access as Cell_access}
use Rattle.pipe_model.specs.declared.event.Event.{Event}
use Rattle.pipe_model.specs.declared.event.Event.TheVariants.{Begin, Access, Advance, Enter, Finish, Stop}
use Rattle.pipe_model.specs.declared.node.Node.{Node}

-- a frame without its trace
abbrev pub outline : Frame → Frame
outline f = record f { trace = [] }

-- all frames without their traces
abbrev pub outlines : List Frame → List Frame
outlines fs = map outline fs

-- a frame with the same instances and status
pub record HasSameFrame (fs : List Frame) (i : ℕ) (g : Frame) : Type 0 where
  pub frame : Frame
  pub is : frame_at fs i ≡ Some frame
  pub nodes : frame.nodes ≡ g.nodes
  pub status : frame.status ≡ g.status

-- frames with equal outlines have such a frame
pub same_frame : (fs gs : List Frame) (i : ℕ) (g : Frame) → outlines fs ≡ outlines gs → frame_at gs i ≡ Some g
    → HasSameFrame fs i g
same_frame [] [] i g e is = absurd (cc)
same_frame [] (h ∷ gs) i g e is = absurd (cc)
same_frame (f ∷ fs) [] i g e is = absurd (cc)
same_frame (f ∷ fs) (h ∷ gs) zero g e is =
    let head : outline f ≡ outline h = cc in
    let same : h ≡ g = cc in
    record {
      frame = f;
      is = refl;
      nodes = ap (λ (x : Frame). x.nodes) head ∙ ap (λ (x : Frame). x.nodes) same;
      status = ap (λ (x : Frame). x.status) head ∙ ap (λ (x : Frame). x.status) same;
    }
same_frame (f ∷ fs) (h ∷ gs) (suc i) g e is =
    let tail : outlines fs ≡ outlines gs = cc in
    let r = same_frame fs gs i g tail is in
    record { frame = r.frame; is = r.is; nodes = r.nodes; status = r.status }

-- lists of frames with equal outlines have equal lengths
same_length : (fs gs : List Frame) → outlines fs ≡ outlines gs → length fs ≡ length gs
same_length fs gs e = sym (length-map fs outline) ∙ ap (λ (l : List Frame). length l) e ∙ length-map gs outline

-- as many of the outlines are alive as of the frames
same_alive : (fs : List Frame) → alive_in (outlines fs) ≡ alive_in fs
same_alive [] = refl
same_alive (f ∷ fs) = ap (λ n. alive_one f.status + n) (same_alive fs)

-- an update that depends on the outline alone
abbrev GoesByOutline : (Frame → Frame) → Type 0
GoesByOutline u = (f : Frame) → outline (u f) ≡ outline (u (outline f))

-- the outlines after such an update
outlines-update_frame : (fs : List Frame) (i : ℕ) (u : Frame → Frame) → GoesByOutline u
    → outlines (update_frame fs i u) ≡ outlines (update_frame (outlines fs) i u)
outlines-update_frame [] i u g = refl
outlines-update_frame (f ∷ fs) zero u g =
    ap (λ (h : Frame). h ∷ outlines fs) (g f) ∙ ap (λ l. outline (u (outline f)) ∷ l) (twice fs)
  where
    twice : (hs : List Frame) → outlines hs ≡ outlines (outlines hs)
    twice [] = refl
    twice (h ∷ hs) = ap (λ l. outline h ∷ l) (twice hs)
outlines-update_frame (f ∷ fs) (suc i) u g = ap (λ l. outline f ∷ l) (outlines-update_frame fs i u g)

-- such an update keeps outlines equal
update_same : (fs gs : List Frame) (i : ℕ) (u : Frame → Frame) → GoesByOutline u → outlines fs ≡ outlines gs
    → outlines (update_frame fs i u) ≡ outlines (update_frame gs i u)
update_same fs gs i u g e =
    outlines-update_frame fs i u g ∙ ap (λ l. outlines (update_frame l i u)) e ∙ sym (outlines-update_frame gs i u g)

-- entering is such an update
enters_by_outline : (w : Status) (f : Frame) → outline (enter_pending w f) ≡ outline (enter_pending w (outline f))
enters_by_outline Running f = refl
enters_by_outline (Pending k n) f = refl
enters_by_outline (Completed e) f = refl

-- two states with the same control part
pub record SameControl (s c : State) : Type 0 where
  pub frames : outlines s.frames ≡ outlines c.frames
  pub stopped : s.stopped ≡ c.stopped

-- the same iterations run in both
running_same : (s c : State) (i : ℕ) → SameControl s c → (r : IsRunning c i)
    → (q : IsRunning s i) × (q.frame.nodes ≡ r.frame.nodes)
running_same s c i e r =
    let h = same_frame s.frames c.frames i r.frame e.frames r.is in
    (record { frame = h.frame; is = h.is; runs = h.status ∙ r.runs }, h.nodes)

-- the same iterations have passed a number in both
left_passed_same : (fs gs : List Frame) (i : ℕ) (n : ℤ) → outlines fs ≡ outlines gs → LeftHasPassed gs i n
    → LeftHasPassed fs i n
left_passed_same fs gs zero n e l = tt
left_passed_same fs gs (suc j) n e l = λ f is.
    let h = same_frame gs fs j f (sym e) is in
    subst (λ w. HasPassed w f.nodes n) h.status
    (subst (λ (x : List Node). HasPassed h.frame.status x n) h.nodes (l h.frame h.is))

-- the same events are allowed in both
pub control_same : (limit : ℕ) (s c : State) (e : Event) → SameControl s c → ControlAllows limit c e
    → ControlAllows limit s e
control_same limit s c (Begin i) same h = record {
  number = h.number ∙ sym (same_length s.frames c.frames same.frames);
  room = (
      let a = sym (same_alive s.frames) ∙ ap alive_in same.frames ∙ same_alive c.frames in
      let r = h.room in
      omega (arith, a, r));
  follows = λ j f e is. (
      let g = same_frame c.frames s.frames j f (sym same.frames) is in
      subst (λ w. ContinuesLoop w f.nodes) g.status
      (subst (λ (x : List Node). ContinuesLoop g.frame.status x) g.nodes (h.follows j g.frame e g.is)));
}
control_same limit s c (Access i a) same h = (running_same s c i same h).0
control_same limit s c (Advance i k n) same h =
    let r = running_same s c i same h.running in
    record {
      running = r.0;
      kind = h.kind;
      above = subst (λ (x : List Node). (node_at x (length x - 1)).number <ℤ n) (sym r.1) h.above;
    }
control_same limit s c (Enter i) same h =
    let r = same_frame s.frames c.frames i h.frame same.frames h.is in
    record {
      frame = r.frame;
      kind = h.kind;
      number = h.number;
      is = r.is;
      named = r.status ∙ h.named;
      free = λ w. left_passed_same s.frames c.frames i h.number same.frames (h.free w);
    }
control_same limit s c (Finish i e) same h =
    let r = running_same s c i same h.running in
    record { running = r.0; first = λ w. ap (λ (x : List Node). length x) r.1 ∙ h.first w }
control_same limit s c Stop same h = tt

-- two states with the same control part have the same control part after an event
pub after_same : (s c : State) (e : Event) → is_access e ≡ false → SameControl s c
    → SameControl (next_state s e) (next_state c e)
after_same s c (Begin i) no_access same = record {
  frames = map-append outline s.frames (fresh_frame ∷ []) ∙ ap (λ l. l ++ fresh_frame ∷ []) same.frames
      ∙ sym (map-append outline c.frames (fresh_frame ∷ []));
  stopped = same.stopped;
}
after_same s c (Access i a) no_access same = absurd (cc)
after_same s c (Advance i k n) no_access same = record {
  frames = update_same s.frames c.frames i (with_action (Staged k n) (Pending k n)) (λ f. refl) same.frames;
  stopped = same.stopped;
}
after_same s c (Enter i) no_access same = record {
  frames = update_same s.frames c.frames i (λ f. enter_pending f.status f) (λ f. enters_by_outline f.status f)
      same.frames;
  stopped = same.stopped;
}
after_same s c (Finish i e) no_access same = record {
  frames = update_same s.frames c.frames i (with_action (Ended e) (Completed e)) (λ f. refl) same.frames;
  stopped = same.stopped;
}
after_same s c Stop no_access same = record { frames = same.frames; stopped = refl }

-- an access changes no outline
outlines-accessed : (fs : List Frame) (i : ℕ) (f : Frame) (a : Cell_access) → frame_at fs i ≡ Some f
    → f.status ≡ Running → outlines (update_frame fs i (with_action (Accessed a) Running)) ≡ outlines fs
outlines-accessed [] i f a e r = refl
outlines-accessed (x ∷ fs) zero f a e r =
    let same : x ≡ f = cc in
    let runs : x.status ≡ Running = ap (λ (h : Frame). h.status) same ∙ r in
    ap (λ w. (let h : Frame = record { nodes = x.nodes; status = w; trace = [] } in h) ∷ outlines fs) (sym runs)
outlines-accessed (x ∷ fs) (suc i) f a e r = ap (λ l. outline x ∷ l) (outlines-accessed fs i f a e r)

-- an access does not change the control part
pub access_same : (s c : State) (i : ℕ) (a : Cell_access) → SameControl s c → IsRunning s i
    → SameControl (next_state s (Access i a)) c
access_same s c i a same r = record {
  frames = outlines-accessed s.frames i r.frame a r.is r.runs ∙ same.frames;
  stopped = same.stopped;
}
