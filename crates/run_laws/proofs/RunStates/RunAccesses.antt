-- A run has the accesses of its iterations, each with its instance.
use Rattle.std.proofs.Common.{List, ℕ, Some, ◌≡◌, ◌⊎◌, inl, subst, inr, ◌∙◌, suc, length, ap, arith, ◌+◌, [], ◌∷◌, ◌++◌, map, refl}
use Rattle.std.proofs.lemmas.Bool.{cases_eq}
use Rattle.std.proofs.lemmas.List.{map-append}
use Rattle.pipe_model.specs.Runs.Allowed.{IsRunning, Allowed}
use Rattle.pipe_model.specs.Pipelines.Behaviour.{nodes_in, Accessed, Staged, Ended, accesses_in}
use Rattle.pipe_model.specs.Races.Columns.{at}
use Rattle.pipe_model.specs.Pipelines.Pipeline.{Pipeline}
use Rattle.pipe_model.specs.Races.DeterminacyRaces.{Among, Here}
use Rattle.pipe_model.specs.Runs.Run.{Run, EmptyRun, RunThen}
use Rattle.pipe_model.specs.Pipelines.SerialElision.{located, located_from}
use Rattle.pipe_model.specs.declared.status.Status.TheVariants.{Running}
use Rattle.pipe_model.specs.Runs.State.{Frame, frame_at, State, update_frame, next_state, current_index, with_action, fresh_frame}
use Rattle.pipe_model.specs.declared.status.Status.TheVariants.{Pending, Completed}
use Rattle.pipe_model.specs.Runs.State.{enter_pending, accesses_of}
use Rattle.pipe_model.specs.declared.access.Access.{Access as Cell_access}
use Rattle.pipe_model.specs.declared.access.NodeAccess.{NodeAccess}
use Rattle.pipe_model.specs.declared.event.Event.{Event}
use Rattle.pipe_model.specs.declared.event.Event.TheVariants.{Access, Begin, Advance, Enter, Finish, Stop}
use Rattle.pipe_model.specs.declared.node.Node.{Node}
use Rattle.run_laws.proofs.Iterations.LocatedActions.{located-accessed, located-staged, located-ended, accesses_of-located}
use Rattle.run_laws.proofs.RunStates.FrameAccesses.{accesses_by_column}
use Rattle.run_laws.proofs.RunStates.FrameMoves.{frame_at_moved, frame_at_begun, enter_pending_is}
use Rattle.run_laws.proofs.RunStates.FrameTraces.{AllTraced, running_column, run_traced}
use Rattle.run_laws.proofs.RunStates.Frames.{frame_at_updated, frame_at_other, frame_at_push, frame_at_within}
use Rattle.pipe_model.proofs.Members.{among_either, among_left, only_one, among_right, none_among}

-- an access is in the trace of a frame
pub record IsInSomeFrame (fs : List Frame) (x : NodeAccess) : Type 0 where
  pub place : ℕ
  pub frame : Frame
  pub is : frame_at fs place ≡ Some frame
  pub made : Among x (located place 0 frame.trace)

-- the state has the accesses of its frames
pub record HasLocatedAccesses (s : State) : Type 0 where
  pub spread : (x : NodeAccess) → Among x s.accesses → IsInSomeFrame s.frames x
  pub gathered : (x : NodeAccess) → IsInSomeFrame s.frames x → Among x s.accesses

-- an access after an update: in the updated frame, or as before
moved_frame : (fs : List Frame) (i : ℕ) (f : Frame) (u : Frame → Frame) (x : NodeAccess) → frame_at fs i ≡ Some f
    → IsInSomeFrame (update_frame fs i u) x → (Among x (located i 0 (u f).trace)) ⊎ (IsInSomeFrame fs x)
moved_frame fs i f u x e st = elim (frame_at_moved fs i st.place f u st.frame e st.is) [
  | inl here ↦ inl (subst (λ (h : Frame). Among x (located i 0 h.trace)) here.1
      (subst (λ n. Among x (located n 0 st.frame.trace)) here.0 st.made))
  | inr there ↦ inr (record { place = st.place; frame = st.frame; is = there.1; made = st.made })
]

-- an access is kept by an update that keeps its frame's accesses
stays_in_frame : (fs : List Frame) (i : ℕ) (f : Frame) (u : Frame → Frame) (x : NodeAccess) → frame_at fs i ≡ Some f
    → (Among x (located i 0 f.trace) → Among x (located i 0 (u f).trace)) → IsInSomeFrame fs x
    → IsInSomeFrame (update_frame fs i u) x
stays_in_frame fs i f u x e keep st = elim (cases_eq st.place i) [
  | inl same ↦ (
      let is : frame_at fs i ≡ Some st.frame = subst (λ n. frame_at fs n ≡ Some st.frame) same st.is in
      let equal : st.frame ≡ f = cc in
      record {
        place = i;
        frame = u f;
        is = frame_at_updated fs i f u e;
        made = keep (subst (λ (h : Frame). Among x (located i 0 h.trace)) equal
            (subst (λ n. Among x (located n 0 st.frame.trace)) same st.made));
      })
  | inr other ↦ record {
    place = st.place;
    frame = st.frame;
    is = frame_at_other fs i st.place u other ∙ st.is;
    made = st.made;
  }
]

-- an event that makes no access keeps the accesses located
quiet_located : (s : State) (i : ℕ) (f : Frame) (u : Frame → Frame) → frame_at s.frames i ≡ Some f
    → located i 0 (u f).trace ≡ located i 0 f.trace → HasLocatedAccesses s
    → HasLocatedAccesses (record s { frames = update_frame s.frames i u })
quiet_located s i f u e q k = record {
  spread = λ x m. stays_in_frame s.frames i f u x e (λ h. rw q h) (k.spread x m);
  gathered = λ x st. elim (moved_frame s.frames i f u x e st) [
    | inl here ↦ k.gathered x (record { place = i; frame = f; is = e; made = rw q at here })
    | inr there ↦ k.gathered x there
  ];
}

-- an access keeps the accesses located
access_located : (p : Pipeline) (s : State) (i : ℕ) (a : Cell_access) → AllTraced p s.frames → (r : IsRunning s i)
    → HasLocatedAccesses s → HasLocatedAccesses (next_state s (Access i a))
access_located p s i a all r k =
    let f = r.frame in
    let t = all i f r.is in
    let long : suc (length (nodes_in f.trace)) ≡ length f.nodes =
    ap (λ (l : List Node). length l) (running_column p i f t r.runs) in
    let index : current_index (frame_at s.frames i) ≡ 0 + length (nodes_in f.trace) = (
    let e = ap current_index r.is in
    omega (arith, e, long)) in
    let x : NodeAccess = record { node = at i (current_index (frame_at s.frames i)); access = a } in
    let same : located i 0 (f.trace ++ Accessed a ∷ []) ≡ located i 0 f.trace ++ x ∷ [] =
    rw index (located-accessed i 0 f.trace a) in
    record {
      spread = λ y m. elim (among_either y s.accesses (x ∷ []) m) [
        | inl old ↦ stays_in_frame s.frames i f (with_action (Accessed a) Running) y r.is
            (λ h. rw same (among_left y (located i 0 f.trace) (x ∷ []) h)) (k.spread y old)
        | inr new ↦ record {
          place = i;
          frame = with_action (Accessed a) Running f;
          is = frame_at_updated s.frames i f (with_action (Accessed a) Running) r.is;
          made = rw (same, only_one y x new) (among_right x (located i 0 f.trace) (x ∷ []) Here);
        }
      ];
      gathered = λ y st. elim (moved_frame s.frames i f (with_action (Accessed a) Running) y r.is st) [
        | inl here ↦ elim (among_either y (located i 0 f.trace) (x ∷ []) (subst (λ l. Among y l) same here)) [
          | inl old ↦ among_left y s.accesses (x ∷ [])
              (k.gathered y (record { place = i; frame = f; is = r.is; made = old }))
          | inr new ↦ among_right y s.accesses (x ∷ []) new
        ]
        | inr there ↦ among_left y s.accesses (x ∷ []) (k.gathered y there)
      ];
    }

-- the beginning of an iteration keeps the accesses located
begun_located : (s : State) (i : ℕ) → HasLocatedAccesses s → HasLocatedAccesses (next_state s (Begin i))
begun_located s i k = record {
  spread = λ x m. (
      let st = k.spread x m in
      record {
        place = st.place;
        frame = st.frame;
        is = frame_at_push s.frames fresh_frame st.place (frame_at_within s.frames st.place st.frame st.is) ∙ st.is;
        made = st.made;
      });
  gathered = λ x st. elim (frame_at_begun s.frames st.place st.frame st.is) [
    | inl new ↦ absurd (none_among x (subst (λ (h : Frame). Among x (located st.place 0 h.trace)) new.1 st.made))
    | inr old ↦ k.gathered x (record { place = st.place; frame = st.frame; is = old.1; made = st.made })
  ];
}

-- every event keeps the accesses located
located_after : (p : Pipeline) (limit : ℕ) (s : State) (e : Event) → Allowed p limit s e → AllTraced p s.frames
    → HasLocatedAccesses s → HasLocatedAccesses (next_state s e)
located_after p limit s (Begin i) h t k = begun_located s i k
located_after p limit s (Access i a) h t k = access_located p s i a t h.control k
located_after p limit s (Advance i j n) h t k =
    let r = h.control.running in
    let q = quiet_located s i r.frame (with_action (Staged j n) (Pending j n)) r.is
    (located-staged i 0 r.frame.trace j n) k in
    record { spread = q.spread; gathered = q.gathered }
located_after p limit s (Enter i) h t k =
    let m = h.control in
    let q = quiet_located s i m.frame (λ f. enter_pending f.status f) m.is
    (ap (λ (g : Frame). located i 0 g.trace) (enter_pending_is m.frame m.kind m.number m.named)) k in
    record { spread = q.spread; gathered = q.gathered }
located_after p limit s (Finish i e) h t k =
    let r = h.control.running in
    let q = quiet_located s i r.frame (with_action (Ended e) (Completed e)) r.is (located-ended i 0 r.frame.trace e)
    k in
    record { spread = q.spread; gathered = q.gathered }
located_after p limit s Stop h t k = record { spread = k.spread; gathered = k.gathered }

-- every run has the accesses of its frames
pub run_located : {p : Pipeline} {limit : ℕ} {events : List Event} {s : State} → Run p limit events s
    → HasLocatedAccesses s
run_located EmptyRun = record {
  spread = λ x m. absurd (none_among x m);
  gathered = λ x st. absurd (let e = st.is in cc);
}
run_located {p} {limit} (RunThen {s = t} r e h) = located_after p limit t e h (run_traced r) (run_located r)

-- the located accesses of the frames are their accesses
pub accesses_of-located_from : (i : ℕ) (fs : List Frame)
    → accesses_of (located_from i (map (λ f. f.trace) fs)) ≡ accesses_by_column fs
accesses_of-located_from i [] = refl
accesses_of-located_from i (f ∷ fs) =
    map-append (λ (n : NodeAccess). n.access) (located i 0 f.trace)
    (located_from (i + 1) (map (λ (h : Frame). h.trace) fs))
    ∙ ap (λ l. l ++ accesses_of (located_from (i + 1) (map (λ (h : Frame). h.trace) fs)))
    (accesses_of-located i 0 f.trace)
    ∙ ap (λ l. accesses_in f.trace ++ l) (accesses_of-located_from (i + 1) fs)

-- each of them is in a frame
pub among_located_frames : (i : ℕ) (fs : List Frame) (x : NodeAccess)
    → Among x (located_from i (map (λ f. f.trace) fs))
    → (j : ℕ) × (f : Frame) × (frame_at fs j ≡ Some f) × Among x (located (i + j) 0 f.trace)
among_located_frames i [] x m = absurd (none_among x m)
among_located_frames i (f ∷ fs) x m =
    elim (among_either x (located i 0 f.trace) (located_from (i + 1) (map (λ (h : Frame). h.trace) fs)) m) [
      | inl here ↦ (0, f, refl, (let e : i + 0 ≡ i = omega arith in rw e here))
      | inr there ↦ (
          let h = among_located_frames (i + 1) fs x there in
          (suc h.0, h.1, h.2, (let e : i + suc h.0 ≡ i + 1 + h.0 = omega arith in rw e h.3)))
    ]
