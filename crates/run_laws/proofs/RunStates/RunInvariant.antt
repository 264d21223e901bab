-- What every run keeps: sound frames, and accesses that its own instances made.
use Rattle.std.proofs.Common.{ℕ, length, ◌<◌, Some, ◌≡◌, List, subst, sym, inl, ap, ◌∙◌, arith, inr, [], ◌∷◌, ◌++◌, ◌-◌, ◌+◌}
use Rattle.pipe_model.specs.Runs.Allowed.{MayBegin, IsRunning, Allowed}
use Rattle.pipe_model.specs.Pipelines.Behaviour.{accesses_in, Accessed}
use Rattle.pipe_model.specs.Races.Columns.{at}
use Rattle.pipe_model.specs.Pipelines.Pipeline.{Pipeline}
use Rattle.pipe_model.specs.Races.DeterminacyRaces.{Among, Here, IsRaceFree}
use Rattle.pipe_model.specs.Runs.Run.{Run, EmptyRun, RunThen}
use Rattle.pipe_model.specs.declared.status.Status.TheVariants.{Running}
use Rattle.pipe_model.specs.Runs.State.{State, Frame, own_columns, frame_at, next_state, fresh_frame, current_index, with_action}
use Rattle.pipe_model.specs.Runs.State.{initial_state}
use Rattle.pipe_model.specs.declared.access.Access.{Access as Cell_access}
use Rattle.pipe_model.specs.declared.access.NodeAccess.{NodeAccess}
use Rattle.pipe_model.specs.declared.event.Event.{Event}
use Rattle.pipe_model.specs.declared.event.Event.TheVariants.{Begin, Access, Advance, Enter, Finish, Stop}
use Rattle.run_laws.proofs.Iterations.TraceParts.{accesses_in-append}
use Rattle.run_laws.proofs.RunStates.FrameMoves.{IsSound, sound_moved, frame_at_moved, sound_begun, frame_at_begun, IsMove, moves_running}
use Rattle.run_laws.proofs.RunStates.Frames.{nodes_at_frame}
use Rattle.run_laws.proofs.RunStates.GrowingColumns.{extends_begun, extends_moved}
use Rattle.run_laws.proofs.RunStates.LaterEdges.{HasInstance, columns_of_frames, ExtendsColumns, no_race_before}
use Rattle.pipe_model.proofs.Members.{none_among, among_either, only_one, among_left, among_right}
use Rattle.run_laws.proofs.RunStates.QuietEvents.{IsQuiet, instance_stays, quiet_extends, advance_is_quiet, enter_is_quiet, finish_is_quiet}

-- an access of iteration i is one of the run, by an instance of that iteration
pub record IsMadeBy (s : State) (i : ℕ) (f : Frame) (a : Cell_access) : Type 0 where
  pub index : ℕ
  pub inside : index < length f.nodes
  pub made : Among (record { node = at i index; access = a }) s.accesses

-- the frames are sound, and traces and accesses are of the run's own instances
pub record IsConsistent (s : State) : Type 0 where
  pub sound : IsSound s.frames
  pub located : (a : NodeAccess) → Among a s.accesses → HasInstance (own_columns s) a.node
  pub held : (i : ℕ) (f : Frame) (a : Cell_access) → frame_at s.frames i ≡ Some f → Among a (accesses_in f.trace)
      → IsMadeBy s i f a

-- an event that makes no access keeps the state consistent
quiet_consistent : (s : State) (fs : List Frame) → IsConsistent s → IsQuiet s fs
    → IsConsistent (record s { frames = fs })
quiet_consistent s fs k q = record {
  sound = subst IsSound (sym q.result) (sound_moved s.frames q.place q.frame q.update k.sound q.is q.moves);
  located = λ a m. instance_stays (own_columns s) (columns_of_frames fs) a.node (quiet_extends s fs k.sound q)
      (k.located a m);
  held = λ i f a c m.
      elim (frame_at_moved s.frames q.place i q.frame q.update f q.is
      (subst (λ gs. frame_at gs i ≡ Some f) q.result c)) [
        | inl here ↦ (
            let m' : Among a (accesses_in q.frame.trace) =
            subst (λ l. Among a l) (ap (λ (h : Frame). accesses_in h.trace) here.1 ∙ q.quiet) m in
            let is : frame_at s.frames i ≡ Some q.frame =
            subst (λ n. frame_at s.frames n ≡ Some q.frame) (sym here.0) q.is in
            let h = k.held i q.frame a is m' in
            let long = q.moves.longer in
            let same = ap (λ (h : Frame). length h.nodes) here.1 in
            let inside = h.inside in
            record { index = h.index; inside = omega (arith, inside, long, same); made = h.made })
        | inr there ↦ (let h = k.held i f a there.1 m in record { index = h.index; inside = h.inside; made = h.made })
      ];
}

-- the beginning of an iteration keeps the state consistent
begun_consistent : (limit : ℕ) (s : State) (i : ℕ) → IsConsistent s → MayBegin limit s i
    → IsConsistent (next_state s (Begin i))
begun_consistent limit s i k may = record {
  sound = sound_begun limit s i k.sound may;
  located = λ a m. instance_stays (own_columns s) (columns_of_frames (s.frames ++ fresh_frame ∷ [])) a.node
      (extends_begun s.frames fresh_frame k.sound) (k.located a m);
  held = λ j f a c m. elim (frame_at_begun s.frames j f c) [
    | inl new ↦ (
        let m' : Among a [] = subst (λ (h : Frame). Among a (accesses_in h.trace)) new.1 m in
        absurd (none_among a m'))
    | inr old ↦ (let h = k.held j f a old.1 m in record { index = h.index; inside = h.inside; made = h.made })
  ];
}

-- an access is made by the last instance of its iteration
abbrev pub access_by : State → ℕ → Cell_access → NodeAccess
access_by s i a = record { node = at i (current_index (frame_at s.frames i)); access = a }

-- an access as an event of its iteration
access_moves : (s : State) (i : ℕ) (a : Cell_access) (r : IsRunning s i)
    → IsMove s.frames i r.frame (with_action (Accessed a) Running r.frame)
access_moves s i a r = moves_running s.frames i r.frame (Accessed a) r.runs

-- an access extends the columns
access_extends : (s : State) (i : ℕ) (a : Cell_access) → IsConsistent s → IsRunning s i
    → ExtendsColumns (own_columns s) (own_columns (next_state s (Access i a)))
access_extends s i a k r =
    extends_moved s.frames i r.frame (with_action (Accessed a) Running) k.sound r.is (access_moves s i a r)

-- the index of the current instance
current_index_is : (s : State) (i : ℕ) (r : IsRunning s i)
    → current_index (frame_at s.frames i) ≡ length r.frame.nodes - 1
current_index_is s i r = ap current_index r.is

-- the current instance is the last of its column
pub current_index_last : (s : State) (i : ℕ) (a : Cell_access) → IsConsistent s → (r : IsRunning s i)
    → current_index (frame_at s.frames i) + 1 ≡ length r.frame.nodes
current_index_last s i a k r =
    let filled = (k.sound.well i r.frame r.is).filled in
    let e = current_index_is s i r in
    omega (arith, filled, e)

-- the current instance is one of the columns
current_is_instance : (s : State) (i : ℕ) (a : Cell_access) → IsConsistent s → IsRunning s i
    → HasInstance (own_columns s) (access_by s i a).node
current_is_instance s i a k r =
    let l = current_index_last s i a k r in
    rw (nodes_at_frame s.frames i r.frame r.is) (omega (arith, l))

-- an access keeps the state consistent
access_consistent : (s : State) (i : ℕ) (a : Cell_access) → IsConsistent s → IsRunning s i
    → IsConsistent (next_state s (Access i a))
access_consistent s i a k r =
    let x = access_by s i a in
    let ext = access_extends s i a k r in
    record {
      sound = sound_moved s.frames i r.frame (with_action (Accessed a) Running) k.sound r.is (access_moves s i a r);
      located = λ b m. instance_stays (own_columns s) (own_columns (next_state s (Access i a))) b.node ext
          (elim (among_either b s.accesses (x ∷ []) m) [
            | inl old ↦ k.located b old
            | inr new ↦ rw (only_one b x new) (current_is_instance s i a k r)
          ]);
      held = λ j f b c m. elim (frame_at_moved s.frames i j r.frame (with_action (Accessed a) Running) f r.is c) [
        | inl here ↦ (
            let m' : Among b (accesses_in r.frame.trace ++ a ∷ []) =
            subst (λ l. Among b l) (ap (λ (h : Frame). accesses_in h.trace) here.1
            ∙ accesses_in-append r.frame.trace (Accessed a ∷ [])) m in
            let same = ap (λ (h : Frame). length h.nodes) here.1 in
            elim (among_either b (accesses_in r.frame.trace) (a ∷ []) m') [
              | inl old ↦ (
                  let h = k.held j r.frame b (subst (λ n. frame_at s.frames n ≡ Some r.frame) (sym here.0) r.is)
                  old in
                  let inside = h.inside in
                  record {
                    index = h.index;
                    inside = omega (arith, inside, same);
                    made = among_left (record { node = at j h.index; access = b }) s.accesses (x ∷ []) h.made;
                  })
              | inr new ↦ (
                  let l = current_index_last s i a k r in
                  record {
                    index = current_index (frame_at s.frames i);
                    inside = omega (arith, l, same);
                    made = rw (here.0, only_one b a new) (among_right x s.accesses (x ∷ []) Here);
                  })
            ])
        | inr there ↦ (
            let h = k.held j f b there.1 m in
            record {
              index = h.index;
              inside = h.inside;
              made = among_left (record { node = at j h.index; access = b }) s.accesses (x ∷ []) h.made;
            })
      ];
    }

-- the state before any iteration begins is consistent
empty_consistent : IsConsistent initial_state
empty_consistent = record {
  sound = record {
    well = λ i f e. absurd (cc);
    goes = λ i f e l. absurd (cc);
    waits = λ i f g e c k l w. absurd (cc);
  };
  located = λ a m. absurd (none_among a m);
  held = λ i f a e m. absurd (cc);
}

-- every event keeps the state consistent
consistent_after : (p : Pipeline) (limit : ℕ) (s : State) (e : Event) → Allowed p limit s e → IsConsistent s
    → IsConsistent (next_state s e)
consistent_after p limit s (Begin i) h k = begun_consistent limit s i k h.control
consistent_after p limit s (Access i a) h k = access_consistent s i a k h.control
consistent_after p limit s (Advance i kind n) h k =
    quiet_consistent s (next_state s (Advance i kind n)).frames k (advance_is_quiet s i kind n h.control)
consistent_after p limit s (Enter i) h k =
    quiet_consistent s (next_state s (Enter i)).frames k (enter_is_quiet s i h.control)
consistent_after p limit s (Finish i e) h k =
    quiet_consistent s (next_state s (Finish i e)).frames k (finish_is_quiet s i e h.control)
consistent_after p limit s Stop h k = record {
  sound = k.sound;
  located = k.located;
  held = λ i f a c m. (
      let g = k.held i f a c m in
      record { index = g.index; inside = g.inside; made = g.made });
}

-- the state of every run is consistent
pub run_consistent : {p : Pipeline} {limit : ℕ} {events : List Event} {s : State} → Run p limit events s
    → IsConsistent s
run_consistent EmptyRun = empty_consistent
run_consistent {p} {limit} (RunThen {s = t} r e h) = consistent_after p limit t e h (run_consistent r)

-- if there is no race after, there was none before
race_free_before : (s : State) (fs : List Frame) (all : List NodeAccess) → IsConsistent s
    → ExtendsColumns (own_columns s) (columns_of_frames fs) → ((a : NodeAccess) → Among a s.accesses → Among a all)
    → IsRaceFree (columns_of_frames fs) all → IsRaceFree (own_columns s) s.accesses
race_free_before s fs all k ext wide free =
    no_race_before (own_columns s) (columns_of_frames fs) s.accesses all ext wide k.located free

-- a race does not go away
pub race_stays : (p : Pipeline) (limit : ℕ) (s : State) (e : Event) → Allowed p limit s e → IsConsistent s
    → IsRaceFree (own_columns (next_state s e)) (next_state s e).accesses → IsRaceFree (own_columns s) s.accesses
race_stays p limit s (Begin i) h k free =
    race_free_before s (s.frames ++ fresh_frame ∷ []) s.accesses k (extends_begun s.frames fresh_frame k.sound)
    (λ a m. m) free
race_stays p limit s (Access i a) h k free =
    race_free_before s (next_state s (Access i a)).frames (next_state s (Access i a)).accesses k
    (access_extends s i a k h.control) (λ b m. among_left b s.accesses (access_by s i a ∷ []) m) free
race_stays p limit s (Advance i kind n) h k free =
    race_free_before s (next_state s (Advance i kind n)).frames s.accesses k
    (quiet_extends s (next_state s (Advance i kind n)).frames k.sound (advance_is_quiet s i kind n h.control))
    (λ a m. m) free
race_stays p limit s (Enter i) h k free =
    race_free_before s (next_state s (Enter i)).frames s.accesses k
    (quiet_extends s (next_state s (Enter i)).frames k.sound (enter_is_quiet s i h.control)) (λ a m. m) free
race_stays p limit s (Finish i e) h k free =
    race_free_before s (next_state s (Finish i e)).frames s.accesses k
    (quiet_extends s (next_state s (Finish i e)).frames k.sound (finish_is_quiet s i e h.control)) (λ a m. m) free
race_stays p limit s Stop h k free = free
