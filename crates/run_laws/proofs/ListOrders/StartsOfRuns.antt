-- The starts of a run are the instances of its own columns, in an order of its own dag.
use Rattle.std.proofs.Common.{suc, List, ℕ, Some, ◌≡◌, length, ◌<◌, arith, subst, sym, inl, inr, ap, [], ◌∷◌, ◌++◌, pos, ◌∙◌, refl}
use Rattle.std.proofs.Common.{append-nil, append_assoc}
use Rattle.std.proofs.lemmas.Bool.{cases_lt}
use Rattle.std.proofs.lemmas.List.{length-map, length_push}
use Rattle.pipe_model.specs.Runs.Allowed.{MayBegin, MayEnter, ControlAllows}
use Rattle.pipe_model.specs.Pipelines.Behaviour.{node_of, Action, Accessed, Staged, Ended}
use Rattle.pipe_model.specs.Races.Columns.{node_at, nodes_at, AreColumns, at}
use Rattle.pipe_model.specs.Orders.LeftParent.{left_parent, joined_at}
use Rattle.pipe_model.specs.Pipelines.Pipeline.{Pipeline}
use Rattle.pipe_model.specs.Runs.Run.{state_from, Run, EmptyRun, RunThen}
use Rattle.pipe_model.specs.Orders.Starts.{start_number, AreStarts, started_by, starts_from, starts_of}
use Rattle.pipe_model.specs.declared.status.Status.{Status}
use Rattle.pipe_model.specs.Runs.State.{Frame, frame_at, State, next_state, fresh_frame, own_columns, enter_pending, update_frame}
use Rattle.pipe_model.specs.declared.status.Status.TheVariants.{Running, Pending, Completed}
use Rattle.pipe_model.specs.Runs.State.{with_action, initial_state}
use Rattle.pipe_model.specs.declared.event.Event.{Event}
use Rattle.pipe_model.specs.declared.event.Event.TheVariants.{Begin, Enter, Access, Advance, Finish, Stop}
use Rattle.pipe_model.specs.declared.node.Kind.TheVariants.{Zero}
use Rattle.pipe_model.specs.declared.node.Node.{Node}
use Rattle.pipe_model.specs.declared.node.NodeId.{NodeId}
use Rattle.run_laws.proofs.ListOrders.GrownStarts.{AddsNode, all_grown, ordered_grown, grows, lefts_stay, joins_stay}
use Rattle.run_laws.proofs.ListOrders.OneMoreStart.{GrowsBy}
use Rattle.run_laws.proofs.RunStates.FrameMoves.{IsSound, sound_begun, frame_at_begun, entered_frame, enter_pending_is, IsMove}
use Rattle.run_laws.proofs.RunStates.FrameMoves.{moves_entered, sound_moved, frame_at_moved, moves_running, moves_pending, moves_completed}
use Rattle.run_laws.proofs.RunStates.Frames.{frame_at_exists, nodes_at_frame, nodes_at_past, frame_at_last, length-update_frame}
use Rattle.run_laws.proofs.RunStates.Frames.{frame_at_within}
use Rattle.run_laws.proofs.RunStates.FrontAndBack.{run_state_is}
use Rattle.run_laws.proofs.RunStates.GrowingColumns.{nodes_at_begun, extends_begun, nodes_at_moved, nodes_at_other, extends_moved}
use Rattle.run_laws.proofs.RunStates.LaterEdges.{columns_of_frames, ExtendsColumns}
use Rattle.run_laws.proofs.RunStates.GrowingColumns.{columns-action}

-- the invariant of the frames of a run and its starts
pub record IsStartSound (fs : List Frame) (starts : List NodeId) : Type 0 where
  pub sound : IsSound fs
  pub heads : (i : ℕ) (f : Frame) → frame_at fs i ≡ Some f → (node_at f.nodes 0).kind ≡ Zero
  pub all : (i k : ℕ) → k < length (nodes_at (columns_of_frames fs) i) → start_number starts i k < length starts
  pub ordered : AreStarts (columns_of_frames fs) starts

-- the columns of such frames
pub are_columns : (fs : List Frame) (starts : List NodeId) → IsStartSound fs starts
    → AreColumns (columns_of_frames fs)
are_columns fs starts h =
    let long : length (columns_of_frames fs) ≡ length fs = length-map fs (λ (f : Frame). f.nodes) in
    record {
      full = λ i l. (
          let f = frame_at_exists fs i (omega (arith, l, long)) in
          subst (λ (ns : List Node). 0 < length ns) (sym (nodes_at_frame fs i f.0 f.1))
          (h.sound.well i f.0 f.1).filled);
      first = λ i. elim (cases_lt i (length fs)) [
        | inl less ↦ (
            let f = frame_at_exists fs i less in
            subst (λ (ns : List Node). (node_at ns 0).kind ≡ Zero) (sym (nodes_at_frame fs i f.0 f.1))
            (h.heads i f.0 f.1))
        | inr ge ↦ ap (λ (ns : List Node). (node_at ns 0).kind) (nodes_at_past fs i (omega (arith, ge)))
      ];
    }

-- a start: the invariant after it, and what it keeps
pub record Grew (fs fs' : List Frame) (starts : List NodeId) (x : NodeId) : Type 0 where
  pub sound : IsStartSound fs' (starts ++ x ∷ [])
  pub by : GrowsBy (columns_of_frames fs) (columns_of_frames fs') starts x
  pub lefts : (c k : ℕ) → k < length (nodes_at (columns_of_frames fs) c)
      → left_parent (columns_of_frames fs') c k ≡ left_parent (columns_of_frames fs) c k
  pub joins : (c k : ℕ) → k < length (nodes_at (columns_of_frames fs) (suc c))
      → joined_at (columns_of_frames fs') c k ≡ joined_at (columns_of_frames fs) c k

-- one more instance of a column is such a start
grew : (fs fs' : List Frame) (starts : List NodeId) (i : ℕ) (new : Node) → IsStartSound fs starts
    → AddsNode (columns_of_frames fs) (columns_of_frames fs') i new
    → ExtendsColumns (columns_of_frames fs) (columns_of_frames fs') → IsSound fs'
    → ((j : ℕ) (f : Frame) → frame_at fs' j ≡ Some f → (node_at f.nodes 0).kind ≡ Zero)
    → Grew fs fs' starts (at i (length (nodes_at (columns_of_frames fs) i)))
grew fs fs' starts i new h a x sound heads = record {
  sound = record {
    sound = sound;
    heads = heads;
    all = all_grown (columns_of_frames fs) (columns_of_frames fs') starts i new a x h.ordered h.all;
    ordered = ordered_grown (columns_of_frames fs) (columns_of_frames fs') starts i new a x h.ordered h.all;
  };
  by = grows (columns_of_frames fs) (columns_of_frames fs') starts i new a x h.ordered h.all;
  lefts = lefts_stay (columns_of_frames fs) (columns_of_frames fs') starts i new a x h.ordered h.all;
  joins = joins_stay (columns_of_frames fs) (columns_of_frames fs') starts i new a x h.ordered h.all;
}

-- the beginning of an iteration is such a start
pub grew_begin : (limit : ℕ) (s : State) (i : ℕ) (starts : List NodeId) → MayBegin limit s i
    → IsStartSound s.frames starts → Grew s.frames (next_state s (Begin i)).frames starts (at i 0)
grew_begin limit s i starts may h =
    let fs : List Frame = s.frames in
    let z : Node = node_of Zero (pos 0) in
    let n : ℕ = length fs in
    let none : nodes_at (columns_of_frames fs) n ≡ [] = nodes_at_past fs n (omega arith) in
    let long : length (columns_of_frames fs) ≡ length fs = length-map fs (λ (f : Frame). f.nodes) in
    let long' : length (columns_of_frames (fs ++ fresh_frame ∷ [])) ≡ length (fs ++ fresh_frame ∷ []) =
    length-map (fs ++ fresh_frame ∷ []) (λ (f : Frame). f.nodes) in
    let wide = length_push fs fresh_frame in
    let g = grew fs (fs ++ fresh_frame ∷ []) starts n z h (record {
      here = nodes_at_frame (fs ++ fresh_frame ∷ []) n fresh_frame (frame_at_last fs fresh_frame)
          ∙ ap (λ l. l ++ z ∷ []) (sym none);
      other = λ j o. nodes_at_begun fs fresh_frame j o;
      longer = omega (arith, long, long', wide);
      within = omega (arith, long', wide);
    }) (extends_begun fs fresh_frame h.sound) (sound_begun limit s i h.sound may)
    (λ j f c. elim (frame_at_begun fs j f c) [
      | inl new ↦ subst (λ (g : Frame). (node_at g.nodes 0).kind ≡ Zero) (sym new.1) refl
      | inr old ↦ h.heads j f old.1
    ]) in
    let index : length (nodes_at (columns_of_frames fs) n) ≡ 0 = ap length none in
    subst (λ c. Grew fs (fs ++ fresh_frame ∷ []) starts (at c 0)) (sym may.number)
    (subst (λ k. Grew fs (fs ++ fresh_frame ∷ []) starts (at n k)) index g)

-- the entering of a stage is such a start
pub grew_enter : (s : State) (i : ℕ) (starts : List NodeId) → MayEnter s i → IsStartSound s.frames starts
    → Grew s.frames (next_state s (Enter i)).frames starts (at i (length (nodes_at (own_columns s) i)))
grew_enter s i starts may h =
    let fs : List Frame = s.frames in
    let f : Frame = may.frame in
    let u : Frame → Frame = λ g. enter_pending g.status g in
    let z : Node = node_of may.kind may.number in
    let entered : u f ≡ entered_frame may.kind may.number f = enter_pending_is f may.kind may.number may.named in
    let moves : IsMove fs i f (u f) =
    subst (λ g. IsMove fs i f g) (sym entered) (moves_entered fs i f may.kind may.number may.named may.free) in
    let long : length (columns_of_frames fs) ≡ length fs = length-map fs (λ (f : Frame). f.nodes) in
    let long' : length (columns_of_frames (update_frame fs i u)) ≡ length (update_frame fs i u) =
    length-map (update_frame fs i u) (λ (f : Frame). f.nodes) in
    let wide = length-update_frame fs i u in
    let inside = frame_at_within fs i f may.is in
    let filled = (h.sound.well i f may.is).filled in
    grew fs (update_frame fs i u) starts i z h (record {
      here = nodes_at_moved fs i f u may.is ∙ (ap (λ (g : Frame). g.nodes) entered
          ∙ ap (λ l. l ++ z ∷ []) (sym (nodes_at_frame fs i f may.is)));
      other = λ j o. nodes_at_other fs i j u o;
      longer = omega (arith, long, long', wide);
      within = omega (arith, long', wide, inside);
    }) (extends_moved fs i f u h.sound may.is moves) (sound_moved fs i f u h.sound may.is moves)
    (λ j g c. elim (frame_at_moved fs i j f u g may.is c) [
      | inl here ↦ subst (λ (y : Frame). (node_at y.nodes 0).kind ≡ Zero) (sym here.1)
          (ap (λ (m : Node). m.kind) (moves.same 0 filled) ∙ h.heads i f may.is)
      | inr there ↦ h.heads j g there.1
    ])

-- an action starts nothing and keeps frames and starts sound
pub sound_action : (fs : List Frame) (i : ℕ) (f : Frame) (x : Action) (w : Status) (starts : List NodeId)
    → frame_at fs i ≡ Some f → IsMove fs i f (with_action x w f) → IsStartSound fs starts
    → IsStartSound (update_frame fs i (with_action x w)) (starts ++ [])
sound_action fs i f x w starts is moves h = rw append-nil (record {
  sound = sound_moved fs i f (with_action x w) h.sound is moves;
  heads = λ j g c. elim (frame_at_moved fs i j f (with_action x w) g is c) [
    | inl here ↦ subst (λ (y : Frame). (node_at y.nodes 0).kind ≡ Zero) (sym here.1) (h.heads i f is)
    | inr there ↦ h.heads j g there.1
  ];
  all = subst (λ l. (c k : ℕ) → k < length (nodes_at l c)
      → start_number starts c k < length starts) (sym (columns-action fs i x w)) h.all;
  ordered = subst (λ l. AreStarts l starts) (sym (columns-action fs i x w)) h.ordered;
})

-- every event keeps frames and starts sound
pub sound_step : (limit : ℕ) (s : State) (e : Event) (starts : List NodeId) → ControlAllows limit s e
    → IsStartSound s.frames starts → IsStartSound (next_state s e).frames (starts ++ started_by s e)
sound_step limit s (Begin i) starts may h = (grew_begin limit s i starts may h).sound
sound_step limit s (Enter i) starts may h = (grew_enter s i starts may h).sound
sound_step limit s (Access i a) starts may h =
    sound_action s.frames i may.frame (Accessed a) Running starts may.is
    (moves_running s.frames i may.frame (Accessed a) may.runs) h
sound_step limit s (Advance i k n) starts may h =
    let r = may.running in
    sound_action s.frames i r.frame (Staged k n) (Pending k n) starts r.is
    (moves_pending s.frames i r.frame (Staged k n) k n r.runs may.above) h
sound_step limit s (Finish i e) starts may h =
    let r = may.running in
    sound_action s.frames i r.frame (Ended e) (Completed e) starts r.is
    (moves_completed s.frames i r.frame (Ended e) e r.runs) h
sound_step limit s Stop starts may h = rw append-nil h

-- the starts with one more event
pub starts_from-push : (s : State) (es : List Event) (e : Event)
    → starts_from s (es ++ e ∷ []) ≡ starts_from s es ++ started_by (state_from s es) e
starts_from-push s [] e = append-nil (started_by s e)
starts_from-push s (x ∷ es) e =
    ap (λ l. started_by s x ++ l) (starts_from-push (next_state s x) es e)
    ∙ sym (append_assoc (started_by s x) (starts_from (next_state s x) es)
    (started_by (state_from (next_state s x) es) e))

-- the starts of a run grow at their end
pub starts_of_then : {p : Pipeline} {limit : ℕ} {es : List Event} {s : State} → Run p limit es s → (e : Event)
    → starts_of (es ++ e ∷ []) ≡ starts_of es ++ started_by s e
starts_of_then {es = es} {s = s} r e =
    starts_from-push initial_state es e ∙ ap (λ u. starts_of es ++ started_by u e) (sym (run_state_is r))

-- the starts of no events are sound
pub empty_sound : IsStartSound [] []
empty_sound = record {
  sound = record { well = λ i f c. absurd (cc); goes = λ i f c. absurd (cc); waits = λ i f g c. absurd (cc) };
  heads = λ i f c. absurd (cc);
  all = λ i k l. absurd (omega arith);
  ordered = record {
    once = λ m l. absurd (omega arith);
    inside = λ x l. absurd (omega arith);
    ordered = λ x y e l. absurd (omega arith);
  };
}

-- the frames and starts of every run are sound
pub run_starts_sound : {p : Pipeline} {limit : ℕ} {es : List Event} {s : State} → Run p limit es s
    → IsStartSound s.frames (starts_of es)
run_starts_sound EmptyRun = empty_sound
run_starts_sound {limit = limit} (RunThen {events = es} {s = s} r e h) =
    subst (IsStartSound (next_state s e).frames) (sym (starts_of_then r e))
    (sound_step limit s e (starts_of es) h.control (run_starts_sound r))
