-- Events of one iteration that make no access.
use Rattle.std.proofs.Common.{List, ℕ, Some, ◌≡◌, ℤ, refl, append-nil, ◌∙◌, [], ◌∷◌, subst, sym, ap, arith}
use Rattle.pipe_model.specs.Runs.Allowed.{MayAdvance, MayFinish, MayEnter}
use Rattle.pipe_model.specs.Pipelines.Behaviour.{accesses_in, Staged, Ended}
use Rattle.pipe_model.specs.declared.status.Status.TheVariants.{Pending, Completed}
use Rattle.pipe_model.specs.Runs.State.{State, Frame, frame_at, update_frame, next_state, with_action, enter_pending, own_columns}
use Rattle.pipe_model.specs.declared.event.Event.TheVariants.{Advance, Finish, Enter}
use Rattle.pipe_model.specs.declared.node.Node.{Node}
use Rattle.pipe_model.specs.declared.node.NodeId.{NodeId}
use Rattle.run_laws.proofs.Iterations.TraceParts.{accesses_in-append}
use Rattle.run_laws.proofs.RunStates.FrameMoves.{IsMove, moves_pending, moves_completed, enter_pending_is, moves_entered, IsSound}
use Rattle.run_laws.proofs.RunStates.GrowingColumns.{extends_moved}
use Rattle.run_laws.proofs.RunStates.LaterEdges.{ExtendsColumns, columns_of_frames, HasInstance}

-- an event of one iteration that makes no access
pub record IsQuiet (s : State) (fs : List Frame) : Type 0 where
  pub place : ℕ
  pub frame : Frame
  pub update : Frame → Frame
  pub is : frame_at s.frames place ≡ Some frame
  pub moves : IsMove s.frames place frame (update frame)
  pub result : fs ≡ update_frame s.frames place update
  pub quiet : accesses_in (update frame).trace ≡ accesses_in frame.trace

-- naming a next stage makes no access
pub advance_is_quiet : (s : State) (i : ℕ) (k : _) (n : ℤ) → MayAdvance s i k n
    → IsQuiet s (next_state s (Advance i k n)).frames
advance_is_quiet s i k n may = let r = may.running in record {
  place = i;
  frame = r.frame;
  update = with_action (Staged k n) (Pending k n);
  is = r.is;
  moves = moves_pending s.frames i r.frame (Staged k n) k n r.runs may.above;
  result = refl;
  quiet = accesses_in-append r.frame.trace (Staged k n ∷ []) ∙ append-nil (accesses_in r.frame.trace);
}

-- an end makes no access
pub finish_is_quiet : (s : State) (i : ℕ) (e : _) → MayFinish s i e → IsQuiet s (next_state s (Finish i e)).frames
finish_is_quiet s i e may = let r = may.running in record {
  place = i;
  frame = r.frame;
  update = with_action (Ended e) (Completed e);
  is = r.is;
  moves = moves_completed s.frames i r.frame (Ended e) e r.runs;
  result = refl;
  quiet = accesses_in-append r.frame.trace (Ended e ∷ []) ∙ append-nil (accesses_in r.frame.trace);
}

-- entering makes no access
pub enter_is_quiet : (s : State) (i : ℕ) → MayEnter s i → IsQuiet s (next_state s (Enter i)).frames
enter_is_quiet s i may =
    let same = enter_pending_is may.frame may.kind may.number may.named in
    record {
      place = i;
      frame = may.frame;
      update = λ f. enter_pending f.status f;
      is = may.is;
      moves = subst (λ g. IsMove s.frames i may.frame g) (sym same)
          (moves_entered s.frames i may.frame may.kind may.number may.named may.free);
      result = refl;
      quiet = ap (λ (g : Frame). accesses_in g.trace) same;
    }

-- such an event extends the columns
pub quiet_extends : (s : State) (fs : List Frame) → IsSound s.frames → IsQuiet s fs
    → ExtendsColumns (own_columns s) (columns_of_frames fs)
quiet_extends s fs sound q =
    subst (λ gs. ExtendsColumns (own_columns s) (columns_of_frames gs)) (sym q.result)
    (extends_moved s.frames q.place q.frame q.update sound q.is q.moves)

-- the instances of columns are in the extended columns
pub instance_stays : (columns more : List (List Node)) (x : NodeId) → ExtendsColumns columns more → HasInstance columns x
    → HasInstance more x
instance_stays columns more x e l = let h = e.longer x.iteration in omega (arith, h, l)
