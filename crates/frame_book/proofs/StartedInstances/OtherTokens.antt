-- A token of a running instance stays one while other instances start and end.
use Rattle.std.proofs.Common.{◌≡◌, ◌≢◌, ◌∙◌, ◌<◌, ℕ, ℤ, List, [], ◌∷◌, ◌++◌, length, Some, false, true, refl, ap, sym, subst, arith}
use Rattle.std.proofs.Common.{append-nil}
use Rattle.pipe_model.specs.declared.event.Event.{Event}
use Rattle.pipe_model.specs.declared.event.Event.TheVariants.{Begin, Advance, Enter, Finish, Stop, Access}
use Rattle.pipe_model.specs.declared.node.NodeId.{NodeId}
use Rattle.pipe_model.specs.declared.status.Status.{Status}
use Rattle.pipe_model.specs.declared.status.Status.TheVariants.{Running, Pending, Completed}
use Rattle.pipe_model.specs.Orders.OrderMarks.{instance_marks}
use Rattle.pipe_model.specs.Orders.Starts.{started_by, starts_of}
use Rattle.pipe_model.specs.Pipelines.Behaviour.{Action, Ended, Staged}
use Rattle.pipe_model.specs.Races.Columns.{at, nodes_at}
use Rattle.pipe_model.specs.Runs.Allowed.{ControlAllows, LeftHasPassed}
use Rattle.pipe_model.specs.Runs.ControlRun.{is_access}
use Rattle.pipe_model.specs.Runs.RunLogs.{state_after}
use Rattle.pipe_model.specs.Runs.State.{Frame, State, enter_pending, frame_at, fresh_frame, next_state, own_columns, update_frame}
use Rattle.pipe_model.specs.Runs.State.{with_action}
use Rattle.pipe_frame.specs.RunningTokens.{left_joined}
use Rattle.pipe_frame.specs.TokenFields.{TokenFields}
use Rattle.run_laws.proofs.ListOrders.SoundStarts.{control_starts_sound}
use Rattle.run_laws.proofs.ListOrders.StartsOfRuns.{Grew, IsStartSound, grew_begin, grew_enter}
use Rattle.run_laws.proofs.RunStates.FrameMoves.{IsMove, enter_pending_is, entered_frame, moves_completed, moves_entered, moves_pending}
use Rattle.run_laws.proofs.RunStates.Frames.{frame_at_other, frame_at_push, frame_at_within, nodes_at_frame}
use Rattle.run_laws.proofs.RunStates.GrowingColumns.{columns-action}
use Rattle.run_laws.proofs.RunStates.LaterEdges.{columns_of_frames}
use Rattle.frame_book.specs.TokenLaws.{EndsNoneOf, TokensStayUntilTheirEnds}
use Rattle.frame_book.proofs.BookLogs.LogEntries.{starts_of-push, state_after-push}
use Rattle.frame_book.proofs.BookLogs.TokensOfStates.{IsTokenAt, token_at_events}
use Rattle.frame_book.proofs.Keeping.Begin.{passed_push}
use Rattle.frame_book.proofs.Keeping.Name.{left_passed_moved}
use Rattle.frame_book.proofs.StartedInstances.GrownMarks.{left_joined_same, marks_same}

module _ (s : State) (starts : List NodeId) (t : TokenFields) (sound : IsStartSound s.frames starts) (h : IsTokenAt s starts t) where
  abbrev i : ℕ
  i = t.iteration

  -- an instance of another iteration has started
  grown : (s' : State) (x : NodeId) → Grew s.frames s'.frames starts x → frame_at s'.frames i ≡ Some h.running.frame
      → ((m : ℤ) → LeftHasPassed s.frames i m → LeftHasPassed s'.frames i m) → IsTokenAt s' (starts ++ x ∷ []) t
  grown s' x g is passes =
      let l : t.index < length (nodes_at (columns_of_frames s.frames) i) =
      (let w = h.index in let z = ap length (nodes_at_frame s.frames i h.running.frame h.running.is) in omega (arith, w, z)) in
      record {
        running = record { frame = h.running.frame; is = is; runs = h.running.runs };
        index = h.index;
        marks = h.marks ∙ sym (marks_same s.frames s'.frames starts x sound g i t.index l);
        joined = h.joined ∙ sym (left_joined_same s.frames s'.frames starts x sound g i t.index l);
        folded = λ m p. passes m (h.folded m p);
      }

  -- an instance of iteration j has ended
  acted : (s' : State) (j : ℕ) (f : Frame) (x : Action) (w : Status) → s'.frames ≡ update_frame s.frames j (with_action x w)
      → frame_at s.frames j ≡ Some f → IsMove s.frames j f (with_action x w f) → j ≢ i → IsTokenAt s' (starts ++ []) t
  acted s' j f x w same is moves other =
      let columns : own_columns s' ≡ own_columns s = ap columns_of_frames same ∙ columns-action s.frames j x w in
      rw append-nil (record {
        running = record {
          frame = h.running.frame;
          is = ap (λ fs. frame_at fs i) same ∙ (frame_at_other s.frames j i (with_action x w) (λ e. other (sym e)) ∙ h.running.is);
          runs = h.running.runs;
        };
        index = h.index;
        marks = h.marks ∙ ap (λ cols. instance_marks cols starts i t.index) (sym columns);
        joined = h.joined ∙ ap (λ cols. left_joined cols i t.index) (sym columns);
        folded = λ m p. subst (λ fs. LeftHasPassed fs i m) (sym same)
            (left_passed_moved s.frames j f (with_action x w) is moves i m (h.folded m p));
      })

  stays : (limit : ℕ) (e : Event) → ControlAllows limit s e → is_access e ≡ false → EndsNoneOf i e
      → IsTokenAt (next_state s e) (starts ++ started_by s e) t
  stays limit (Begin j) may quiet o =
      grown (next_state s (Begin j)) (at j 0) (grew_begin limit s j starts may sound)
      (frame_at_push s.frames fresh_frame i (frame_at_within s.frames i h.running.frame h.running.is) ∙ h.running.is)
      (passed_push s.frames i h.running.frame h.running.is)
  stays limit (Enter j) may quiet o =
      let u : Frame → Frame = λ g. enter_pending g.status g in
      let entered : u may.frame ≡ entered_frame may.kind may.number may.frame = enter_pending_is may.frame may.kind may.number may.named in
      let moves : IsMove s.frames j may.frame (u may.frame) =
      subst (λ g. IsMove s.frames j may.frame g) (sym entered) (moves_entered s.frames j may.frame may.kind may.number may.named may.free)
      in
      let other : i ≢ j = λ e. (
      let here : frame_at s.frames i ≡ Some may.frame = subst (λ k. frame_at s.frames k ≡ Some may.frame) (sym e) may.is in
      let one : Some h.running.frame ≡ Some may.frame = sym h.running.is ∙ here in
      let same : h.running.frame ≡ may.frame = cc in
      let q : Running ≡ Pending may.kind may.number = sym h.running.runs ∙ (ap (λ (f : Frame). f.status) same ∙ may.named) in
      absurd (cc)) in
      grown (next_state s (Enter j)) (at j (length (nodes_at (own_columns s) j))) (grew_enter s j starts may sound)
      (frame_at_other s.frames j i u other ∙ h.running.is)
      (left_passed_moved s.frames j may.frame u may.is moves i)
  stays limit (Advance j k n) may quiet o =
      let r = may.running in
      acted (next_state s (Advance j k n)) j r.frame (Staged k n) (Pending k n) refl r.is
      (moves_pending s.frames j r.frame (Staged k n) k n r.runs may.above) o
  stays limit (Finish j e) may quiet o =
      let r = may.running in
      acted (next_state s (Finish j e)) j r.frame (Ended e) (Completed e) refl r.is
      (moves_completed s.frames j r.frame (Ended e) e r.runs) o
  stays limit (Access j a) may quiet o = absurd (let q : true ≡ false = quiet in cc)
  stays limit Stop may quiet o = rw append-nil (record {
    running = record { frame = h.running.frame; is = h.running.is; runs = h.running.runs };
    index = h.index;
    marks = h.marks;
    joined = h.joined;
    folded = h.folded;
  })

pub tokens_stay_until_their_ends : TokensStayUntilTheirEnds
tokens_stay_until_their_ends limit events e t run may quiet o h =
    let here : IsTokenAt (state_after events) (starts_of events) t =
    record { running = h.running; index = h.index; marks = h.marks; joined = h.joined; folded = h.folded } in
    token_at_events (events ++ e ∷ []) (next_state (state_after events) e) (starts_of events ++ started_by (state_after events) e) t
    (state_after-push events e) (starts_of-push events e)
    (stays (state_after events) (starts_of events) t (control_starts_sound run) here limit e may quiet o)
