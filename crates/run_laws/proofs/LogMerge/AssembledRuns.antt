-- Events are a run if the control part, the programs and the replies are each right.
use Rattle.std.proofs.Common.{ℕ, List, ◌≡◌, ◌∷◌, ◌++◌, subst, sym, false, ap, ◌∙◌, [], append-nil, append_assoc, refl, map, true}
use Rattle.pipe_model.specs.Runs.Allowed.{OffersAt, ProgramAllows, ControlAllows, Allowed, IsRunning, ClosesLoop}
use Rattle.pipe_model.specs.Pipelines.Behaviour.{Action, Performs, Offers, behaviour_after_all, Staged, Ended, Accessed}
use Rattle.pipe_model.specs.Runs.ControlRun.{ControlRun, is_access, ControlRunThen, EmptyControlRun}
use Rattle.run_laws.proofs.LogMerge.EventParts.{control_events, actions_at}
use Rattle.pipe_model.specs.Pipelines.Pipeline.{Pipeline}
use Rattle.pipe_model.specs.Runs.Run.{Run, RunThen, IsFinished, EmptyRun}
use Rattle.pipe_model.specs.Runs.State.{State, next_state, Frame, own_columns, is_completed, initial_state}
use Rattle.pipe_model.specs.Pipelines.Store.{HasReply}
use Rattle.pipe_model.specs.declared.access.Access.{Access as Cell_access}
use Rattle.pipe_model.specs.declared.event.Event.{Event}
use Rattle.pipe_model.specs.declared.event.Event.TheVariants.{Begin, Access, Advance, Enter, Finish, Stop}
use Rattle.run_laws.proofs.Iterations.PerformedActions.{performs_offers}
use Rattle.run_laws.proofs.LogMerge.Assembled.{IsAssembled, AssembledIsRun}
use Rattle.run_laws.proofs.LogMerge.ControlPart.{SameControl, control_same, after_same, access_same, outlines, same_frame}
use Rattle.run_laws.proofs.LogMerge.ControlStates.{IsAllowedAt, allowed_at, control_state_is}
use Rattle.run_laws.proofs.LogMerge.EventActions.{trace_is_actions, actions_at-append, if_same-true, control_events-append}
use Rattle.run_laws.proofs.LogMerge.EventActions.{accesses_are_among}

-- a prefix of the events that is a run
record HasFront (p : Pipeline) (limit : ℕ) (front : List Event) : Type 0 where
  state : State
  outline : State
  run : Run p limit front state
  control : ControlRun limit (control_events front) outline
  same : SameControl state outline

-- the next action of an iteration is offered
offers_next : (p : Pipeline) (limit : ℕ) (events front : List Event) (more : List Action) (i : ℕ) (x : Action)
    (s : State)
    → Run p limit front s → Performs (p.behaviour i) (actions_at i events)
    → actions_at i events ≡ actions_at i front ++ x ∷ more → OffersAt p s i x
offers_next p limit events front more i x s r d e =
    subst (λ l. Offers (behaviour_after_all (p.behaviour i) l) x) (sym (trace_is_actions r i))
    (performs_offers (p.behaviour i) (actions_at i front) x more (subst (λ l. Performs (p.behaviour i) l) e d))

-- the program part of a control event
control_event_program : (p : Pipeline) (limit : ℕ) (events front rest : List Event) (e : Event) (c s : State)
    → IsAssembled p limit events c → events ≡ front ++ e ∷ rest → is_access e ≡ false → Run p limit front s
    → ProgramAllows p s e
control_event_program p limit events front rest (Begin i) c s w q n r = tt
control_event_program p limit events front rest (Access i a) c s w q n r = absurd (cc)
control_event_program p limit events front rest (Advance i k m) c s w q n r =
    offers_next p limit events front (actions_at i rest) i (Staged k m) s r (w.program i) (ap (actions_at i) q
    ∙ actions_at-append i front (Advance i k m ∷ rest)
    ∙ ap (λ l. actions_at i front ++ l) (if_same-true i (Staged k m) (actions_at i rest)))
control_event_program p limit events front rest (Enter i) c s w q n r = tt
control_event_program p limit events front rest (Finish i e) c s w q n r =
    offers_next p limit events front (actions_at i rest) i (Ended e) s r (w.program i) (ap (actions_at i) q
    ∙ actions_at-append i front (Finish i e ∷ rest)
    ∙ ap (λ l. actions_at i front ++ l) (if_same-true i (Ended e) (actions_at i rest)))
control_event_program p limit events front rest Stop c s w q n r = tt

-- a prefix with one more control event
control_step : (p : Pipeline) (limit : ℕ) (events front rest : List Event) (e : Event) (c : State)
    → IsAssembled p limit events c → events ≡ front ++ e ∷ rest → is_access e ≡ false
    → control_events (e ∷ rest) ≡ e ∷ control_events rest → control_events (e ∷ []) ≡ e ∷ []
    → HasFront p limit front → HasFront p limit (front ++ e ∷ [])
control_step p limit events front rest e c w q n b one h =
    let at : IsAllowedAt limit (control_events front) e =
    allowed_at w.control (control_events front) e (control_events rest) (ap control_events q
    ∙ control_events-append front (e ∷ rest) ∙ ap (λ l. control_events front ++ l) b) in
    let equal : at.state ≡ h.outline = control_state_is at.before ∙ sym (control_state_is h.control) in
    let control : ControlAllows limit h.outline e = subst (λ d. ControlAllows limit d e) equal at.control in
    let going : h.outline.stopped ≡ false = subst (λ (d : State). d.stopped ≡ false) equal at.going in
    let allowed : Allowed p limit h.state e = record {
      going = h.same.stopped ∙ going;
      control = control_same limit h.state h.outline e h.same control;
      program = control_event_program p limit events front rest e c h.state w q n h.run;
    } in
    record {
      state = next_state h.state e;
      outline = next_state h.outline e;
      run = RunThen h.run e allowed;
      control = subst (λ l. ControlRun limit l (next_state h.outline e))
          (ap (λ l. control_events front ++ l) (sym one)
          ∙ sym (control_events-append front (e ∷ []))) (ControlRunThen h.control e n going control);
      same = after_same h.state h.outline e n h.same;
    }

-- a prefix with one more access
access_step : (p : Pipeline) (limit : ℕ) (events front rest : List Event) (i : ℕ) (a : Cell_access) (c : State)
    → IsAssembled p limit events c → events ≡ front ++ Access i a ∷ rest → HasFront p limit front
    → HasFront p limit (front ++ Access i a ∷ [])
access_step p limit events front rest i a c w q h =
    let at = w.running front rest i a q h.outline h.control in
    let r : IsRunning h.state i = control_same limit h.state h.outline (Access i a) h.same at.1 in
    let offers = offers_next p limit events front (actions_at i rest) i (Accessed a) h.state h.run (w.program i)
    (ap (actions_at i) q ∙ actions_at-append i front (Access i a ∷ rest)
    ∙ ap (λ l. actions_at i front ++ l) (if_same-true i (Accessed a) (actions_at i rest))) in
    let reply = subst (λ l. HasReply p.store (p.preamble ++ l) a) (sym (accesses_are_among h.run))
    (w.replies front rest i a q) in
    record {
      state = next_state h.state (Access i a);
      outline = h.outline;
      run = RunThen h.run (Access i a) (record {
        going = h.same.stopped
            ∙ at.0;
        control = r;
        program = (offers, reply);
      });
      control = subst (λ l. ControlRun limit l h.outline)
          (sym (control_events-append front (Access i a ∷ []) ∙ append-nil (control_events front))) h.control;
      same = access_same h.state h.outline i a h.same r;
    }

-- every prefix of the events, and so the whole list, is a run
all_fronts : (p : Pipeline) (limit : ℕ) (events : List Event) (c : State) → IsAssembled p limit events c
    → (rest front : List Event) → events ≡ front ++ rest → HasFront p limit front → HasFront p limit events
all_fronts p limit events c w [] front q h = subst (λ l. HasFront p limit l) (sym (q ∙ append-nil front)) h
all_fronts p limit events c w (Begin i ∷ rest) front q h =
    all_fronts p limit events c w rest (front ++ Begin i ∷ []) (q
    ∙ sym (append_assoc front (Begin i ∷ []) rest))
    (control_step p limit events front rest (Begin i) c w q refl refl refl h)
all_fronts p limit events c w (Access i a ∷ rest) front q h =
    all_fronts p limit events c w rest (front ++ Access i a ∷ []) (q
    ∙ sym (append_assoc front (Access i a ∷ []) rest)) (access_step p limit events front rest i a c w q h)
all_fronts p limit events c w (Advance i k n ∷ rest) front q h =
    all_fronts p limit events c w rest (front ++ Advance i k n ∷ []) (q
    ∙ sym (append_assoc front (Advance i k n ∷ []) rest))
    (control_step p limit events front rest (Advance i k n) c w q refl refl refl h)
all_fronts p limit events c w (Enter i ∷ rest) front q h =
    all_fronts p limit events c w rest (front ++ Enter i ∷ []) (q
    ∙ sym (append_assoc front (Enter i ∷ []) rest))
    (control_step p limit events front rest (Enter i) c w q refl refl refl h)
all_fronts p limit events c w (Finish i e ∷ rest) front q h =
    all_fronts p limit events c w rest (front ++ Finish i e ∷ []) (q
    ∙ sym (append_assoc front (Finish i e ∷ []) rest))
    (control_step p limit events front rest (Finish i e) c w q refl refl refl h)
all_fronts p limit events c w (Stop ∷ rest) front q h =
    all_fronts p limit events c w rest (front ++ Stop ∷ []) (q
    ∙ sym (append_assoc front (Stop ∷ []) rest))
    (control_step p limit events front rest Stop c w q refl refl refl h)

-- the outlines and the frames have the same columns
columns-outlines : (fs : List Frame) → map (λ f. f.nodes) (outlines fs) ≡ map (λ f. f.nodes) fs
columns-outlines [] = refl
columns-outlines (f ∷ fs) = ap (λ l. f.nodes ∷ l) (columns-outlines fs)

-- states with the same control part have the same columns
same_columns : (s c : State) → SameControl s c → own_columns s ≡ own_columns c
same_columns s c e =
    sym (columns-outlines s.frames) ∙ (ap (λ fs. map (λ (f : Frame). f.nodes) fs) e.frames
    ∙ columns-outlines c.frames)

-- if two states have the same control part and one is finished, so is the other
same_finished : (s c : State) → SameControl s c → IsFinished c → IsFinished s
same_finished s c e h =
    let x = h.shut in
    let y = same_frame s.frames c.frames x.iteration x.frame e.frames x.is in
    record {
      over = λ i f is. (
          let g = same_frame c.frames s.frames i f (sym e.frames) is in
          subst (λ w. is_completed w ≡ true) g.status (h.over i g.frame g.is));
      shut = record {
        iteration = x.iteration;
        frame = y.frame;
        is = y.is;
        closes = subst (λ w. ClosesLoop w y.frame.nodes) (sym y.status)
            (subst (λ ns. ClosesLoop x.frame.status ns) (sym y.nodes) x.closes);
      };
      going = e.stopped ∙ h.going;
    }

-- events are a run if each part of them is right
pub assembled_is_run : AssembledIsRun
assembled_is_run p limit events c w =
    let h = all_fronts p limit events c w events [] refl (record {
      state = initial_state;
      outline = initial_state;
      run = EmptyRun;
      control = EmptyControlRun;
      same = record { frames = refl; stopped = refl };
    }) in
    let equal : h.outline ≡ c = control_state_is h.control ∙ sym (control_state_is w.control) in
    let same : SameControl h.state c = subst (λ d. SameControl h.state d) equal h.same in
    record {
      state = h.state;
      run = h.run;
      columns = same_columns h.state c same;
      finished = same_finished h.state c same;
    }
