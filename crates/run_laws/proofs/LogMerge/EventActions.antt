-- The actions, the accesses and the control events of a list of events, and of a run's state.
use Rattle.std.proofs.Common.{Bool, List, ◌≡◌, ◌++◌, true, refl, false, ℕ, [], ◌∷◌, ap, ◌∙◌, ◌==◌, zero, suc, Some, inl}
use Rattle.std.proofs.Common.{sym, subst, inr, append-nil}
use Rattle.std.proofs.lemmas.Bool.{cases_eq, eq-eqb, ne_eqb}
use Rattle.std.proofs.lemmas.List.{map-append}
use Rattle.pipe_model.specs.Runs.Allowed.{Allowed}
use Rattle.pipe_model.specs.Pipelines.Behaviour.{Action, Accessed, Staged, Ended}
use Rattle.run_laws.proofs.LogMerge.EventParts.{if_same, actions_at, accesses_among, control_events}
use Rattle.pipe_model.specs.Pipelines.Pipeline.{Pipeline}
use Rattle.pipe_model.specs.Runs.Run.{Run, EmptyRun, RunThen}
use Rattle.pipe_model.specs.declared.status.Status.TheVariants.{Running, Pending}
use Rattle.pipe_model.specs.Runs.State.{Frame, trace_in, frame_at, fresh_frame, update_frame, with_action, enter_pending}
use Rattle.pipe_model.specs.declared.status.Status.TheVariants.{Completed}
use Rattle.pipe_model.specs.Runs.State.{State, next_state, accesses_of}
use Rattle.pipe_model.specs.declared.access.NodeAccess.{NodeAccess}
use Rattle.pipe_model.specs.declared.event.Event.{Event}
use Rattle.pipe_model.specs.declared.event.Event.TheVariants.{Begin, Enter, Stop, Access, Advance, Finish}
use Rattle.run_laws.proofs.RunStates.Frames.{frame_at_updated, frame_at_other}

-- two lists with an optional action at the front of the first
if_same-append : (b : Bool) (x : Action) (xs ys : List Action) → if_same b x (xs ++ ys) ≡ if_same b x xs ++ ys
if_same-append true x xs ys = refl
if_same-append false x xs ys = refl

-- the actions of an iteration in two lists of events
pub actions_at-append : (i : ℕ) (xs ys : List Event) → actions_at i (xs ++ ys) ≡ actions_at i xs ++ actions_at i ys
actions_at-append i [] ys = refl
actions_at-append i (Begin j ∷ xs) ys = actions_at-append i xs ys
actions_at-append i (Enter j ∷ xs) ys = actions_at-append i xs ys
actions_at-append i (Stop ∷ xs) ys = actions_at-append i xs ys
actions_at-append i (Access j a ∷ xs) ys =
    ap (if_same (j == i) (Accessed a)) (actions_at-append i xs ys)
    ∙ if_same-append (j == i) (Accessed a) (actions_at i xs) (actions_at i ys)
actions_at-append i (Advance j k n ∷ xs) ys =
    ap (if_same (j == i) (Staged k n)) (actions_at-append i xs ys)
    ∙ if_same-append (j == i) (Staged k n) (actions_at i xs) (actions_at i ys)
actions_at-append i (Finish j e ∷ xs) ys =
    ap (if_same (j == i) (Ended e)) (actions_at-append i xs ys)
    ∙ if_same-append (j == i) (Ended e) (actions_at i xs) (actions_at i ys)

-- the beginning of an iteration changes no trace
trace_begun : (fs : List Frame) (i : ℕ) → trace_in (frame_at (fs ++ fresh_frame ∷ []) i) ≡ trace_in (frame_at fs i)
trace_begun [] zero = refl
trace_begun [] (suc i) = refl
trace_begun (f ∷ fs) zero = refl
trace_begun (f ∷ fs) (suc i) = trace_begun fs i

-- an action is added to the trace of its iteration
trace_pushed : (fs : List Frame) (j : ℕ) (f : Frame) (x : Action) (w : _) (i : ℕ) → frame_at fs j ≡ Some f
    → trace_in (frame_at (update_frame fs j (with_action x w)) i) ≡ trace_in (frame_at fs i) ++ if_same (j == i) x []
trace_pushed fs j f x w i e = elim (cases_eq i j) [
  | inl same ↦ (
      let t : (j == i) ≡ true = eq-eqb j i (sym same) in
      let a : frame_at (update_frame fs j (with_action x w)) i ≡ Some (with_action x w f) =
      subst (λ n. frame_at (update_frame fs j (with_action x w)) n ≡ Some (with_action x w f)) (sym same)
      (frame_at_updated fs j f (with_action x w) e) in
      let b : frame_at fs i ≡ Some f = subst (λ n. frame_at fs n ≡ Some f) (sym same) e in
      ap trace_in a ∙ ap (λ l. l ++ x ∷ []) (sym (ap trace_in b))
      ∙ ap (λ u. trace_in (frame_at fs i) ++ if_same u x []) (sym t))
  | inr other ↦ (
      let t : (j == i) ≡ false = ne_eqb j i (λ q. other (sym q)) in
      ap trace_in (frame_at_other fs j i (with_action x w) other) ∙ sym (append-nil (trace_in (frame_at fs i)))
      ∙ ap (λ u. trace_in (frame_at fs i) ++ if_same u x []) (sym t))
]

-- the entering of a stage changes no trace
trace_entered : (fs : List Frame) (j : ℕ) (i : ℕ)
    → trace_in (frame_at (update_frame fs j (λ f. enter_pending f.status f)) i) ≡ trace_in (frame_at fs i)
trace_entered [] j i = refl
trace_entered (f ∷ fs) zero zero = entered_done f.status f
  where
    entered_done : (w : _) (g : Frame) → (enter_pending w g).trace ≡ g.trace
    entered_done Running g = refl
    entered_done (Pending k n) g = refl
    entered_done (Completed e) g = refl
trace_entered (f ∷ fs) zero (suc i) = refl
trace_entered (f ∷ fs) (suc j) zero = refl
trace_entered (f ∷ fs) (suc j) (suc i) = trace_entered fs j i

-- what an event adds to each trace
trace_after : (p : Pipeline) (limit : ℕ) (s : State) (e : Event) → Allowed p limit s e → (i : ℕ)
    → trace_in (frame_at (next_state s e).frames i) ≡ trace_in (frame_at s.frames i) ++ actions_at i (e ∷ [])
trace_after p limit s (Begin j) h i = trace_begun s.frames i ∙ sym (append-nil (trace_in (frame_at s.frames i)))
trace_after p limit s (Access j a) h i =
    let r = h.control in
    trace_pushed s.frames j r.frame (Accessed a) Running i r.is
trace_after p limit s (Advance j k n) h i =
    let r = h.control.running in
    trace_pushed s.frames j r.frame (Staged k n) (Pending k n) i r.is
trace_after p limit s (Enter j) h i = trace_entered s.frames j i ∙ sym (append-nil (trace_in (frame_at s.frames i)))
trace_after p limit s (Finish j e) h i =
    let r = h.control.running in
    trace_pushed s.frames j r.frame (Ended e) (Completed e) i r.is
trace_after p limit s Stop h i = sym (append-nil (trace_in (frame_at s.frames i)))

-- the trace of an iteration is its actions among the events
pub trace_is_actions : {p : Pipeline} {limit : ℕ} {events : List Event} {s : State} → Run p limit events s → (i : ℕ)
    → trace_in (frame_at s.frames i) ≡ actions_at i events
trace_is_actions EmptyRun i = refl
trace_is_actions {p} {limit} (RunThen {events = es} {s = t} r e h) i =
    trace_after p limit t e h i ∙ ap (λ l. l ++ actions_at i (e ∷ [])) (trace_is_actions r i)
    ∙ sym (actions_at-append i es (e ∷ []))

-- the accesses in two lists of events
accesses_among-append : (xs ys : List Event) → accesses_among (xs ++ ys) ≡ accesses_among xs ++ accesses_among ys
accesses_among-append [] ys = refl
accesses_among-append (Begin j ∷ xs) ys = accesses_among-append xs ys
accesses_among-append (Enter j ∷ xs) ys = accesses_among-append xs ys
accesses_among-append (Stop ∷ xs) ys = accesses_among-append xs ys
accesses_among-append (Access j a ∷ xs) ys = ap (λ l. a ∷ l) (accesses_among-append xs ys)
accesses_among-append (Advance j k n ∷ xs) ys = accesses_among-append xs ys
accesses_among-append (Finish j e ∷ xs) ys = accesses_among-append xs ys

-- what an event adds to the accesses
accesses_after : (s : State) (e : Event)
    → accesses_of (next_state s e).accesses ≡ accesses_of s.accesses ++ accesses_among (e ∷ [])
accesses_after s (Begin j) = sym (append-nil (accesses_of s.accesses))
accesses_after s (Access j a) = map-append (λ (n : NodeAccess). n.access) s.accesses _
accesses_after s (Advance j k n) = sym (append-nil (accesses_of s.accesses))
accesses_after s (Enter j) = sym (append-nil (accesses_of s.accesses))
accesses_after s (Finish j e) = sym (append-nil (accesses_of s.accesses))
accesses_after s Stop = sym (append-nil (accesses_of s.accesses))

-- the accesses of a run are those among its events
pub accesses_are_among : {p : Pipeline} {limit : ℕ} {events : List Event} {s : State} → Run p limit events s
    → accesses_of s.accesses ≡ accesses_among events
accesses_are_among EmptyRun = refl
accesses_are_among (RunThen {events = es} {s = t} r e h) =
    accesses_after t e ∙ ap (λ l. l ++ accesses_among (e ∷ [])) (accesses_are_among r)
    ∙ sym (accesses_among-append es (e ∷ []))

-- the control events of two lists
pub control_events-append : (xs ys : List Event) → control_events (xs ++ ys) ≡ control_events xs ++ control_events ys
control_events-append [] ys = refl
control_events-append (Begin j ∷ xs) ys = ap (λ l. Begin j ∷ l) (control_events-append xs ys)
control_events-append (Access j a ∷ xs) ys = control_events-append xs ys
control_events-append (Advance j k n ∷ xs) ys = ap (λ l. Advance j k n ∷ l) (control_events-append xs ys)
control_events-append (Enter j ∷ xs) ys = ap (λ l. Enter j ∷ l) (control_events-append xs ys)
control_events-append (Finish j e ∷ xs) ys = ap (λ l. Finish j e ∷ l) (control_events-append xs ys)
control_events-append (Stop ∷ xs) ys = ap (λ l. Stop ∷ l) (control_events-append xs ys)

-- an action of the iteration itself
pub if_same-true : (i : ℕ) (x : Action) (xs : List Action) → if_same (i == i) x xs ≡ x ∷ xs
if_same-true i x xs = ap (λ b. if_same b x xs) (eq-eqb i i refl)
