-- Stage instances between two of their events.
use Rattle.std.proofs.Common.{◌≡◌, ◌∙◌, ap, sym, subst, refl, ℕ, ℤ, List, [], ◌∷◌, ◌++◌, map}
use Rattle.std.proofs.lemmas.List.{map-append}
use Rattle.pipe_frame.specs.Replies.{accessed, after_instance, after_instances, replies_of}
use Rattle.pipe_frame.specs.StageEndCases.{NamesNextStage}
use Rattle.pipe_model.specs.declared.access.Access.{Access}
use Rattle.pipe_model.specs.declared.column.ColumnEnd.{ColumnEnd}
use Rattle.pipe_model.specs.declared.column.ColumnEnd.TheVariants as ends
use Rattle.pipe_model.specs.declared.event.Event.TheVariants as events
use Rattle.pipe_model.specs.declared.node.Kind.{Kind}
use Rattle.pipe_model.specs.declared.node.Kind.TheVariants as kinds
use Rattle.pipe_model.specs.declared.stage.StageEnd.{StageEnd}
use Rattle.pipe_model.specs.declared.stage.StageEnd.TheVariants as stage_ends
use Rattle.pipe_model.specs.declared.ticket.Entry.{Entry}
use Rattle.pipe_model.specs.Language.Interaction.{reply_of}
use Rattle.pipe_model.specs.Pipelines.Behaviour.{Accessed, Staged, Ended, Behaviour, Reading, Writing, Staging, Ending, Offers, Performs}
use Rattle.pipe_model.specs.Pipelines.Behaviour.{behaviour_after_all, read_access, write_access}
use Rattle.pipe_model.specs.Pipelines.Pipeline.{Pipeline}
use Rattle.pipe_model.specs.Pipelines.Store.{HasReply, value_after}
use Rattle.pipe_model.specs.Runs.NextEvents.{event_of_behaviour}
use Rattle.pipe_model.specs.Runs.StageEnds.{stage_end_actions, stage_end_events}
use Rattle.run_laws.proofs.Iterations.PerformedActions.{behaviour_after_all-push, performs_push}
use Rattle.stage_code.specs.FlatCode.{FlatCode}
use Rattle.stage_interp.specs.MachineState.{RunState}
use Rattle.stage_interp.specs.RemainingBehaviour.{EndsAs, IsStopped, RanInstance, Represents}
use Rattle.schedule_play.specs.declared.running_instance.NextAction.{NextAction}
use Rattle.schedule_play.specs.declared.running_instance.NextAction.TheVariants as actions
use Rattle.schedule_play.specs.RunningInstances.{IsAt, IsUnderWay, action_at, next_of}

-- ---- the beginning

-- a machine that has come to rest is at the next action
at_rest : (code : FlatCode) (cells : ℕ) (input : List ℤ) (e : StageEnd) (r : RunState) (t : Behaviour) → EndsAs code cells input e r t
    → IsAt code cells input (action_at e) r t
at_rest code cells input (stage_ends.Wait n) r t h = (λ q. absurd (cc), h)
at_rest code cells input (stage_ends.Continue n) r t h = (λ q. absurd (cc), h)
at_rest code cells input stage_ends.End r t h = (λ q. absurd (cc), h)
at_rest code cells input stage_ends.Closed r t h = (λ q. absurd (cc), h)
at_rest code cells input (stage_ends.Trap w) r t h = (λ q. absurd (cc), h)
at_rest code cells input stage_ends.Stopped r t h = h

pub begins : (code : FlatCode) (cells : ℕ) (input : List ℤ) (t : Behaviour) (r : RunState) (e : StageEnd)
    → RanInstance code cells input t [] [] r e
    → IsUnderWay code cells input t r [] (action_at e)
begins code cells input t r e h =
    let none : [] ≡ h.accesses = h.log_is in
    record {
      performs = tt;
      is_at = at_rest code cells input e r t (subst (λ l. EndsAs code cells input e r (behaviour_after_all t (map Accessed l)))
          (sym none) h.ends_as);
    }

-- ---- an access

pub stopped_here : (code : FlatCode) (cells : ℕ) (input : List ℤ) (t : Behaviour) (r : RunState) (trace : List Entry) (next : NextAction)
    → next ≡ actions.Access → IsUnderWay code cells input t r trace next → IsStopped code cells input r
    (behaviour_after_all t (accessed trace))
stopped_here code cells input t r trace next is h = subst (λ a. IsAt code cells input a r (behaviour_after_all t (accessed trace))) is
    h.is_at

-- the only access of a run
offered : (code : FlatCode) (cells : ℕ) (input : List ℤ) (d : Behaviour) (a : Access) (r : RunState) (e : StageEnd)
    → RanInstance code cells input d [] (a ∷ []) r e → Offers d (Accessed a)
offered code cells input d a r e h =
    let one : a ∷ [] ≡ h.accesses = h.log_is in
    (subst (λ l. Performs d (map Accessed l)) (sym one) h.performs).0

pub goes_on : (code : FlatCode) (cells : ℕ) (input : List ℤ) (t : Behaviour) (r r' : RunState) (trace : List Entry) (next : NextAction)
    (e : StageEnd)
    (a : Access) (ticket : ℕ)
    → IsUnderWay code cells input t r trace next → RanInstance code cells input (behaviour_after_all t (accessed trace)) [] (a ∷ []) r' e
    → IsUnderWay code cells input t r' (trace ++ record { ticket = ticket; access = a } ∷ []) (action_at e)
goes_on code cells input t r r' trace next e a ticket h ran =
    let left = behaviour_after_all t (accessed trace) in
    let entry : Entry = record { ticket = ticket; access = a } in
    let one : a ∷ [] ≡ ran.accesses = ran.log_is in
    let more : accessed (trace ++ entry ∷ []) ≡ accessed trace ++ Accessed a ∷ [] = map-append (λ (x : Entry). Accessed x.access) trace
    (entry ∷ []) in
    record {
      performs = subst (Performs t) (sym more)
          (performs_push t (accessed trace) (Accessed a) h.performs (offered code cells input left a r' e ran));
      is_at = at_rest code cells input e r' (behaviour_after_all t (accessed (trace ++ entry ∷ []))) (subst (EndsAs code cells input e r')
          (sym (ap (behaviour_after_all t) more ∙ behaviour_after_all-push t (accessed trace) (Accessed a)))
          (subst (λ l. EndsAs code cells input e r' (behaviour_after_all left (map Accessed l))) (sym one) ran.ends_as));
    }

-- an access that is offered, with the value of its cell if it is a read, is the next event
access_event : (p : Pipeline) (before : List Access) (i : ℕ) (d : Behaviour) (a : Access) → Offers d (Accessed a)
    → HasReply p.store before a
    → event_of_behaviour p before i d ≡ events.Access i a
access_event p before i (Reading c go) a o reply =
    let is : Accessed a ≡ Accessed (read_access c o.0) = o.1 in
    let same : a ≡ read_access c o.0 = cc in
    let read = reply (ap (λ (x : Access). x.kind) same) in
    let value : value_after p.store before c ≡ o.0 =
    ap (value_after p.store before) (sym (ap (λ (x : Access). x.cell.0) same)) ∙ sym read ∙ ap (λ (x : Access). x.value) same in
    ap (λ v. events.Access i (read_access c v)) value ∙ ap (events.Access i) (sym same)
access_event p before i (Writing c v d) a o reply =
    let is : Accessed a ≡ Accessed (write_access c v) = o in
    let same : a ≡ write_access c v = cc in
    ap (events.Access i) (sym same)
access_event p before i (Staging k n d) a o reply = absurd (let is : Accessed a ≡ Staged k n = o in cc)
access_event p before i (Ending e) a o reply = absurd (let is : Accessed a ≡ Ended e = o in cc)

pub access_is_next : (code : FlatCode) (cells : ℕ) (input : List ℤ) (t : Behaviour) (r' : RunState) (trace : List Entry) (e : StageEnd)
    (a : Access)
    (p : Pipeline) (before : List Access) (i : ℕ) → RanInstance code cells input (behaviour_after_all t (accessed trace)) [] (a ∷ []) r' e
    → HasReply p.store before a → next_of p before i t trace ≡ events.Access i a
access_is_next code cells input t r' trace e a p before i ran reply =
    let left = behaviour_after_all t (accessed trace) in
    access_event p before i left a (offered code cells input left a r' e ran) reply

-- ---- the end

-- the naming of a stage leaves the same by the actions and by the replies
pub after_trace : (d : Behaviour) (trace : List Entry) (k : Kind) (n : ℤ) (rest : Behaviour) → Performs d (accessed trace)
    → behaviour_after_all d (accessed trace) ≡ Staging k n rest → rest ≡ after_instance d (replies_of trace)
after_trace (Reading c go) [] k n rest h e = absurd (cc)
after_trace (Writing c v d) [] k n rest h e = absurd (cc)
after_trace (Staging j m d) [] k n rest h e = cc
after_trace (Ending x) [] k n rest h e = absurd (cc)
after_trace (Reading c go) (a ∷ as') k n rest h e =
    let is : Accessed a.access ≡ Accessed (read_access c h.0.0) = h.0.1 in
    let same : a.access ≡ read_access c h.0.0 = cc in
    subst (λ w. rest ≡ after_instance (Reading c go) (reply_of w a.access.value (replies_of as'))) (sym (ap (λ (x : Access). x.kind) same))
    (after_trace (go a.access.value) as' k n rest h.1 e)
after_trace (Writing c v d) (a ∷ as') k n rest h e =
    let is : Accessed a.access ≡ Accessed (write_access c v) = h.0 in
    let same : a.access ≡ write_access c v = cc in
    subst (λ w. rest ≡ after_instance (Writing c v d) (reply_of w a.access.value (replies_of as'))) (sym (ap (λ (x : Access). x.kind) same))
    (after_trace d as' k n rest h.1 e)
after_trace (Staging j m d) (a ∷ as') k n rest h e = absurd (let is : Accessed a.access ≡ Staged j m = h.0 in cc)
after_trace (Ending x) (a ∷ as') k n rest h e = absurd (let is : Accessed a.access ≡ Ended x = h.0 in cc)

-- the instance names a next stage
names_next : (code : FlatCode) (cells : ℕ) (input : List ℤ) (t : Behaviour) (run : RunState) (trace : List Entry) (k : Kind) (n : ℤ)
    (rest : Behaviour)
    → Performs t (accessed trace) → behaviour_after_all t (accessed trace) ≡ Staging k n rest
    → Performs t (accessed trace ++ Staged k n ∷ [])
names_next code cells input t run trace k n rest h is =
    performs_push t (accessed trace) (Staged k n) h (subst (λ d. Offers d (Staged k n)) (sym is) refl)

ends_now : (t : Behaviour) (trace : List Entry) (x : ColumnEnd) → Performs t (accessed trace)
    → behaviour_after_all t (accessed trace) ≡ Ending x
    → Performs t (accessed trace ++ Ended x ∷ [])
ends_now t trace x h is = performs_push t (accessed trace) (Ended x) h (subst (λ d. Offers d (Ended x)) (sym is) refl)

-- an instance that is at its end has performed its accesses and the end, which is its next event; if it names a next stage, the machine is
-- at the beginning of the next instance
pub record EndsInstance (code : FlatCode) (cells : ℕ) (input : List ℤ) (t : Behaviour) (run : RunState) (trace : List Entry)
    (end : StageEnd) : Type 0 where
  pub performs : Performs t (accessed trace ++ stage_end_actions end)
  pub event : (p : Pipeline) (before : List Access) (i : ℕ) → stage_end_events i end ≡ next_of p before i t trace ∷ []
  pub represents : NamesNextStage end → Represents code cells input run (after_instance t (replies_of trace))

pub instance_ends : (code : FlatCode) (cells : ℕ) (input : List ℤ) (t : Behaviour) (run : RunState) (trace : List Entry) (end : StageEnd)
    → IsUnderWay code cells input t run trace (actions.End end) → EndsInstance code cells input t run trace end
instance_ends code cells input t run trace (stage_ends.Wait n) h = record {
  performs = names_next code cells input t run trace kinds.Wait n h.is_at.1.0 h.performs h.is_at.1.1;
  event = λ p before i. ap (λ d. event_of_behaviour p before i d ∷ []) (sym h.is_at.1.1);
  represents = λ names. subst (Represents code cells input run) (after_trace t trace kinds.Wait n h.is_at.1.0 h.performs h.is_at.1.1)
      h.is_at.1.2;
}
instance_ends code cells input t run trace (stage_ends.Continue n) h = record {
  performs = names_next code cells input t run trace kinds.Continue n h.is_at.1.0 h.performs h.is_at.1.1;
  event = λ p before i. ap (λ d. event_of_behaviour p before i d ∷ []) (sym h.is_at.1.1);
  represents = λ names. subst (Represents code cells input run) (after_trace t trace kinds.Continue n h.is_at.1.0 h.performs h.is_at.1.1)
      h.is_at.1.2;
}
instance_ends code cells input t run trace stage_ends.End h = record {
  performs = ends_now t trace ends.End h.performs h.is_at.1;
  event = λ p before i. ap (λ d. event_of_behaviour p before i d ∷ []) (sym h.is_at.1);
  represents = λ names. elim names [ ];
}
instance_ends code cells input t run trace stage_ends.Closed h = record {
  performs = ends_now t trace ends.Closed h.performs h.is_at.1;
  event = λ p before i. ap (λ d. event_of_behaviour p before i d ∷ []) (sym h.is_at.1);
  represents = λ names. elim names [ ];
}
instance_ends code cells input t run trace (stage_ends.Trap w) h = record {
  performs = ends_now t trace (ends.Trapped w) h.performs h.is_at.1;
  event = λ p before i. ap (λ d. event_of_behaviour p before i d ∷ []) (sym h.is_at.1);
  represents = λ names. elim names [ ];
}
instance_ends code cells input t run trace stage_ends.Stopped h = absurd (h.is_at.0 refl)

-- ---- instances one after the other

pub after_instances-push : (d : Behaviour) (replies : List (List ℤ)) (r : List ℤ)
    → after_instances d (replies ++ r ∷ []) ≡ after_instance (after_instances d replies) r
after_instances-push d [] r = refl
after_instances-push d (x ∷ replies) r = after_instances-push (after_instance d x) replies r
