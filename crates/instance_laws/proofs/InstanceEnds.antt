-- Stage instances at their end.
use Rattle.std.proofs.Common.{◌≡◌, ◌∙◌, ap, sym, subst, refl, ℕ, ℤ, List, [], ◌∷◌, ◌++◌, map, Bool, true, Some, append-nil}
use Rattle.pipe_frame.specs.Replies.{accessed, after_instance, after_instances, replies_of}
use Rattle.pipe_model.specs.declared.access.Access.{Access}
use Rattle.pipe_model.specs.declared.column.ColumnEnd.{ColumnEnd}
use Rattle.pipe_model.specs.declared.column.ColumnEnd.TheVariants as ends
use Rattle.pipe_model.specs.declared.node.Kind.{Kind}
use Rattle.pipe_model.specs.declared.node.Kind.TheVariants as kinds
use Rattle.pipe_model.specs.declared.stage.StageEnd.{StageEnd}
use Rattle.pipe_model.specs.declared.stage.StageEnd.TheVariants as stage_ends
use Rattle.pipe_model.specs.declared.ticket.Entry.{Entry}
use Rattle.pipe_model.specs.Language.Interaction.{reply_of}
use Rattle.pipe_model.specs.Pipelines.Behaviour.{Accessed, Staged, Ended, Behaviour, Reading, Writing, Staging, Ending, Offers, Performs}
use Rattle.pipe_model.specs.Pipelines.Behaviour.{behaviour_after_all, read_access, write_access}
use Rattle.run_laws.proofs.Iterations.PerformedActions.{performs_push}
use Rattle.stage_code.specs.FlatCode.{FlatCode}
use Rattle.stage_interp.specs.Executions.{StopsOnly}
use Rattle.stage_interp.specs.MachineState.{RunState}
use Rattle.stage_interp.specs.RemainingBehaviour.{EndsAs, RanInstance, Represents}
use Rattle.instance_laws.specs.EndedInstances.{HasEnded, accesses_of}

-- ---- the accesses

pub accessed_is : (trace : List Entry) → map Accessed (accesses_of trace) ≡ accessed trace
accessed_is [] = refl
accessed_is (e ∷ es) = ap (λ l. Accessed e.access ∷ l) (accessed_is es)

-- ---- the end

-- the naming of a stage leaves the same by the actions and by the replies
pub after_trace : (d : Behaviour) (trace : List Entry) (k : Kind) (n : ℤ) (rest : Behaviour) → Performs d (accessed trace)
    → behaviour_after_all d (accessed trace) ≡ Staging k n rest → rest ≡ after_instance d (replies_of trace)
after_trace (Reading c go) [] k n rest h e = absurd (cc)
after_trace (Writing c v d) [] k n rest h e = absurd (cc)
after_trace (Staging j m d) [] k n rest h e = cc
after_trace (Ending x) [] k n rest h e = absurd (cc)
after_trace (Reading c go) (a ∷ as') k n rest h e =
    let is : Accessed a.access ≡ Accessed (read_access c h.0.0) = h.0.1 in
    let same : a.access ≡ read_access c h.0.0 = cc in
    subst (λ w. rest ≡ after_instance (Reading c go) (reply_of w a.access.value (replies_of as'))) (sym (ap (λ (x : Access). x.kind) same))
    (after_trace (go a.access.value) as' k n rest h.1 e)
after_trace (Writing c v d) (a ∷ as') k n rest h e =
    let is : Accessed a.access ≡ Accessed (write_access c v) = h.0 in
    let same : a.access ≡ write_access c v = cc in
    subst (λ w. rest ≡ after_instance (Writing c v d) (reply_of w a.access.value (replies_of as'))) (sym (ap (λ (x : Access). x.kind) same))
    (after_trace d as' k n rest h.1 e)
after_trace (Staging j m d) (a ∷ as') k n rest h e = absurd (let is : Accessed a.access ≡ Staged j m = h.0 in cc)
after_trace (Ending x) (a ∷ as') k n rest h e = absurd (let is : Accessed a.access ≡ Ended x = h.0 in cc)

module _ (code : FlatCode) (cells : ℕ) (input : List ℤ) (t : Behaviour) (run : RunState) (trace : List Entry)
    (h : Performs t (accessed trace)) where
  names_next : (k : Kind) (n : ℤ) (rest : Behaviour) → behaviour_after_all t (accessed trace) ≡ Staging k n rest
      → Performs t (accessed trace ++ Staged k n ∷ [])
  names_next k n rest is = performs_push t (accessed trace) (Staged k n) h (subst (λ d. Offers d (Staged k n)) (sym is) refl)

  ends_now : (x : ColumnEnd) → behaviour_after_all t (accessed trace) ≡ Ending x → Performs t (accessed trace ++ Ended x ∷ [])
  ends_now x is = performs_push t (accessed trace) (Ended x) h (subst (λ d. Offers d (Ended x)) (sym is) refl)

  -- a machine that has come to rest so has ended its instance
  pub ends_so : (end : StageEnd) → EndsAs code cells input end run (behaviour_after_all t (accessed trace))
      → HasEnded code cells input t run trace end
  ends_so (stage_ends.Wait n) e = record {
    performs = names_next kinds.Wait n e.0 e.1;
    represents = λ names. subst (Represents code cells input run) (after_trace t trace kinds.Wait n e.0 h e.1) e.2;
  }
  ends_so (stage_ends.Continue n) e = record {
    performs = names_next kinds.Continue n e.0 e.1;
    represents = λ names. subst (Represents code cells input run) (after_trace t trace kinds.Continue n e.0 h e.1) e.2;
  }
  ends_so stage_ends.End e = record { performs = ends_now ends.End e; represents = λ names. elim names [ ] }
  ends_so stage_ends.Closed e = record { performs = ends_now ends.Closed e; represents = λ names. elim names [ ] }
  ends_so (stage_ends.Trap w) e = record { performs = ends_now (ends.Trapped w) e; represents = λ names. elim names [ ] }
  ends_so stage_ends.Stopped e = record {
    performs = subst (Performs t) (sym (append-nil (accessed trace))) h;
    represents =
        λ names. elim names [ ];
  }

-- a run over a memory without accesses, which has the accesses of the trace afterwards
pub has_ended : (code : FlatCode) (cells : ℕ) (input : List ℤ) (t : Behaviour) (run : RunState) (trace : List Entry) (end : StageEnd)
    → RanInstance code cells input t [] (accesses_of trace) run end → HasEnded code cells input t run trace end
has_ended code cells input t run trace end r =
    let log : accesses_of trace ≡ r.accesses = r.log_is in
    let same : map Accessed r.accesses ≡ accessed trace = ap (map Accessed) (sym log) ∙ accessed_is trace in
    ends_so code cells input t run trace (subst (Performs t) same r.performs) end
    (subst (λ l. EndsAs code cells input end run (behaviour_after_all t l)) same r.ends_as)

-- ---- instances one after the other

pub after_instances-push : (d : Behaviour) (replies : List (List ℤ)) (r : List ℤ)
    → after_instances d (replies ++ r ∷ []) ≡ after_instance (after_instances d replies) r
after_instances-push d [] r = refl
after_instances-push d (x ∷ replies) r = after_instances-push (after_instance d x) replies r

-- ---- instances that were stopped

-- an instance that was stopped had a memory that was stopped
pub stops_only : (end : StageEnd) (stopped : Bool) → end ≡ stage_ends.Stopped → StopsOnly (Some end) stopped → stopped ≡ true
stops_only end stopped is h = subst (λ e. StopsOnly (Some e) stopped) is h
