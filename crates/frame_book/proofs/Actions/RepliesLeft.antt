-- What an iteration has left to do, by its actions and by its replies.
use Rattle.std.proofs.Common.{◌≡◌, ◌∙◌, ℕ, ℤ, suc, ◌+◌, List, [], ◌∷◌, ◌++◌, Bool, true, false, length, map, get_or, refl, ap, ap₂, sym}
use Rattle.std.proofs.Common.{subst, arith, append_assoc, Some, None, ◌==◌}
use Rattle.std.proofs.lemmas.List.{map-append}
use Rattle.pipe_model.specs.declared.access.Access.{Access as Cell_access}
use Rattle.pipe_model.specs.declared.event.Event.{Event}
use Rattle.pipe_model.specs.declared.event.Event.TheVariants.{Begin, Advance, Enter, Finish, Stop, Access}
use Rattle.pipe_model.specs.declared.node.Kind.{Kind}
use Rattle.pipe_model.specs.declared.ticket.BookEntry.{BookEntry}
use Rattle.pipe_model.specs.declared.ticket.Entry.{Entry}
use Rattle.pipe_model.specs.Language.Interaction.{reply_of}
use Rattle.pipe_model.specs.Pipelines.Behaviour.{Action, Accessed, Staged, Ended, Behaviour, Reading, Writing, Staging, Ending, Performs}
use Rattle.pipe_model.specs.Pipelines.Behaviour.{accesses_in, behaviour_after, behaviour_after_all, read_access, trace_end, write_access}
use Rattle.pipe_model.specs.Runs.TicketLogs.{TimedAction, laid_traces, end_action, end_actions, if_end}
use Rattle.pipe_frame.specs.Replies.{accessed, after_instance, after_instances, replies_of}
use Rattle.frame_book.specs.BookStates.{made, timed_access}
use Rattle.frame_book.specs.Invariant.{actions_in}
use Rattle.frame_book.proofs.Actions.LegalActions.{performs_split}
use Rattle.frame_book.proofs.Actions.TraceActions.{untimed}

-- ---- behaviours

after_all-append : (d : Behaviour) (xs ys : List Action) → behaviour_after_all d (xs ++ ys) ≡ behaviour_after_all
    (behaviour_after_all d xs) ys
after_all-append d [] ys = refl
after_all-append d (x ∷ xs) ys = after_all-append (behaviour_after d x) xs ys

performs_join : (d : Behaviour) (xs ys : List Action) → Performs d xs → Performs (behaviour_after_all d xs) ys → Performs d (xs ++ ys)
performs_join d [] ys h g = g
performs_join d (x ∷ xs) ys h g = (h.0, performs_join (behaviour_after d x) xs ys h.1 g)

end_after_accesses : (t : List Entry) (ys : List Action) → trace_end (accessed t ++ ys) ≡ trace_end ys
end_after_accesses [] ys = refl
end_after_accesses (e ∷ t) ys = end_after_accesses t ys

-- an instance that names a stage leaves the same by its actions and by its replies
after_trace : (d : Behaviour) (t : List Entry) (k : Kind) (n : ℤ) → Performs d (accessed t ++ Staged k n ∷ [])
    → behaviour_after (behaviour_after_all d (accessed t)) (Staged k n) ≡ after_instance d (replies_of t)
after_trace (Reading c go) [] k n h = absurd (let q : Staged k n ≡ Accessed (read_access c h.0.0) = h.0.1 in cc)
after_trace (Writing c v d) [] k n h = absurd (let q : Staged k n ≡ Accessed (write_access c v) = h.0 in cc)
after_trace (Staging j m d) [] k n h = refl
after_trace (Ending x) [] k n h = absurd (let q : Staged k n ≡ Ended x = h.0 in cc)
after_trace (Reading c go) (e ∷ t) k n h =
    let q : Accessed e.access ≡ Accessed (read_access c h.0.0) = h.0.1 in
    let same : e.access ≡ read_access c h.0.0 = cc in
    subst (λ w. behaviour_after (behaviour_after_all (go e.access.value) (accessed t)) (Staged k n)
    ≡ after_instance (Reading c go) (reply_of w e.access.value (replies_of t))) (sym (ap (λ (a : Cell_access). a.kind) same))
    (after_trace (go e.access.value) t k n h.1)
after_trace (Writing c v d) (e ∷ t) k n h =
    let q : Accessed e.access ≡ Accessed (write_access c v) = h.0 in
    let same : e.access ≡ write_access c v = cc in
    subst (λ w. behaviour_after (behaviour_after_all d (accessed t)) (Staged k n)
    ≡ after_instance (Writing c v d) (reply_of w e.access.value (replies_of t))) (sym (ap (λ (a : Cell_access). a.kind) same))
    (after_trace d t k n h.1)
after_trace (Staging j m d) (e ∷ t) k n h = absurd (let q : Accessed e.access ≡ Staged j m = h.0 in cc)
after_trace (Ending x) (e ∷ t) k n h = absurd (let q : Accessed e.access ≡ Ended x = h.0 in cc)

-- ---- traces, each with the action that ends its instance

abbrev laid_out : List (List Entry) → List Action → List Action
laid_out [] xs = []
laid_out (t ∷ ts) [] = []
laid_out (t ∷ ts) (x ∷ xs) = accessed t ++ x ∷ laid_out ts xs

abbrev actions_of : List TimedAction → List Action
actions_of xs = map (λ (a : TimedAction). a.action) xs

laid_is : (of : ℕ → List TimedAction) (k : ℕ) (ends : List TimedAction) (ts : List (List Entry)) → length ts ≡ length ends
    → ((j : ℕ) → of (k + j) ≡ map timed_access (get_or ts j [])) → actions_of (laid_traces of k ends) ≡ laid_out ts (actions_of ends)
laid_is of k [] [] l h = (let z : k ≡ k + 0 = omega arith in ap actions_of (ap of z ∙ h 0))
laid_is of k [] (t ∷ ts) l h = absurd (omega (arith, l))
laid_is of k (e ∷ ends) [] l h = absurd (omega (arith, l))
laid_is of k (e ∷ ends) (t ∷ ts) l h =
    let z : k ≡ k + 0 = omega arith in
    let here : actions_of (of k) ≡ accessed t = ap actions_of (ap of z ∙ h 0) ∙ untimed t in
    map-append (λ (a : TimedAction). a.action) (of k) (e ∷ laid_traces of (k + 1) ends)
    ∙ ap₂ (λ a b. a ++ e.action ∷ b) here
    (laid_is of (k + 1) ends ts (omega (arith, l)) (λ j. let s : k + 1 + j ≡ k + suc j = omega arith in ap of s ∙ h (suc j)))

-- the same is left by the actions and by the replies, as long as the iteration has not ended
left_is : (ts : List (List Entry)) (xs : List Action) → length ts ≡ length xs → accesses_in xs ≡ [] → (d : Behaviour)
    → Performs d (laid_out ts xs)
    → trace_end (laid_out ts xs) ≡ None → behaviour_after_all d (laid_out ts xs) ≡ after_instances d (map replies_of ts)
left_is [] xs l a d p e = refl
left_is (t ∷ ts) [] l a d p e = absurd (omega (arith, l))
left_is (t ∷ ts) (Accessed b ∷ xs) l a d p e = absurd (let q : b ∷ accesses_in xs ≡ [] = a in cc)
left_is (t ∷ ts) (Ended x ∷ xs) l a d p e =
    absurd (let q : Some x ≡ None = sym (end_after_accesses t (Ended x ∷ laid_out ts xs)) ∙ e in cc)
left_is (t ∷ ts) (Staged k n ∷ xs) l a d p e =
    let rest : List Action = laid_out ts xs in
    let two = performs_split d (accessed t ++ Staged k n ∷ []) rest
    (subst (Performs d) (sym (append_assoc (accessed t) (Staged k n ∷ []) rest)) p) in
    let first = after_trace d t k n two.0 in
    let after = after_all-append d (accessed t) (Staged k n ∷ []) ∙ first in
    after_all-append d (accessed t) (Staged k n ∷ rest)
    ∙ (ap (λ b. behaviour_after_all b rest) first
    ∙ left_is ts xs (omega (arith, l)) a (after_instance d (replies_of t)) (subst (λ b. Performs b rest) after two.1)
    (sym (end_after_accesses t (Staged k n ∷ rest)) ∙ e))

-- ---- the ends in a log

no_access_if : (b : Bool) (t : ℕ) (x : Action) (rest : List TimedAction) → accesses_in (x ∷ []) ≡ [] → accesses_in (actions_of rest) ≡ []
    → accesses_in (actions_of (if_end b t x ++ rest)) ≡ []
no_access_if false t x rest h r = r
no_access_if true t (Accessed a) rest h r = absurd (let q : a ∷ [] ≡ [] = h in cc)
no_access_if true t (Staged k n) rest h r = r
no_access_if true t (Ended e) rest h r = r

no_access_in : (i : ℕ) (e : Event) (t : ℕ) (rest : List TimedAction) → accesses_in (actions_of rest) ≡ []
    → accesses_in (actions_of (end_action i e t ++ rest)) ≡ []
no_access_in i (Begin j) t rest r = r
no_access_in i (Enter j) t rest r = r
no_access_in i (Access j a) t rest r = r
no_access_in i (Advance j k n) t rest r = no_access_if (j == i) t (Staged k n) rest refl r
no_access_in i (Finish j x) t rest r = no_access_if (j == i) t (Ended x) rest refl r
no_access_in i Stop t rest r = r

no_access : (i : ℕ) (log : List BookEntry) → accesses_in (actions_of (end_actions i log)) ≡ []
no_access i [] = refl
no_access i (b ∷ bs) = no_access_in i b.event b.ticket (end_actions i bs) (no_access i bs)

-- ---- an iteration that has not ended

module _ (d : Behaviour) (log : List BookEntry) (traces : List (List (List Entry))) (i : ℕ)
    (counted : length (end_actions i log) ≡ length (get_or traces i [])) (performs : Performs d (actions_in log traces i))
    (going : trace_end (actions_in log traces i) ≡ None) where
  laid : actions_in log traces i ≡ laid_out (get_or traces i []) (actions_of (end_actions i log))
  laid = laid_is (made traces i) 0 (end_actions i log) (get_or traces i []) (sym counted)
      (λ j. let z : 0 + j ≡ j = omega arith in ap (λ q. map timed_access (get_or (get_or traces i []) q [])) z)

  pub left_after_replies : behaviour_after_all d (actions_in log traces i) ≡ after_instances d (map replies_of (get_or traces i []))
  left_after_replies =
      let ends : length (actions_of (end_actions i log)) ≡ length (end_actions i log) = Rattle.std.proofs.lemmas.List.length-map
      (end_actions i log) (λ (a : TimedAction). a.action) in
      ap (behaviour_after_all d) laid
      ∙ left_is (get_or traces i []) (actions_of (end_actions i log)) (sym (ends ∙ counted)) (no_access i log) d
      (subst (Performs d) laid performs) (sym (ap trace_end laid) ∙ going)

  -- what is performed after the replies is performed after the actions
  pub performs_next : (xs : List Action) → Performs (after_instances d (map replies_of (get_or traces i []))) xs
      → Performs d (actions_in log traces i ++ xs)
  performs_next xs h = performs_join d (actions_in log traces i) xs performs (subst (λ b. Performs b xs) (sym left_after_replies) h)
