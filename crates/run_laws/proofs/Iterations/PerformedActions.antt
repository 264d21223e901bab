-- What a behaviour performs, by replies and action by action.
use Rattle.std.proofs.Common.{List, ◌≡◌, ◌++◌, refl, [], ◌∷◌, sym, subst, ap, ℤ}
use Rattle.pipe_model.specs.Pipelines.Behaviour.{Behaviour, Action, Performs, HasNoEnd, actions_with, Reading, Accessed, read_access}
use Rattle.pipe_model.specs.Pipelines.Behaviour.{behaviour_after}
use Rattle.pipe_model.specs.Pipelines.Behaviour.{Writing, write_access, Staging, Staged, Ending, Offers, behaviour_after_all}
use Rattle.pipe_model.specs.Language.Interaction.{replies_in}
use Rattle.run_laws.specs.BehaviourLaws.{BehavioursPerform}

-- a performed trace is a prefix of the actions with the replies that are in it
actions_begin : (d : Behaviour) (xs : List Action) → Performs d xs → HasNoEnd xs
    → (rest : List Action) × (actions_with d (replies_in xs) ≡ xs ++ rest)
actions_begin d [] h e = (actions_with d [], refl)
actions_begin (Reading c go) (x ∷ xs) h e =
    let v = h.0.0 in
    let same : Accessed (read_access c v) ≡ x = sym h.0.1 in
    let tail : Performs (go v) xs = subst (λ y. Performs (behaviour_after (Reading c go) y) xs) h.0.1 h.1 in
    let free : HasNoEnd (Accessed (read_access c v) ∷ xs) = subst (λ y. HasNoEnd (y ∷ xs)) h.0.1 e in
    let r = actions_begin (go v) xs tail free in (
      r.0,
      subst (λ y. actions_with (Reading c go) (replies_in (y ∷ xs)) ≡ y ∷ (xs ++ r.0)) same
          (ap (λ l. Accessed (read_access c v) ∷ l) r.1),
    )
actions_begin (Writing c v d) (x ∷ xs) h e =
    let same : Accessed (write_access c v) ≡ x = sym h.0 in
    let free : HasNoEnd (Accessed (write_access c v) ∷ xs) = subst (λ y. HasNoEnd (y ∷ xs)) h.0 e in
    let r = actions_begin d xs h.1 free in (
      r.0,
      subst (λ y. actions_with (Writing c v d) (replies_in (y ∷ xs)) ≡ y ∷ (xs ++ r.0)) same
          (ap (λ l. Accessed (write_access c v) ∷ l) r.1),
    )
actions_begin (Staging k n d) (x ∷ xs) h e =
    let same : Staged k n ≡ x = sym h.0 in
    let free : HasNoEnd (Staged k n ∷ xs) = subst (λ y. HasNoEnd (y ∷ xs)) h.0 e in
    let r = actions_begin d xs h.1 free in (
      r.0,
      subst (λ y. actions_with (Staging k n d) (replies_in (y ∷ xs)) ≡ y ∷ (xs ++ r.0)) same
          (ap (λ l. Staged k n ∷ l) r.1),
    )
actions_begin (Ending f) (x ∷ xs) h e = absurd (subst (λ y. HasNoEnd (y ∷ xs)) h.0 e)

-- the actions with any replies are performed
actions_perform : (d : Behaviour) (rs : List ℤ) → Performs d (actions_with d rs)
actions_perform (Reading c go) [] = tt
actions_perform (Reading c go) (r ∷ rs) = ((r, refl), actions_perform (go r) rs)
actions_perform (Writing c v d) rs = (refl, actions_perform d rs)
actions_perform (Staging k n d) rs = (refl, actions_perform d rs)
actions_perform (Ending e) rs = (refl, tt)

-- more replies only add actions at the end
more_replies : (d : Behaviour) (rs more : List ℤ)
    → (rest : List Action) × (actions_with d (rs ++ more) ≡ actions_with d rs ++ rest)
more_replies (Reading c go) [] more = (actions_with (Reading c go) more, refl)
more_replies (Reading c go) (r ∷ rs) more =
    let h = more_replies (go r) rs more in
    (h.0, ap (λ l. Accessed (read_access c r) ∷ l) h.1)
more_replies (Writing c v d) rs more =
    let h = more_replies d rs more in
    (h.0, ap (λ l. Accessed (write_access c v) ∷ l) h.1)
more_replies (Staging k n d) rs more = let h = more_replies d rs more in (h.0, ap (λ l. Staged k n ∷ l) h.1)
more_replies (Ending e) rs more = ([], refl)

-- the law of behaviours
pub behaviours_perform : BehavioursPerform
behaviours_perform d = record { performs = actions_perform d; begins = actions_begin d; grows = more_replies d }

-- one more action, which is offered after the others, is performed too
pub performs_push : (d : Behaviour) (xs : List Action) (x : Action) → Performs d xs
    → Offers (behaviour_after_all d xs) x → Performs d (xs ++ x ∷ [])
performs_push d [] x h o = (o, tt)
performs_push d (y ∷ xs) x h o = (h.0, performs_push (behaviour_after d y) xs x h.1 o)

-- each action that is performed is offered after those before it
pub performs_offers : (d : Behaviour) (xs : List Action) (x : Action) (ys : List Action) → Performs d (xs ++ x ∷ ys)
    → Offers (behaviour_after_all d xs) x
performs_offers d [] x ys h = h.0
performs_offers d (z ∷ xs) x ys h = performs_offers (behaviour_after d z) xs x ys h.1

-- what is left after one more action
pub behaviour_after_all-push : (d : Behaviour) (xs : List Action) (x : Action)
    → behaviour_after_all d (xs ++ x ∷ []) ≡ behaviour_after (behaviour_after_all d xs) x
behaviour_after_all-push d [] x = refl
behaviour_after_all-push d (y ∷ xs) x = behaviour_after_all-push (behaviour_after d y) xs x
