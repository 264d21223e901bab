-- The states of a control run.
use Rattle.std.proofs.Common.{ℕ, List, ◌≡◌, refl, ap, sym, ◌∙◌, false, [], ◌∷◌, ◌++◌, subst, append_assoc}
use Rattle.std.proofs.lemmas.List.{same_from_push}
use Rattle.pipe_model.specs.Runs.Allowed.{ControlAllows}
use Rattle.pipe_model.specs.Runs.ControlRun.{ControlRun, EmptyControlRun, ControlRunThen, is_access}
use Rattle.pipe_model.specs.Runs.Run.{state_from}
use Rattle.pipe_model.specs.Runs.State.{State, initial_state, next_state}
use Rattle.pipe_model.specs.declared.event.Event.{Event}
use Rattle.run_laws.proofs.LogMerge.LastElements.{LastOf, IsEmpty, HasLast, last_of_list}
use Rattle.run_laws.proofs.RunStates.FrontAndBack.{state_from-push}

-- the state of a control run is the one after its events
pub control_state_is : {limit : ℕ} {es : List Event} {c : State} → ControlRun limit es c
    → c ≡ state_from initial_state es
control_state_is EmptyControlRun = refl
control_state_is (ControlRunThen {events = es} {c = d} r e n g h) =
    ap (λ s. next_state s e) (control_state_is r) ∙ sym (state_from-push initial_state es e)

-- the control part allows the event after the prefix
pub record IsAllowedAt (limit : ℕ) (front : List Event) (e : Event) : Type 0 where
  pub state : State
  pub before : ControlRun limit front state
  pub no_access : is_access e ≡ false
  pub going : state.stopped ≡ false
  pub control : ControlAllows limit state e

-- each event of a control run is allowed after those before it
pub allowed_at : {limit : ℕ} {es : List Event} {c : State} → ControlRun limit es c
    → (front : List Event) (e : Event) (rest : List Event) → es ≡ front ++ e ∷ rest → IsAllowedAt limit front e
allowed_at EmptyControlRun [] e rest same = absurd (cc)
allowed_at EmptyControlRun (x ∷ front) e rest same = absurd (cc)
allowed_at {limit} (ControlRunThen {events = es} {c = d} r x n g h) front e rest same =
    go rest (last_of_list rest) same (λ more q. allowed_at r front e more q)
  where
    go : (ys : List Event) → LastOf ys → es ++ x ∷ [] ≡ front ++ e ∷ ys
        → ((more : List Event) → es ≡ front ++ e ∷ more → IsAllowedAt limit front e) → IsAllowedAt limit front e
    go ys IsEmpty q again =
        let both = same_from_push es front x e q in
        record {
          state = d;
          before = subst (λ l. ControlRun limit l d) both.0 r;
          no_access = subst (λ y. is_access y ≡ false) both.1 n;
          going = g;
          control = subst (λ y. ControlAllows limit d y) both.1 h;
        }
    go ys (HasLast zs z) q again =
        let q' : es ++ x ∷ [] ≡ (front ++ e ∷ zs) ++ z ∷ [] = q ∙ sym (append_assoc front (e ∷ zs) (z ∷ [])) in
        again zs (same_from_push es (front ++ e ∷ zs) x z q').0
