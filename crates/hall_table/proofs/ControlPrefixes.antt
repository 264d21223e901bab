-- A control run leads to the state after its events, and so do its beginnings.
use Rattle.std.proofs.Common.{◌≡◌, ◌⊎◌, ⊎_elim, inl, inr, List, [], ◌∷◌, ◌++◌, ℕ, sym, ap, ap₂, ◌∙◌, refl, subst}
use Rattle.pipe_model.specs.declared.event.Event.{Event}
use Rattle.pipe_model.specs.Runs.ControlRun.{ControlRun, EmptyControlRun, ControlRunThen}
use Rattle.pipe_model.specs.Runs.RunLogs.{state_after}
use Rattle.pipe_model.specs.Runs.State.{State, next_state}
use Rattle.frame_book.proofs.BookLogs.LogEntries.{state_after-push}

-- a control run leads to the state after its events
pub run_state : {limit : ℕ} {es : List Event} {c : State} → ControlRun limit es c → c ≡ state_after es
run_state EmptyControlRun = refl
run_state {limit} (ControlRunThen {events = es} {c = d} r e n g h) = ap (λ s. next_state s e) (run_state r) ∙ sym (state_after-push es e)

-- a beginning of a list with one more item is the whole, or one of the list without it
beginning : {A : Type 0} (xs : List A) (x : A) (ys zs : List A) → xs ++ x ∷ [] ≡ ys ++ zs → (ys ≡ xs ++ x ∷ []) ⊎
    ((ws : List A) × (xs ≡ ys ++ ws))
beginning xs x [] zs e = inr (xs, refl)
beginning [] x (y ∷ []) zs e = inl (let a : x ≡ y = cc in ap (λ t. t ∷ []) (sym a))
beginning [] x (y ∷ (z ∷ ys)) zs e = absurd (let a : [] ≡ (z ∷ ys) ++ zs = cc in cc)
beginning (a ∷ xs) x (y ∷ ys) zs e =
    let same : a ≡ y = cc in
    let tail : xs ++ x ∷ [] ≡ ys ++ zs = cc in
    ⊎_elim (λ p. inl (ap₂ (λ s t. s ∷ t) (sym same) p)) (λ q. inr (q.0, ap₂ (λ s t. s ∷ t) same q.1)) (beginning xs x ys zs tail)

-- the beginning of a control run is a control run
pub control_prefix : {limit : ℕ} {es : List Event} {c : State} → ControlRun limit es c → (front rest : List Event) → es ≡ front ++ rest
    → ControlRun limit front (state_after front)
control_prefix EmptyControlRun [] rest e = EmptyControlRun
control_prefix EmptyControlRun (x ∷ xs) rest e = absurd (cc)
control_prefix {limit} (ControlRunThen {events = ds} {c = d} r x n g h) front rest e =
    ⊎_elim
    (λ (q : front ≡ ds ++ x ∷ []). subst (λ l. ControlRun limit l (state_after l)) (sym q)
    (subst (λ s. ControlRun limit (ds ++ x ∷ []) s) (run_state (ControlRunThen r x n g h)) (ControlRunThen r x n g h)))
    (λ (q : (ws : List Event) × (ds ≡ front ++ ws)). control_prefix r front q.0 q.1)
    (beginning ds x front rest e)
