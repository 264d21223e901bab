-- The result of an interpreter of an interaction tree is the serial trace of the tree's behaviour.
use Rattle.std.proofs.Common.{ℕ, ◌≡◌, zero, refl, suc, List, sym, ◌∙◌, [], ◌∷◌, ◌++◌, ap, append_assoc, append-nil}
use Rattle.pipe_model.specs.Pipelines.Behaviour.{Accessed, read_access, write_access, Staged, Action, accesses_in}
use Rattle.pipe_model.specs.Language.Interaction.{Interpreted, Progress, interpreted_bind, spend_step, Interaction, interpret, bind, Return}
use Rattle.pipe_model.specs.Language.Interaction.{Raise, Step}
use Rattle.pipe_model.specs.Language.Interaction.{Raised, Get, value_seen, progress_with, Set, Stage, interpreted_actions, with_budget}
use Rattle.pipe_model.specs.Pipelines.Pipeline.{Pipeline}
use Rattle.pipe_model.specs.Pipelines.SerialElision.{serial_trace}
use Rattle.pipe_model.specs.declared.access.Access.{Access}
use Rattle.pipe_model.specs.declared.column.ColumnEnd.{ColumnEnd}
use Rattle.pipe_model.specs.declared.trap.Trap.TheVariants.{Budget}
use Rattle.run_laws.proofs.Iterations.TraceParts.{accesses_in-append}
use Rattle.run_laws.specs.BehaviourLaws.{BindsAreInterpretedInTurn, InterpretersAreSerial}

-- a step spent before a bind is spent inside it
outcome_bind-spend_step : {S A B : Type 0} (n : ℕ) (stop : Interpreted S A) (go : ℕ → Interpreted S A)
    (f : A → S → Interpreted S B)
    → interpreted_bind (spend_step n stop go) f ≡ spend_step n (interpreted_bind stop f) (λ m. interpreted_bind (go m) f)
outcome_bind-spend_step zero stop go f = refl
outcome_bind-spend_step (suc n) stop go f = refl

-- two continuations that agree agree after a step
spend_step_same : {B : Type 0} (n : ℕ) (stop : B) (go went : ℕ → B) → ((m : ℕ) → go m ≡ went m)
    → spend_step n stop go ≡ spend_step n stop went
spend_step_same zero stop go went h = refl
spend_step_same (suc n) stop go went h = h n

-- interpreting a bind is interpreting its parts one after the other
interpret-bind : {A B : Type 0} (p : Pipeline) (base : List Access) (budget : ℕ) (d : Interaction A)
    (f : A → Interaction B) (k : Progress)
    → interpret p.store base budget (bind d f) k ≡ interpreted_bind (interpret p.store base budget d k)
    (λ a j. interpret p.store base budget (f a) j)
interpret-bind p base budget (Return a) f k = refl
interpret-bind p base budget (Raise t) f k = refl
interpret-bind p base budget (Step d) f k =
    spend_step_same k.left (Raised Budget k) _ _ (λ n. interpret-bind p base budget d f (record k { left = n }))
    ∙ sym (outcome_bind-spend_step k.left (Raised Budget k) (λ n. interpret p.store base budget d (record k { left = n }))
    (λ a j. interpret p.store base budget (f a) j))
interpret-bind p base budget (Get c go) f k =
    interpret-bind p base budget (go (value_seen p.store base k c)) f
    (progress_with k (Accessed (read_access c (value_seen p.store base k c))))
interpret-bind p base budget (Set c v d) f k =
    interpret-bind p base budget d f (progress_with k (Accessed (write_access c v)))
interpret-bind p base budget (Stage kind n d) f k =
    interpret-bind p base budget d f (record { actions = k.actions ++ Staged kind n ∷ []; left = budget })

-- one more action adds its access to the accesses so far
accesses_with_action : (base : List Access) (k : Progress) (i : Action)
    → base ++ accesses_in (k.actions ++ i ∷ []) ≡ (base ++ accesses_in k.actions) ++ accesses_in (i ∷ [])
accesses_with_action base k i =
    ap (λ l. base ++ l) (accesses_in-append k.actions (i ∷ []))
    ∙ sym (append_assoc base (accesses_in k.actions) (accesses_in (i ∷ [])))

-- `interpret_is_serial`, for a step
interpret_step : (p : Pipeline) (base : List Access) (budget n : ℕ) (d : Interaction ColumnEnd) (k : Progress)
    → k.left ≡ n
    → ((j : Progress) → interpreted_actions (interpret p.store base budget d j) ≡ j.actions
    ++ serial_trace p.store (with_budget budget j.left d) (base ++ accesses_in j.actions))
    → interpreted_actions (spend_step n (Raised Budget k) (λ m. interpret p.store base budget d (record k { left = m })))
    ≡ k.actions ++ serial_trace p.store (with_budget budget n (Step d)) (base ++ accesses_in k.actions)
interpret_step p base budget zero d k e h = refl
interpret_step p base budget (suc n) d k e h = h (record k { left = n })

-- the actions so far, and then the serial trace of what is left
interpret_is_serial : (p : Pipeline) (base : List Access) (budget : ℕ) (d : Interaction ColumnEnd) (k : Progress)
    → interpreted_actions (interpret p.store base budget d k) ≡ k.actions
    ++ serial_trace p.store (with_budget budget k.left d) (base ++ accesses_in k.actions)
interpret_is_serial p base budget (Return e) k = refl
interpret_is_serial p base budget (Raise t) k = refl
interpret_is_serial p base budget (Step d) k =
    interpret_step p base budget k.left d k refl (interpret_is_serial p base budget d)
interpret_is_serial p base budget (Get c go) k =
    let v = value_seen p.store base k c in
    let i = Accessed (read_access c v) in
    interpret_is_serial p base budget (go v) (progress_with k i)
    ∙ ap (λ m. (k.actions ++ i ∷ []) ++ serial_trace p.store (with_budget budget k.left (go v)) m)
    (accesses_with_action base k i)
    ∙ append_assoc k.actions (i ∷ []) (serial_trace p.store (with_budget budget k.left (go v))
    ((base ++ accesses_in k.actions) ++ read_access c v ∷ []))
interpret_is_serial p base budget (Set c v d) k =
    let i = Accessed (write_access c v) in
    interpret_is_serial p base budget d (progress_with k i)
    ∙ ap (λ m. (k.actions ++ i ∷ []) ++ serial_trace p.store (with_budget budget k.left d) m)
    (accesses_with_action base k i)
    ∙ append_assoc k.actions (i ∷ []) (serial_trace p.store (with_budget budget k.left d)
    ((base ++ accesses_in k.actions) ++ write_access c v ∷ []))
interpret_is_serial p base budget (Stage kind n d) k =
    let i = Staged kind n in
    interpret_is_serial p base budget d (record { actions = k.actions ++ i ∷ []; left = budget })
    ∙ ap (λ m. (k.actions ++ i ∷ []) ++ serial_trace p.store (with_budget budget budget d) m) (accesses_with_action base k i
    ∙ append-nil (base ++ accesses_in k.actions))
    ∙ append_assoc k.actions (i ∷ []) (serial_trace p.store (with_budget budget budget d) (base ++ accesses_in k.actions))

-- the law of interpreters
pub interpreters_are_serial : InterpretersAreSerial
interpreters_are_serial p base budget tree k = interpret_is_serial p base budget tree k

-- the law of binds
pub binds_are_interpreted_in_turn : {A B : Type 0} → BindsAreInterpretedInTurn A B
binds_are_interpreted_in_turn p base budget tree next k = interpret-bind p base budget tree next k
