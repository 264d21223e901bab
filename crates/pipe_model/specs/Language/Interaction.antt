-- Interaction trees (Xia et al. 2020) of statements, which also take steps of a budget: the behaviour of a tree,
-- and how an interpreter runs it.
use Rattle.std.specs.Prelude.{ℕ, ℤ, zero, suc, List, [], ◌∷◌, ◌++◌}
use Rattle.pipe_model.specs.declared.access.Access.{Access}
use Rattle.pipe_model.specs.declared.access.AccessKind.{AccessKind}
use Rattle.pipe_model.specs.declared.access.AccessKind.TheVariants.{Read, Write}
use Rattle.pipe_model.specs.declared.column.ColumnEnd.{ColumnEnd}
use Rattle.pipe_model.specs.declared.trap.Trap.{Trap}
use Rattle.pipe_model.specs.declared.trap.Trap.TheVariants.{Budget}
use Rattle.pipe_model.specs.declared.node.Kind.{Kind}
use Rattle.pipe_model.specs.declared.column.ColumnEnd.TheVariants as ends
use Rattle.pipe_model.specs.Pipelines.Behaviour.{Behaviour, Reading, Writing, Staging, Ending, Action, Accessed, Staged, Ended, read_access}
use Rattle.pipe_model.specs.Pipelines.Behaviour.{write_access, accesses_in}
use Rattle.pipe_model.specs.Pipelines.Store.{InitialStore, value_after}

-- a tree returns, raises a trap, takes a step of the budget, reads a cell, writes a cell, or goes to a next stage
pub data Interaction (A : Type 0) : Type 0 where
  Return : A → Interaction A
  Raise : Trap → Interaction A
  Step : Interaction A → Interaction A
  Get : ℕ → (ℤ → Interaction A) → Interaction A
  Set : ℕ → ℤ → Interaction A → Interaction A
  Stage : Kind → ℤ → Interaction A → Interaction A

-- one tree, and then another that may use what the first returns
abbrev pub bind : {A B : Type 0} → Interaction A → (A → Interaction B) → Interaction B
bind (Return a) f = f a
bind (Raise t) f = Raise t
bind (Step d) f = Step (bind d f)
bind (Get c go) f = Get c (λ v. bind (go v) f)
bind (Set c v d) f = Set c v (bind d f)
bind (Stage k n d) f = Stage k n (bind d f)

-- the behaviour of a tree: each instance has a budget of steps, and `left` steps are left in this one
abbrev pub with_budget : ℕ → ℕ → Interaction ColumnEnd → Behaviour
with_budget budget left (Return e) = Ending e
with_budget budget left (Raise t) = Ending (ends.Trapped t)
with_budget budget zero (Step d) = Ending (ends.Trapped Budget)
with_budget budget (suc n) (Step d) = with_budget budget n d
with_budget budget left (Get c go) = Reading c (λ v. with_budget budget left (go v))
with_budget budget left (Set c v d) = Writing c v (with_budget budget left d)
with_budget budget left (Stage k n d) = Staging k n (with_budget budget budget d)

-- how far an interpreter is in an iteration: the actions so far, and the steps that are left
pub record Progress : Type 0 where
  pub actions : List Action
  pub left : ℕ

-- how a tree ends for an interpreter, with the state at its end
pub data Interpreted (S A : Type 0) : Type 0 where
  Returned : A → S → Interpreted S A
  Raised : Trap → S → Interpreted S A

-- goes on with the returned value and the state; after a trap there is nothing more to do
abbrev pub interpreted_bind : {S A B : Type 0} → Interpreted S A → (A → S → Interpreted S B) → Interpreted S B
interpreted_bind (Returned a k) f = f a k
interpreted_bind (Raised t k) f = Raised t k

-- goes on with one step less, or stops if none is left
abbrev pub spend_step : {B : Type 0} → ℕ → B → (ℕ → B) → B
spend_step zero stop go = stop
spend_step (suc n) stop go = go n

-- adds an action
abbrev pub progress_with : Progress → Action → Progress
progress_with k i = record k { actions = k.actions ++ i ∷ [] }

-- the value of cell c after the accesses before the iteration and the iteration's own accesses so far
abbrev pub value_seen : InitialStore → List Access → Progress → ℕ → ℤ
value_seen store base k c = value_after store (base ++ accesses_in k.actions) c

-- runs a tree with a budget of steps for each instance, after the accesses `base`
abbrev pub interpret : {A : Type 0} → InitialStore → List Access → ℕ → Interaction A → Progress → Interpreted Progress A
interpret store base budget (Return a) k = Returned a k
interpret store base budget (Raise t) k = Raised t k
interpret store base budget (Step d) k = spend_step k.left (Raised Budget k) (λ n. interpret store base budget d (record k { left = n }))
interpret store base budget (Get c go) k = interpret store base budget (go (value_seen store base k c))
    (progress_with k (Accessed (read_access c (value_seen store base k c))))
interpret store base budget (Set c v d) k = interpret store base budget d (progress_with k (Accessed (write_access c v)))
interpret store base budget (Stage kind n d) k = interpret store base budget d
    (record { actions = k.actions ++ Staged kind n ∷ []; left = budget })

-- the trace of an iteration that was interpreted to its end
abbrev pub interpreted_actions : Interpreted Progress ColumnEnd → List Action
interpreted_actions (Returned e k) = k.actions ++ Ended e ∷ []
interpreted_actions (Raised t k) = k.actions ++ Ended (ends.Trapped t) ∷ []

-- the replies, with this access's reply at the front if it is a read
abbrev pub reply_of : AccessKind → ℤ → List ℤ → List ℤ
reply_of Read v rs = v ∷ rs
reply_of Write v rs = rs

-- the values of the reads in a trace, in order
abbrev pub replies_in : List Action → List ℤ
replies_in [] = []
replies_in (Accessed a ∷ is) = reply_of a.kind a.value (replies_in is)
replies_in (Staged k n ∷ is) = replies_in is
replies_in (Ended e ∷ is) = replies_in is
