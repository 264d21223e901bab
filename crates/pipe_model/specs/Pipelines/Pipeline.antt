-- A pipeline program (Lee et al. 2013): a loop whose iterations go through stages, given by what each iteration does;
-- and when it is well-formed.
use Rattle.std.specs.Prelude.{◌≡◌, ℕ, ℤ, suc, List, Bool, true, false, pos, ◌≢◌, ◌<ℤ◌}
use Rattle.pipe_model.specs.declared.access.Access.{Access}
use Rattle.pipe_model.specs.declared.node.Kind.TheVariants.{Zero}
use Rattle.pipe_model.specs.declared.column.ColumnEnd.TheVariants as ends
use Rattle.pipe_model.specs.Pipelines.Behaviour.{Behaviour, Reading, Writing, Staging, Ending, closes_at_once}
use Rattle.pipe_model.specs.Pipelines.Store.{InitialStore}

-- a pipeline: the store before the first access, the accesses before the loop, what each iteration does,
-- and the iteration that always closes the loop
pub record Pipeline : Type 0 where
  pub store : InitialStore
  pub preamble : List Access
  pub behaviour : ℕ → Behaviour
  pub last_iteration : ℕ

-- whatever is read, the iteration ends in its instance 0, and closes the loop
abbrev pub AlwaysClosesLoop : Behaviour → Type 0
AlwaysClosesLoop (Reading c go) = (v : ℤ) → AlwaysClosesLoop (go v)
AlwaysClosesLoop (Writing c v d) = AlwaysClosesLoop d
AlwaysClosesLoop (Staging k n d) = ⊥
AlwaysClosesLoop (Ending e) = closes_at_once e ≡ true

-- from an instance with number n on, stage numbers rise and no stage is of kind Zero;
-- `first` says that it is instance 0, which alone may end with Closed
abbrev pub HasLegalStages : Bool → ℤ → Behaviour → Type 0
HasLegalStages first n (Reading c go) = (v : ℤ) → HasLegalStages first n (go v)
HasLegalStages first n (Writing c v d) = HasLegalStages first n d
HasLegalStages first n (Staging k m d) = (k ≢ Zero) × ((n <ℤ m) × HasLegalStages false m d)
HasLegalStages first n (Ending e) = e ≡ ends.Closed → first ≡ true

-- each iteration has legal stages, and the last one always closes the loop
pub record IsWellFormed (p : Pipeline) : Type 0 where
  pub legal : (i : ℕ) → HasLegalStages true (pos 0) (p.behaviour i)
  pub closes : AlwaysClosesLoop (p.behaviour p.last_iteration)

-- an instance makes at most `each` accesses, the current one at most `left` more; at most `more` instances follow
abbrev pub HasBoundedWork : ℕ → ℕ → ℕ → Behaviour → Type 0
HasBoundedWork each left more (Reading c go) = (m : ℕ) × (left ≡ suc m) × ((v : ℤ) → HasBoundedWork each m more (go v))
HasBoundedWork each left more (Writing c v d) = (m : ℕ) × (left ≡ suc m) × HasBoundedWork each m more d
HasBoundedWork each left more (Staging k n d) = (m : ℕ) × (more ≡ suc m) × HasBoundedWork each each m d
HasBoundedWork each left more (Ending e) = Unit {0}
