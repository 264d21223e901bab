-- Laws of behaviours: the actions that an iteration can make, as defined by an interpreter, by replies, and action by action.
-- Interaction trees are as in Xia et al. 2020.
use Rattle.std.specs.Prelude.{List, ℕ, ◌≡◌, ◌++◌, ℤ}
use Rattle.pipe_model.specs.Pipelines.Behaviour.{accesses_in, Behaviour, Performs, actions_with, Action, HasNoEnd}
use Rattle.pipe_model.specs.Language.Interaction.{bind, interpreted_bind, Interaction, Progress, interpreted_actions, interpret}
use Rattle.pipe_model.specs.Language.Interaction.{with_budget, replies_in}
use Rattle.pipe_model.specs.Pipelines.Pipeline.{Pipeline}
use Rattle.pipe_model.specs.Pipelines.SerialElision.{serial_trace}
use Rattle.pipe_model.specs.declared.access.Access.{Access}
use Rattle.pipe_model.specs.declared.column.ColumnEnd.{ColumnEnd}

-- an interpreter adds to the actions so far the serial trace of the tree's behaviour, after the accesses so far
abbrev pub InterpretersAreSerial : Type 0
InterpretersAreSerial =
    (p : Pipeline) (base : List Access) (budget : ℕ) (tree : Interaction ColumnEnd) (k : Progress)
    → interpreted_actions (interpret p.store base budget tree k)
    ≡ k.actions ++ serial_trace p.store (with_budget budget k.left tree) (base ++ accesses_in k.actions)

-- what a behaviour performs is what it does with the replies that are in it:
-- the actions with any replies are performed; a performed trace is a prefix of the actions with its own replies; and more
-- replies only add actions at the end
pub record PerformsByReplies (behaviour : Behaviour) : Type 0 where
  pub performs : (replies : List ℤ) → Performs behaviour (actions_with behaviour replies)
  pub begins : (actions : List Action) → Performs behaviour actions → HasNoEnd actions
      → (rest : List Action) × (actions_with behaviour (replies_in actions) ≡ actions ++ rest)
  pub grows : (replies more : List ℤ)
      → (rest : List Action) × (actions_with behaviour (replies ++ more) ≡ actions_with behaviour replies ++ rest)

-- every behaviour performs by replies
abbrev pub BehavioursPerform : Type 0
BehavioursPerform = (behaviour : Behaviour) → PerformsByReplies behaviour

-- an interpreter of one tree and then another is the interpreter of the one, and then of the other from what it kept
abbrev pub BindsAreInterpretedInTurn : Type 0 → Type 0 → Type 0
BindsAreInterpretedInTurn A B =
    (p : Pipeline) (base : List Access) (budget : ℕ) (tree : Interaction A) (next : A → Interaction B) (k : Progress)
    → interpret p.store base budget (bind tree next) k
    ≡ interpreted_bind (interpret p.store base budget tree k) (λ a j. interpret p.store base budget (next a) j)
