-- For which programs a plan is whole, and at which instance it is.
use Rattle.std.specs.Prelude.{◌≡◌, ℕ, ℤ, List, if◌then◌else◌, None}
use Rattle.pipe_model.specs.declared.column.ColumnEnd.TheVariants.{Closed}
use Rattle.pipe_model.specs.Language.Programs.{pipeline_of}
use Rattle.pipe_model.specs.Language.SyntaxTree.{SyntaxTree}
use Rattle.pipe_model.specs.Pipelines.Behaviour.{Behaviour, Ending}
use Rattle.pipe_frame.specs.Replies.{after_instances}
use Rattle.pipe_frame.specs.Ties.{Tie}
use Rattle.book_tests.specs.declared.plan.Plan.{Plan}
use Rattle.book_tests.specs.StageWaits.{iteration_behaviour, waiting}

-- what the plan has left to do, from the running instance on
abbrev pub left_in : Plan → Behaviour
left_in m = if m.going then waiting m.stages m.here m.left else Ending Closed

-- the program has the iterations of the plan
abbrev pub IsPlanOf : SyntaxTree → Plan → Type 0
IsPlanOf tree m = (input : List ℤ) (i : ℕ) → (pipeline_of tree input).behaviour i ≡ iteration_behaviour m.turns m.waits m.stages i

-- and it has left to do what iteration i of the program has after these replies
abbrev pub IsPlanAt : SyntaxTree → List ℤ → Plan → ℕ → List (List ℤ) → Type 0
IsPlanAt tree input m i replies = IsPlanOf tree m × (after_instances ((pipeline_of tree input).behaviour i) replies ≡ left_in m)

abbrev pub plan_tie : Plan → Tie
plan_tie m = record { lists = None; seat = None }
