-- How many instances a run starts.
use Rattle.std.specs.Prelude.{◌≡◌, ℕ, List, [], ◌∷◌, ◌+◌, ◌*◌, length}
use Rattle.pipe_model.specs.declared.event.Event.{Event}
use Rattle.pipe_model.specs.declared.node.Node.{Node}
use Rattle.pipe_model.specs.Language.Programs.{natural}
use Rattle.pipe_model.specs.Language.SyntaxTree.{SyntaxTree}
use Rattle.pipe_model.specs.Orders.Starts.{starts_of}
use Rattle.pipe_model.specs.Pipelines.Pipeline.{Pipeline}
use Rattle.pipe_model.specs.Runs.Run.{Run}
use Rattle.pipe_model.specs.Runs.State.{State, own_columns}

abbrev pub instances_in : List (List Node) → ℕ
instances_in [] = 0
instances_in (c ∷ cs) = length c + instances_in cs

-- each instance of the run's columns is started once
abbrev pub StartsAreCounted : Type 0
StartsAreCounted =
    (p : Pipeline) (limit : ℕ) (events : List Event) (s : State) → Run p limit events s
    → length (starts_of events) ≡ instances_in (own_columns s)

-- by the limits, the greatest number of instances in a run of a program: those of all iterations, and the one that closes the loop
abbrev pub most_instances : SyntaxTree → ℕ
most_instances tree = natural tree.limits.iterations * natural tree.limits.stages + 1
