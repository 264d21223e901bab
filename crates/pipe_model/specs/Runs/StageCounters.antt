-- The stage counter of an iteration, which its right neighbour reads.
use Rattle.std.specs.Prelude.{ℤ, List, ◌-◌, ◌<ℤ◌, length}
use Rattle.pipe_model.specs.declared.node.Node.{Node}
use Rattle.pipe_model.specs.declared.stage.Counter.{Counter}
use Rattle.pipe_model.specs.declared.stage.Counter.TheVariants.{At, Ended}
use Rattle.pipe_model.specs.declared.status.Status.{Status}
use Rattle.pipe_model.specs.declared.status.Status.TheVariants.{Running, Pending, Completed}
use Rattle.pipe_model.specs.Races.Columns.{node_at}

-- the counter of an iteration with this status and these instances
abbrev pub counter_of : Status → List Node → Counter
counter_of Running nodes = At (node_at nodes (length nodes - 1)).number
counter_of (Pending k n) nodes = At n
counter_of (Completed e) nodes = Ended

-- the counter is past stage n
abbrev pub Passes : Counter → ℤ → Type 0
Passes (At m) n = n <ℤ m
Passes Ended n = Unit {0}
