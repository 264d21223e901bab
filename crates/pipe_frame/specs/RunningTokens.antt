-- Tokens of running instances.
use Rattle.std.specs.Prelude.{◌≡◌, ℕ, zero, suc, List, length}
use Rattle.pipe_model.specs.declared.event.Event.{Event}
use Rattle.pipe_model.specs.declared.node.Node.{Node}
use Rattle.pipe_model.specs.Orders.LeftParent.{joined_at}
use Rattle.pipe_model.specs.Orders.OrderMarks.{instance_marks}
use Rattle.pipe_model.specs.Orders.Starts.{starts_of}
use Rattle.pipe_model.specs.Runs.Allowed.{IsRunning}
use Rattle.pipe_model.specs.Runs.RunLogs.{state_after, columns_after}
use Rattle.pipe_frame.specs.LeftCounters.{IsNotAhead}
use Rattle.pipe_frame.specs.TokenFields.{TokenFields}

-- the last index of the left column that precedes instance k of column i; 0 in column 0
abbrev pub left_joined : List (List Node) → ℕ → ℕ → ℕ
left_joined columns zero k = 0
left_joined columns (suc i) k = joined_at columns i k

-- the fields belong to the token of an instance that runs after these events
pub record IsTokenOf (events : List Event) (t : TokenFields) : Type 0 where
  pub running : IsRunning (state_after events) t.iteration
  pub index : length running.frame.nodes ≡ suc t.index
  pub marks : t.marks ≡ instance_marks (columns_after events) (starts_of events) t.iteration t.index
  pub joined : t.joined ≡ left_joined (columns_after events) t.iteration t.index
  pub folded : IsNotAhead (state_after events).frames t.iteration t.folded
