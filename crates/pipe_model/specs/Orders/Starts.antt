-- The starts of a run: the instances that its events start, in order. They depend on the events alone.
use Rattle.std.specs.Prelude.{◌≡◌, ℕ, suc, List, [], ◌∷◌, ◌++◌, ◌<◌, length, slice_index_or, ◌==◌, if◌then◌else◌, ◌&&◌}
use Rattle.pipe_model.specs.declared.event.Event.{Event}
use Rattle.pipe_model.specs.declared.event.Event.TheVariants.{Begin, Advance, Enter, Finish, Stop, Access}
use Rattle.pipe_model.specs.declared.node.Node.{Node}
use Rattle.pipe_model.specs.declared.node.NodeId.{NodeId}
use Rattle.pipe_model.specs.Races.Columns.{nodes_at, at}
use Rattle.pipe_model.specs.Races.Dag.{Edge}
use Rattle.pipe_model.specs.Runs.State.{State, initial_state, next_state, own_columns}

-- the instance that an event starts, if it starts one
abbrev pub started_by : State → Event → List NodeId
started_by s (Begin i) = at i 0 ∷ []
started_by s (Enter i) = at i (length (nodes_at (own_columns s) i)) ∷ []
started_by s (Access i a) = []
started_by s (Advance i k n) = []
started_by s (Finish i e) = []
started_by s Stop = []

-- the starts of these events after a state
abbrev pub starts_from : State → List Event → List NodeId
starts_from s [] = []
starts_from s (e ∷ es) = started_by s e ++ starts_from (next_state s e) es

abbrev pub starts_of : List Event → List NodeId
starts_of events = starts_from initial_state events

-- the number of the start of instance k of column i; the length if it has not started
abbrev pub start_number : List NodeId → ℕ → ℕ → ℕ
start_number [] i k = 0
start_number (x ∷ xs) i k = if (x.iteration == i) && (x.index == k) then 0 else suc (start_number xs i k)

-- the start with number m
abbrev pub start_at : List NodeId → ℕ → NodeId
start_at starts m = slice_index_or starts m (at 0 0)

abbrev pub IsStarted : List NodeId → NodeId → Type 0
IsStarted starts x = start_number starts x.iteration x.index < length starts

-- the starts are instances of the columns, each once, and each after all that have an edge to it; not all instances need to have started
pub record AreStarts (columns : List (List Node)) (starts : List NodeId) : Type 0 where
  pub once : (m : ℕ) → m < length starts → start_number starts (start_at starts m).iteration (start_at starts m).index ≡ m
  pub inside : (x : NodeId) → IsStarted starts x → (x.iteration < length columns) × (x.index < length (nodes_at columns x.iteration))
  pub ordered : (x y : NodeId) → Edge columns x y → IsStarted starts y → start_number starts x.iteration x.index < start_number starts
      y.iteration y.index
