-- The parts of a list of events: its control part, its accesses, and the actions of each iteration.
use Rattle.std.proofs.Common.{ℕ, List, [], ◌∷◌, Bool, true, false, ◌==◌}
use Rattle.pipe_model.specs.declared.access.Access.{Access as Cell_access}
use Rattle.pipe_model.specs.declared.event.Event.{Event}
use Rattle.pipe_model.specs.declared.event.Event.TheVariants.{Begin, Advance, Enter, Finish, Stop, Access}
use Rattle.pipe_model.specs.Pipelines.Behaviour.{Action, Accessed, Staged, Ended}

-- the events without the accesses
abbrev pub control_events : List Event → List Event
control_events [] = []
control_events (Access i a ∷ es) = control_events es
control_events (Begin i ∷ es) = Begin i ∷ control_events es
control_events (Advance i k n ∷ es) = Advance i k n ∷ control_events es
control_events (Enter i ∷ es) = Enter i ∷ control_events es
control_events (Finish i e ∷ es) = Finish i e ∷ control_events es
control_events (Stop ∷ es) = Stop ∷ control_events es

-- the accesses of the events
abbrev pub accesses_among : List Event → List Cell_access
accesses_among [] = []
accesses_among (Access i a ∷ es) = a ∷ accesses_among es
accesses_among (Begin i ∷ es) = accesses_among es
accesses_among (Advance i k n ∷ es) = accesses_among es
accesses_among (Enter i ∷ es) = accesses_among es
accesses_among (Finish i e ∷ es) = accesses_among es
accesses_among (Stop ∷ es) = accesses_among es

-- the list with one more element at its front, if the condition is true
abbrev pub if_same : Bool → Action → List Action → List Action
if_same true x xs = x ∷ xs
if_same false x xs = xs

-- the actions of iteration i among the events
abbrev pub actions_at : ℕ → List Event → List Action
actions_at i [] = []
actions_at i (Access j a ∷ es) = if_same (j == i) (Accessed a) (actions_at i es)
actions_at i (Begin j ∷ es) = actions_at i es
actions_at i (Advance j k n ∷ es) = if_same (j == i) (Staged k n) (actions_at i es)
actions_at i (Enter j ∷ es) = actions_at i es
actions_at i (Finish j e ∷ es) = if_same (j == i) (Ended e) (actions_at i es)
actions_at i (Stop ∷ es) = actions_at i es
