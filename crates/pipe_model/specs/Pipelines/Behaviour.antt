-- What an iteration does: an interaction tree (Xia et al. 2020) without its steps, and the actions that it performs.
-- A trace is the list of the actions of an iteration.
use Rattle.std.specs.Prelude.{◌≡◌, ℕ, ℤ, List, [], ◌∷◌, Bool, true, false, pos, Option, Some, None}
use Rattle.pipe_model.specs.declared.access.Access.{Access}
use Rattle.pipe_model.specs.declared.access.AccessKind.TheVariants.{Read, Write}
use Rattle.pipe_model.specs.declared.column.ColumnEnd.{ColumnEnd}
use Rattle.pipe_model.specs.declared.node.Kind.{Kind}
use Rattle.pipe_model.specs.declared.node.Kind.TheVariants.{Zero}
use Rattle.pipe_model.specs.declared.node.Node.{Node}
use Rattle.pipe_model.specs.declared.column.ColumnEnd.TheVariants as ends

-- a read with what follows each reply, a write, the naming of a next stage, or the end of the iteration
pub data Behaviour : Type 0 where
  Reading : ℕ → (ℤ → Behaviour) → Behaviour
  Writing : ℕ → ℤ → Behaviour → Behaviour
  Staging : Kind → ℤ → Behaviour → Behaviour
  Ending : ColumnEnd → Behaviour

-- an action of an iteration: an access, the naming of a next stage, or the end
pub data Action : Type 0 where
  Accessed : Access → Action
  Staged : Kind → ℤ → Action
  Ended : ColumnEnd → Action

-- a read of cell c with the reply v
abbrev pub read_access : ℕ → ℤ → Access
read_access c v = record { cell = record { 0 = c }; kind = Read; value = v }

-- a write of v to cell c
abbrev pub write_access : ℕ → ℤ → Access
write_access c v = record { cell = record { 0 = c }; kind = Write; value = v }

-- the actions with these replies to the reads, up to the first read that has no reply
abbrev pub actions_with : Behaviour → List ℤ → List Action
actions_with (Reading c go) [] = []
actions_with (Reading c go) (r ∷ rs) = Accessed (read_access c r) ∷ actions_with (go r) rs
actions_with (Writing c v d) rs = Accessed (write_access c v) ∷ actions_with d rs
actions_with (Staging k n d) rs = Staged k n ∷ actions_with d rs
actions_with (Ending e) rs = Ended e ∷ []

-- the action may be the next
abbrev pub Offers : Behaviour → Action → Type 0
Offers (Reading c go) item = (v : ℤ) × (item ≡ Accessed (read_access c v))
Offers (Writing c v d) item = item ≡ Accessed (write_access c v)
Offers (Staging k n d) item = item ≡ Staged k n
Offers (Ending e) item = item ≡ Ended e

-- what is left to do after an action
abbrev pub behaviour_after : Behaviour → Action → Behaviour
behaviour_after (Reading c go) (Accessed a) = go a.value
behaviour_after (Reading c go) (Staged k n) = Reading c go
behaviour_after (Reading c go) (Ended e) = Reading c go
behaviour_after (Writing c v d) item = d
behaviour_after (Staging k n d) item = d
behaviour_after (Ending e) item = Ending e

-- what is left to do after a list of actions
abbrev pub behaviour_after_all : Behaviour → List Action → Behaviour
behaviour_after_all d [] = d
behaviour_after_all d (i ∷ is) = behaviour_after_all (behaviour_after d i) is

-- the behaviour can begin with these actions, with the replies that are in them
abbrev pub Performs : Behaviour → List Action → Type 0
Performs d [] = Unit {0}
Performs d (i ∷ is) = Offers d i × Performs (behaviour_after d i) is

-- the accesses of a trace
abbrev pub accesses_in : List Action → List Access
accesses_in [] = []
accesses_in (Accessed a ∷ is) = a ∷ accesses_in is
accesses_in (Staged k n ∷ is) = accesses_in is
accesses_in (Ended e ∷ is) = accesses_in is

-- an instance of this kind and number
abbrev pub node_of : Kind → ℤ → Node
node_of k n = record { number = n; kind = k }

-- the instances that a trace names, which are all but instance 0
abbrev pub nodes_in : List Action → List Node
nodes_in [] = []
nodes_in (Accessed a ∷ is) = nodes_in is
nodes_in (Staged k n ∷ is) = node_of k n ∷ nodes_in is
nodes_in (Ended e ∷ is) = nodes_in is

-- the column that a trace makes: instance 0, and those that it names
abbrev pub column_of : List Action → List Node
column_of items = node_of Zero (pos 0) ∷ nodes_in items

-- whether instance 0 closes the loop if it has this end, a false test of the loop or a trap
abbrev pub closes_at_once : ColumnEnd → Bool
closes_at_once ends.End = false
closes_at_once ends.Closed = true
closes_at_once (ends.Trapped t) = true

-- whether the trace closes the loop: its instance 0 has such an end
abbrev pub closes_loop : List Action → Bool
closes_loop [] = false
closes_loop (Accessed a ∷ is) = closes_loop is
closes_loop (Staged k n ∷ is) = false
closes_loop (Ended e ∷ is) = closes_at_once e

-- the end of a trace, if it has ended
abbrev pub trace_end : List Action → Option ColumnEnd
trace_end [] = None
trace_end (Accessed a ∷ is) = trace_end is
trace_end (Staged k n ∷ is) = trace_end is
trace_end (Ended e ∷ is) = Some e

-- the trace has not ended
abbrev pub HasNoEnd : List Action → Type 0
HasNoEnd [] = Unit {0}
HasNoEnd (Accessed a ∷ is) = HasNoEnd is
HasNoEnd (Staged k n ∷ is) = HasNoEnd is
HasNoEnd (Ended e ∷ is) = ⊥
