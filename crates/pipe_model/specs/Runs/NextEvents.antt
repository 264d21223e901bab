-- Which event an iteration may do next, as a function of the state (`Allowed` is the relation).
use Rattle.std.specs.Prelude.{ℕ, ℤ, zero, suc, List, ◌++◌, Bool, true, false, not, ◌&&◌, ◌||◌, ◌-◌, length, nat_lt, int_lt, Option, Some}
use Rattle.std.specs.Prelude.{None}
use Rattle.pipe_model.specs.declared.access.Access.{Access as Cell_access}
use Rattle.pipe_model.specs.declared.event.Event.{Event}
use Rattle.pipe_model.specs.declared.event.Event.TheVariants.{Begin, Advance, Enter, Finish, Access}
use Rattle.pipe_model.specs.declared.node.Kind.{Kind}
use Rattle.pipe_model.specs.declared.node.Kind.TheVariants.{Zero, Wait, Continue}
use Rattle.pipe_model.specs.declared.node.Node.{Node}
use Rattle.pipe_model.specs.Pipelines.Behaviour.{Behaviour, Reading, Writing, Staging, Ending, Action, behaviour_after_all, read_access}
use Rattle.pipe_model.specs.Pipelines.Behaviour.{write_access, closes_at_once}
use Rattle.pipe_model.specs.Races.Columns.{node_at}
use Rattle.pipe_model.specs.Pipelines.Pipeline.{Pipeline}
use Rattle.pipe_model.specs.Runs.State.{Frame, State, frame_at, alive, accesses_of}
use Rattle.pipe_model.specs.declared.status.Status.{Status}
use Rattle.pipe_model.specs.declared.status.Status.TheVariants.{Running, Pending, Completed}
use Rattle.pipe_model.specs.Pipelines.Store.{value_after}

-- the iteration runs or has named a stage with a number greater than n, or has ended
abbrev pub has_passed : Status → List Node → ℤ → Bool
has_passed Running nodes n = int_lt n (node_at nodes (length nodes - 1)).number
has_passed (Pending k m) nodes n = int_lt n m
has_passed (Completed e) nodes n = true

abbrev pub frame_has_passed : Option Frame → ℤ → Bool
frame_has_passed None n = true
frame_has_passed (Some f) n = has_passed f.status f.nodes n

-- the left neighbour of iteration i, if there is one, has passed the number
abbrev pub left_has_passed : List Frame → ℕ → ℤ → Bool
left_has_passed fs zero n = true
left_has_passed fs (suc j) n = frame_has_passed (frame_at fs j) n

-- iteration i, which has named a stage of this kind and number, may enter it
abbrev pub may_enter : List Frame → ℕ → Kind → ℤ → Bool
may_enter fs i Zero n = true
may_enter fs i Wait n = left_has_passed fs i n
may_enter fs i Continue n = true

-- instance 0 has ended, and did not close the loop
abbrev pub continues_loop : Status → List Node → Bool
continues_loop Running nodes = nat_lt 1 (length nodes)
continues_loop (Pending k m) nodes = true
continues_loop (Completed e) nodes = not (closes_at_once e) || nat_lt 1 (length nodes)

-- the same of the iteration before the next one; true if none has begun
abbrev pub frame_continues_loop : Option Frame → Bool
frame_continues_loop None = true
frame_continues_loop (Some f) = continues_loop f.status f.nodes

-- what the current instance of iteration i does next, if these are the accesses so far
abbrev pub event_of_behaviour : Pipeline → List Cell_access → ℕ → Behaviour → Event
event_of_behaviour p before i (Reading c go) = Access i (read_access c (value_after p.store before c))
event_of_behaviour p before i (Writing c v d) = Access i (write_access c v)
event_of_behaviour p before i (Staging k n d) = Advance i k n
event_of_behaviour p before i (Ending e) = Finish i e

abbrev pub event_if : Bool → Event → Option Event
event_if true e = Some e
event_if false e = None

-- the next event of an iteration with this status and trace: an action, or the start of the stage that it has named; none if it must wait
-- or has ended
abbrev pub event_of_status : Pipeline → State → ℕ → Status → List Action → Option Event
event_of_status p s i Running trace = Some (event_of_behaviour p (p.preamble ++ accesses_of s.accesses) i
    (behaviour_after_all (p.behaviour i) trace))
event_of_status p s i (Pending k n) trace = event_if (may_enter s.frames i k n) (Enter i)
event_of_status p s i (Completed e) trace = None

abbrev pub event_of_frame : Pipeline → State → ℕ → Option Frame → Option Event
event_of_frame p s i None = None
event_of_frame p s i (Some f) = event_of_status p s i f.status f.trace

-- the only event that iteration i may do next
abbrev pub next_event : Pipeline → State → ℕ → Option Event
next_event p s i = event_of_frame p s i (frame_at s.frames i)

-- the beginning of the next iteration, if it may begin
abbrev pub next_begin : ℕ → State → Option Event
next_begin limit s = event_if (nat_lt (alive s) limit && frame_continues_loop (frame_at s.frames (length s.frames - 1)))
    (Begin (length s.frames))
