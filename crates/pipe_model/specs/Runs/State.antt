-- States of a run: the iterations that have begun, what they have done so far, and how an event changes a state.
use Rattle.std.specs.Prelude.{ℕ, zero, suc, List, [], ◌∷◌, ◌++◌, Bool, true, false, pos, ◌+◌, length, ◌-◌, map, Option, Some, None}
use Rattle.pipe_model.specs.declared.access.Access.{Access as Cell_access}
use Rattle.pipe_model.specs.declared.access.NodeAccess.{NodeAccess}
use Rattle.pipe_model.specs.declared.column.ColumnEnd.{ColumnEnd}
use Rattle.pipe_model.specs.declared.event.Event.{Event}
use Rattle.pipe_model.specs.declared.event.Event.TheVariants.{Begin, Advance, Enter, Finish, Stop, Access}
use Rattle.pipe_model.specs.declared.node.Kind.TheVariants.{Zero}
use Rattle.pipe_model.specs.declared.node.Node.{Node}
use Rattle.pipe_model.specs.declared.status.Status.{Status}
use Rattle.pipe_model.specs.declared.status.Status.TheVariants.{Running, Pending, Completed}
use Rattle.pipe_model.specs.Races.Columns.{at}
use Rattle.pipe_model.specs.Pipelines.Behaviour.{Action, Accessed, Staged, Ended, node_of}

-- an iteration: the instances that it has started, its status, and its trace so far
pub record Frame : Type 0 where
  pub nodes : List Node
  pub status : Status
  pub trace : List Action

-- a state of a run: its iterations, its accesses with their instances, and whether it was stopped
pub record State : Type 0 where
  pub frames : List Frame
  pub accesses : List NodeAccess
  pub stopped : Bool

-- no iteration has begun
abbrev pub initial_state : State
initial_state = record { frames = []; accesses = []; stopped = false }

-- an iteration that has just begun: it runs its instance 0
abbrev pub fresh_frame : Frame
fresh_frame = record { nodes = node_of Zero (pos 0) ∷ []; status = Running; trace = [] }

-- the frame of iteration i, if it has begun
abbrev pub frame_at : List Frame → ℕ → Option Frame
frame_at [] i = None
frame_at (f ∷ fs) zero = Some f
frame_at (f ∷ fs) (suc i) = frame_at fs i

-- the frames, after the frame of iteration i was updated by g
abbrev pub update_frame : List Frame → ℕ → (Frame → Frame) → List Frame
update_frame [] i g = []
update_frame (f ∷ fs) zero g = g f ∷ fs
update_frame (f ∷ fs) (suc i) g = f ∷ update_frame fs i g

-- adds an action, and sets the status
abbrev pub with_action : Action → Status → Frame → Frame
with_action item now f = record f { status = now; trace = f.trace ++ item ∷ [] }

-- enters the stage that was named, whose instance then runs
abbrev pub enter_pending : Status → Frame → Frame
enter_pending Running f = f
enter_pending (Pending k n) f = record f { nodes = f.nodes ++ node_of k n ∷ []; status = Running }
enter_pending (Completed e) f = f

-- the index of the current instance, which is the last of its column
abbrev pub current_index : Option Frame → ℕ
current_index None = 0
current_index (Some f) = length f.nodes - 1

-- the trace of a frame; empty if there is none
abbrev pub trace_in : Option Frame → List Action
trace_in None = []
trace_in (Some f) = f.trace

-- the state after an event
abbrev pub next_state : State → Event → State
next_state s (Begin i) = record s { frames = s.frames ++ fresh_frame ∷ [] }
next_state s (Access i a) = record s {
  frames = update_frame s.frames i (with_action (Accessed a) Running);
  accesses = s.accesses ++ record { node = at i (current_index (frame_at s.frames i)); access = a } ∷ [];
}
next_state s (Advance i k n) = record s { frames = update_frame s.frames i (with_action (Staged k n) (Pending k n)) }
next_state s (Enter i) = record s { frames = update_frame s.frames i (λ f. enter_pending f.status f) }
next_state s (Finish i e) = record s { frames = update_frame s.frames i (with_action (Ended e) (Completed e)) }
next_state s Stop = record s { stopped = true }

-- the iteration has ended
abbrev pub is_completed : Status → Bool
is_completed Running = false
is_completed (Pending k n) = false
is_completed (Completed e) = true

-- 1 if the iteration has not ended, and else 0
abbrev pub alive_one : Status → ℕ
alive_one Running = 1
alive_one (Pending k n) = 1
alive_one (Completed e) = 0

-- how many of the iterations have not ended
abbrev pub alive_in : List Frame → ℕ
alive_in [] = 0
alive_in (f ∷ fs) = alive_one f.status + alive_in fs

-- how many iterations of the state have not ended
abbrev pub alive : State → ℕ
alive s = alive_in s.frames

-- the accesses without their instances
abbrev pub accesses_of : List NodeAccess → List Cell_access
accesses_of accesses = map (λ n. n.access) accesses

-- the columns that the run has made so far
abbrev pub own_columns : State → List (List Node)
own_columns s = map (λ f. f.nodes) s.frames

-- the end of an iteration that has ended
abbrev pub end_of_status : Status → Option ColumnEnd
end_of_status Running = None
end_of_status (Pending k n) = None
end_of_status (Completed e) = Some e
