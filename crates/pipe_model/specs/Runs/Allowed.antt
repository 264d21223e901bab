-- Which events are allowed in a state (Lee et al. 2013). The control part depends on instances and status, the program part
-- on traces and cells. An iteration waits until its left neighbour has named a greater stage number.
use Rattle.std.specs.Prelude.{◌≡◌, ℕ, ℤ, zero, suc, List, ◌++◌, true, false, ◌≢◌, ◌<◌, ◌<ℤ◌, length, ◌-◌, Some}
use Rattle.pipe_model.specs.declared.column.ColumnEnd.{ColumnEnd}
use Rattle.pipe_model.specs.declared.event.Event.{Event}
use Rattle.pipe_model.specs.declared.event.Event.TheVariants.{Begin, Advance, Enter, Finish, Stop, Access}
use Rattle.pipe_model.specs.declared.node.Kind.{Kind}
use Rattle.pipe_model.specs.declared.node.Kind.TheVariants.{Zero, Wait}
use Rattle.pipe_model.specs.declared.node.Node.{Node}
use Rattle.pipe_model.specs.declared.column.ColumnEnd.TheVariants as ends
use Rattle.pipe_model.specs.declared.status.Status.{Status}
use Rattle.pipe_model.specs.declared.status.Status.TheVariants.{Running, Pending, Completed}
use Rattle.pipe_model.specs.Races.Columns.{node_at}
use Rattle.pipe_model.specs.Pipelines.Behaviour.{Action, Accessed, Staged, Ended, Offers, behaviour_after_all, closes_at_once}
use Rattle.pipe_model.specs.Pipelines.Pipeline.{Pipeline}
use Rattle.pipe_model.specs.Pipelines.Store.{HasReply}
use Rattle.pipe_model.specs.Runs.StageCounters.{counter_of, Passes}
use Rattle.pipe_model.specs.Runs.State.{Frame, State, frame_at, trace_in, alive, accesses_of}

-- the iteration is past stage n: it has named a greater stage number, or has ended
abbrev pub HasPassed : Status → List Node → ℤ → Type 0
HasPassed status nodes n = Passes (counter_of status nodes) n

-- instance 0 has ended, and did not close the loop
abbrev pub ContinuesLoop : Status → List Node → Type 0
ContinuesLoop Running nodes = 1 < length nodes
ContinuesLoop (Pending k m) nodes = Unit {0}
ContinuesLoop (Completed e) nodes = closes_at_once e ≡ true → 1 < length nodes

-- instance 0 has closed the loop
abbrev pub ClosesLoop : Status → List Node → Type 0
ClosesLoop Running nodes = ⊥
ClosesLoop (Pending k m) nodes = ⊥
ClosesLoop (Completed e) nodes = (closes_at_once e ≡ true) × (length nodes ≡ 1)

-- the loop is closed: an iteration has closed it
pub record IsClosed (fs : List Frame) : Type 0 where
  pub iteration : ℕ
  pub frame : Frame
  pub is : frame_at fs iteration ≡ Some frame
  pub closes : ClosesLoop frame.status frame.nodes

-- instance 0 has ended
abbrev pub EndedFirstInstance : Status → List Node → Type 0
EndedFirstInstance Running nodes = 1 < length nodes
EndedFirstInstance (Pending k m) nodes = Unit {0}
EndedFirstInstance (Completed e) nodes = Unit {0}

-- instance 0 of the iteration that began last has ended, if an iteration has begun
abbrev pub LastEndedFirstInstance : List Frame → Type 0
LastEndedFirstInstance fs = (j : ℕ) (f : Frame) → length fs ≡ suc j → frame_at fs j ≡ Some f → EndedFirstInstance f.status f.nodes

-- the next iteration may begin: fewer than the limit are alive, and the loop goes on after the one before it
pub record MayBegin (limit : ℕ) (s : State) (i : ℕ) : Type 0 where
  pub number : i ≡ length s.frames
  pub room : alive s < limit
  pub follows : (j : ℕ) (f : Frame) → i ≡ suc j → frame_at s.frames j ≡ Some f → ContinuesLoop f.status f.nodes

-- iteration i runs its current instance
pub record IsRunning (s : State) (i : ℕ) : Type 0 where
  pub frame : Frame
  pub is : frame_at s.frames i ≡ Some frame
  pub runs : frame.status ≡ Running

-- the iteration to the left of iteration i, if there is one, has passed the number
abbrev pub LeftHasPassed : List Frame → ℕ → ℤ → Type 0
LeftHasPassed fs zero n = Unit {0}
LeftHasPassed fs (suc j) n = (f : Frame) → frame_at fs j ≡ Some f → HasPassed f.status f.nodes n

-- iteration i has named a stage that does not wait, or that its left neighbour has passed
pub record MayEnter (s : State) (i : ℕ) : Type 0 where
  pub frame : Frame
  pub kind : Kind
  pub number : ℤ
  pub is : frame_at s.frames i ≡ Some frame
  pub named : frame.status ≡ Pending kind number
  pub free : kind ≡ Wait → LeftHasPassed s.frames i number

-- iteration i runs, and names a stage of a kind other than Zero with a greater number
pub record MayAdvance (s : State) (i : ℕ) (k : Kind) (n : ℤ) : Type 0 where
  pub running : IsRunning s i
  pub kind : k ≢ Zero
  pub above : (node_at running.frame.nodes (length running.frame.nodes - 1)).number <ℤ n

-- iteration i runs, and may end; with Closed only in instance 0
pub record MayFinish (s : State) (i : ℕ) (e : ColumnEnd) : Type 0 where
  pub running : IsRunning s i
  pub first : e ≡ ends.Closed → length running.frame.nodes ≡ 1

-- the control part allows the event, whatever the traces are
abbrev pub ControlAllows : ℕ → State → Event → Type 0
ControlAllows limit s (Begin i) = MayBegin limit s i
ControlAllows limit s (Access i a) = IsRunning s i
ControlAllows limit s (Advance i k n) = MayAdvance s i k n
ControlAllows limit s (Enter i) = MayEnter s i
ControlAllows limit s (Finish i e) = MayFinish s i e
ControlAllows limit s Stop = Unit {0}

-- the program of iteration i can perform this action next
abbrev pub OffersAt : Pipeline → State → ℕ → Action → Type 0
OffersAt p s i item = Offers (behaviour_after_all (p.behaviour i) (trace_in (frame_at s.frames i))) item

-- the program part allows the event: its action may be the next, and a read has the value of its cell
abbrev pub ProgramAllows : Pipeline → State → Event → Type 0
ProgramAllows p s (Begin i) = Unit {0}
ProgramAllows p s (Access i a) = OffersAt p s i (Accessed a) × HasReply p.store (p.preamble ++ accesses_of s.accesses) a
ProgramAllows p s (Advance i k n) = OffersAt p s i (Staged k n)
ProgramAllows p s (Enter i) = Unit {0}
ProgramAllows p s (Finish i e) = OffersAt p s i (Ended e)
ProgramAllows p s Stop = Unit {0}

-- the event is allowed: the run was not stopped, and both parts allow it
pub record Allowed (p : Pipeline) (limit : ℕ) (s : State) (e : Event) : Type 0 where
  pub going : s.stopped ≡ false
  pub control : ControlAllows limit s e
  pub program : ProgramAllows p s e
