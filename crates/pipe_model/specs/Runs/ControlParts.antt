-- The control part of a log: its events without the accesses, and the state after them. It is defined for every log, also for one whose
-- accesses are not allowed.
use Rattle.std.specs.Prelude.{◌≡◌, List, [], ◌∷◌, map, if◌then◌else◌}
use Rattle.pipe_model.specs.declared.event.Event.{Event}
use Rattle.pipe_model.specs.Runs.ControlRun.{is_access}
use Rattle.pipe_model.specs.Runs.State.{Frame, State, initial_state, next_state}

-- the instances and the status of a frame, without its trace
abbrev pub outline_of : Frame → Frame
outline_of f = record f { trace = [] }

abbrev pub outlines_of : List Frame → List Frame
outlines_of fs = map outline_of fs

-- the states differ at most in their traces and accesses
pub record HaveSameControl (s t : State) : Type 0 where
  pub frames : outlines_of s.frames ≡ outlines_of t.frames
  pub stopped : s.stopped ≡ t.stopped

abbrev pub without_accesses : List Event → List Event
without_accesses [] = []
without_accesses (e ∷ es) = if is_access e then without_accesses es else e ∷ without_accesses es

-- the control part after one more event; an access does not change it
abbrev pub next_control : State → Event → State
next_control c e = if is_access e then c else next_state c e

-- the control part after more events, accesses among them
abbrev pub control_from : State → List Event → State
control_from c [] = c
control_from c (e ∷ es) = control_from (next_control c e) es

-- the control part after all events of a log
abbrev pub control_after : List Event → State
control_after events = control_from initial_state events
