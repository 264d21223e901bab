-- The serial elision of a pipeline (Lee et al. 2013): the program without its parallel control, one iteration after
-- the other, each to its end. Its traces come first; they define its columns, accesses, ends and events.
use Rattle.std.specs.Prelude.{ℕ, zero, suc, List, [], ◌∷◌, ◌++◌, Bool, true, false, ◌+◌, map, Option}
use Rattle.pipe_model.specs.declared.access.Access.{Access}
use Rattle.pipe_model.specs.declared.access.NodeAccess.{NodeAccess}
use Rattle.pipe_model.specs.declared.column.ColumnEnd.{ColumnEnd}
use Rattle.pipe_model.specs.declared.event.Event.{Event}
use Rattle.pipe_model.specs.declared.node.Node.{Node}
use Rattle.pipe_model.specs.declared.event.Event.TheVariants as events
use Rattle.pipe_model.specs.Races.Columns.{at}
use Rattle.pipe_model.specs.Pipelines.Behaviour.{Behaviour, Reading, Writing, Staging, Ending, Action, Accessed, Staged, Ended, read_access}
use Rattle.pipe_model.specs.Pipelines.Behaviour.{write_access, accesses_in, column_of, closes_loop, trace_end}
use Rattle.pipe_model.specs.Pipelines.Pipeline.{Pipeline}
use Rattle.pipe_model.specs.Pipelines.Store.{InitialStore, value_after}

-- the trace of an iteration to its end; each read returns what the accesses before it leave in the cell
abbrev pub serial_trace : InitialStore → Behaviour → List Access → List Action
serial_trace store (Reading c go) before =
    Accessed (read_access c (value_after store before c)) ∷ serial_trace store (go (value_after store before c))
    (before ++ read_access c (value_after store before c) ∷ [])
serial_trace store (Writing c v d) before = Accessed (write_access c v) ∷ serial_trace store d (before ++ write_access c v ∷ [])
serial_trace store (Staging k n d) before = Staged k n ∷ serial_trace store d before
serial_trace store (Ending e) before = Ended e ∷ []

-- the list, or the empty list if the condition is true
abbrev pub unless : {A : Type 0} → Bool → List A → List A
unless true xs = []
unless false xs = xs

-- the traces of at most n iterations from iteration i on, up to the one that closes the loop
abbrev pub serial_traces_from : Pipeline → ℕ → ℕ → List Access → List (List Action)
serial_traces_from p zero i before = []
serial_traces_from p (suc n) i before =
    serial_trace p.store (p.behaviour i) before ∷ unless (closes_loop (serial_trace p.store (p.behaviour i) before))
    (serial_traces_from p n (i + 1) (before ++ accesses_in (serial_trace p.store (p.behaviour i) before)))

-- the traces of the serial elision, iteration after iteration
abbrev pub serial_traces : Pipeline → List (List Action)
serial_traces p = serial_traces_from p (p.last_iteration + 1) 0 p.preamble

-- the accesses of a trace with the instances that make them, from instance k of column i on
abbrev pub located : ℕ → ℕ → List Action → List NodeAccess
located i k [] = []
located i k (Accessed a ∷ is) = record { node = at i k; access = a } ∷ located i k is
located i k (Staged kind n ∷ is) = located i (k + 1) is
located i k (Ended e ∷ is) = located i k is

-- the accesses of the traces from iteration i on, with their instances
abbrev pub located_from : ℕ → List (List Action) → List NodeAccess
located_from i [] = []
located_from i (is ∷ more) = located i 0 is ++ located_from (i + 1) more

abbrev pub serial_columns : Pipeline → List (List Node)
serial_columns p = map column_of (serial_traces p)

-- the accesses of the serial elision, with their instances
abbrev pub serial_accesses : Pipeline → List NodeAccess
serial_accesses p = located_from 0 (serial_traces p)

-- the ends of the iterations of the serial elision
abbrev pub serial_ends : Pipeline → List (Option ColumnEnd)
serial_ends p = map trace_end (serial_traces p)

-- the events of a trace of iteration i; a stage is entered as soon as it is named
abbrev pub trace_events : ℕ → List Action → List Event
trace_events i [] = []
trace_events i (Accessed a ∷ is) = events.Access i a ∷ trace_events i is
trace_events i (Staged k n ∷ is) = events.Advance i k n ∷ (events.Enter i ∷ trace_events i is)
trace_events i (Ended e ∷ is) = events.Finish i e ∷ trace_events i is

-- the events of the traces from iteration i on, one iteration after the other
abbrev pub trace_events_from : ℕ → List (List Action) → List Event
trace_events_from i [] = []
trace_events_from i (is ∷ more) = events.Begin i ∷ (trace_events i is ++ trace_events_from (i + 1) more)

-- the serial elision as a list of events
abbrev pub serial_events : Pipeline → List Event
serial_events p = trace_events_from 0 (serial_traces p)
