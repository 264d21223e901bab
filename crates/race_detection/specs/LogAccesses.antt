-- The accesses of a run log with the instances that make them, by how many instances each iteration has started.
use Rattle.std.specs.Prelude.{ℕ, List, [], ◌∷◌, ◌++◌, ◌-◌, slice_index}
use Rattle.order_2d.specs.LogStarts.{counts_after}
use Rattle.pipe_model.specs.declared.access.NodeAccess.{NodeAccess}
use Rattle.pipe_model.specs.declared.event.Event.{Event}
use Rattle.pipe_model.specs.declared.event.Event.TheVariants.{Begin, Advance, Enter, Finish, Stop, Access}
use Rattle.pipe_model.specs.Races.Columns.{at}

-- the access of an event, if it is one; the last instance of its iteration makes it
abbrev pub access_by : List ℕ → Event → List NodeAccess
access_by counts (Begin i) = []
access_by counts (Enter i) = []
access_by counts (Access i a) = record { node = at i (slice_index counts i - 1); access = a } ∷ []
access_by counts (Advance i k n) = []
access_by counts (Finish i e) = []
access_by counts Stop = []

-- the accesses of events, before which each iteration has this many instances
abbrev pub accesses_from : List ℕ → List Event → List NodeAccess
accesses_from counts [] = []
accesses_from counts (e ∷ es) = access_by counts e ++ accesses_from (counts_after counts e) es

-- the accesses of a log
abbrev pub log_accesses : List Event → List NodeAccess
log_accesses events = accesses_from [] events
