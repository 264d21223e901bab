-- Schedules: the candidates from which `workers` workers choose the next event, and the events that given choices make.
use Rattle.std.specs.Prelude.{ℕ, zero, suc, List, [], ◌∷◌, ◌++◌, Bool, true, false, not, ◌||◌, if◌then◌else◌, ◌+◌, length, nat_lt}
use Rattle.std.specs.Prelude.{slice_index_or, ◌%◌, Option, Some, None}
use Rattle.pipe_model.specs.declared.event.Event.{Event}
use Rattle.pipe_model.specs.declared.event.Event.TheVariants.{Begin, Advance, Enter, Finish, Stop, Access}
use Rattle.pipe_model.specs.Runs.NextEvents.{event_of_status, next_begin}
use Rattle.pipe_model.specs.Pipelines.Pipeline.{Pipeline}
use Rattle.pipe_model.specs.Races.DeterminacyRaces.{Among}
use Rattle.pipe_model.specs.Runs.State.{Frame, State, initial_state, next_state}
use Rattle.pipe_model.specs.declared.status.Status.{Status}
use Rattle.pipe_model.specs.declared.status.Status.TheVariants.{Running, Pending, Completed}

-- ---- candidates

-- the number of running instances of an iteration: 0 or 1
abbrev pub running_of_status : Status → ℕ
running_of_status Running = 1
running_of_status (Pending k n) = 0
running_of_status (Completed e) = 0

abbrev pub running_in_frames : List Frame → ℕ
running_in_frames [] = 0
running_in_frames (f ∷ fs) = running_of_status f.status + running_in_frames fs

-- the number of running instances
abbrev pub running_instances : State → ℕ
running_instances s = running_in_frames s.frames

abbrev pub starts_instance : Event → Bool
starts_instance (Begin i) = true
starts_instance (Access i a) = false
starts_instance (Advance i k n) = false
starts_instance (Enter i) = true
starts_instance (Finish i e) = false
starts_instance Stop = false

-- the event, if there is one; an event that starts an instance is left out if there is no room
abbrev pub if_room : Bool → Option Event → List Event
if_room room None = []
if_room room (Some e) = if room || not (starts_instance e) then e ∷ [] else []

-- the next events of these iterations; the first iteration has number i
abbrev pub candidates_from : Pipeline → State → Bool → ℕ → List Frame → List Event
candidates_from p s room i [] = []
candidates_from p s room i (f ∷ fs) = if_room room (event_of_status p s i f.status f.trace) ++ candidates_from p s room (i + 1) fs

-- the candidates under the throttling limit `limit`: the next event of each iteration by rising number, then the beginning of the next
-- iteration; an instance may start only while fewer than `workers` run
abbrev pub candidates : Pipeline → ℕ → ℕ → State → List Event
candidates p limit workers s =
    candidates_from p s (nat_lt (running_instances s) workers) 0 s.frames ++ if_room (nat_lt (running_instances s) workers)
    (next_begin limit s)

-- each event is a candidate in the state before it
pub data PlayedRun (p : Pipeline) (limit workers : ℕ) : List Event → State → Type 0 where
  NoTurn : PlayedRun p limit workers [] initial_state
  OneTurn : {events : List Event} {s : State} → PlayedRun p limit workers events s → (e : Event) → Among e (candidates p limit workers s)
      → PlayedRun p limit workers (events ++ e ∷ []) (next_state s e)

-- ---- choices

-- choice j; after the last choice the first is used again, and with an empty list each choice is 0
abbrev pub choice_at : List ℕ → ℕ → ℕ
choice_at [] j = 0
choice_at (c ∷ cs) j = slice_index_or (c ∷ cs) (j % length (c ∷ cs)) 0

-- the candidate whose index is the choice modulo the number of candidates
abbrev pub chosen : ℕ → List Event → Option Event
chosen choice [] = None
chosen choice (e ∷ es) = Some (slice_index_or (e ∷ es) (choice % length (e ∷ es)) e)

abbrev pub after_choice : Option Event → (Event → List Event) → List Event
after_choice None go = []
after_choice (Some e) go = e ∷ go e

-- at most `turns` events from a state on, the first by choice j
abbrev pub played_from : Pipeline → ℕ → ℕ → List ℕ → ℕ → ℕ → State → List Event
played_from p limit workers choices zero j s = []
played_from p limit workers choices (suc turns) j s =
    after_choice (chosen (choice_at choices j) (candidates p limit workers s))
    (λ e. played_from p limit workers choices turns (j + 1) (next_state s e))

-- at most `turns` events of the schedule with these choices; fewer if there is no candidate
abbrev pub played : Pipeline → ℕ → ℕ → List ℕ → ℕ → List Event
played p limit workers choices turns = played_from p limit workers choices turns 0 initial_state
