-- What is kept of the iterations that have not ended, and the turns that a choice chooses between.
use Rattle.std.specs.Prelude.{ℕ, List, [], ◌∷◌, ◌++◌, Bool, true, false, ◌&&◌, ◌+◌, ◌-◌, ◌%◌, if◌then◌else◌, filter, length, map}
use Rattle.std.specs.Prelude.{slice_index_or, Option, Some, None}
use Rattle.pipe_model.specs.declared.event.Event.{Event}
use Rattle.pipe_model.specs.declared.node.Node.{Node}
use Rattle.pipe_model.specs.declared.status.Status.{Status}
use Rattle.pipe_model.specs.declared.status.Status.TheVariants as statuses
use Rattle.pipe_model.specs.Pipelines.Pipeline.{Pipeline}
use Rattle.pipe_model.specs.Races.Columns.{node_at}
use Rattle.pipe_model.specs.Runs.NextEvents.{may_enter, next_begin, next_event}
use Rattle.pipe_model.specs.Runs.State.{Frame, State}
use Rattle.schedule_play.specs.declared.turns.Alive.{Alive}
use Rattle.schedule_play.specs.declared.turns.Readiness.{Readiness}
use Rattle.schedule_play.specs.declared.turns.Readiness.TheVariants.{Running, MayEnter, MustWait}
use Rattle.schedule_play.specs.declared.turns.Turn.{Turn}
use Rattle.schedule_play.specs.declared.turns.Turn.TheVariants.{Next, Begin}

-- ---- what is kept

-- iteration i, unless it has ended; its number is the number of the stage that it has named last
abbrev pub alive_entry : List Frame → ℕ → Status → List Node → List Alive
alive_entry all i statuses.Running nodes = record {
  iteration = i;
  number = (node_at nodes (length nodes - 1)).number;
  readiness =
      Running;
} ∷ []
alive_entry all i (statuses.Pending k n) nodes =
    record { iteration = i; number = n; readiness = if may_enter all i k n then MayEnter else MustWait } ∷ []
alive_entry all i (statuses.Completed e) nodes = []

-- the iterations of this list that have not ended; the first of the list has number i
abbrev pub alive_from : List Frame → ℕ → List Frame → List Alive
alive_from all i [] = []
alive_from all i (f ∷ fs) = alive_entry all i f.status f.nodes ++ alive_from all (i + 1) fs

-- the iterations that have not ended, by rising number
abbrev pub alive_iterations : State → List Alive
alive_iterations s = alive_from s.frames 0 s.frames

-- ---- turns

abbrev pub is_running : Readiness → Bool
is_running Running = true
is_running MayEnter = false
is_running MustWait = false

-- the iteration has named a stage that it may enter
abbrev pub is_ready : Readiness → Bool
is_ready Running = false
is_ready MayEnter = true
is_ready MustWait = false

-- the next event of the iteration is a candidate; `room` says whether an instance may start
abbrev pub may_go : Bool → Readiness → Bool
may_go room Running = true
may_go room MayEnter = room
may_go room MustWait = false

-- the turns of the iterations
abbrev pub iteration_turns : Bool → List Alive → List Turn
iteration_turns room alive = map (λ (a : Alive). Next a.iteration) (filter (λ (a : Alive). may_go room a.readiness) alive)

-- all turns, the beginning of the next iteration last
abbrev pub turns : Bool → Bool → List Alive → List Turn
turns room begins alive = iteration_turns room alive ++ (if room && begins then Begin ∷ [] else [])

-- the turn whose index is the choice modulo the number of turns
abbrev pub chosen_turn : ℕ → List Turn → Option Turn
chosen_turn choice [] = None
chosen_turn choice (t ∷ ts) = Some (slice_index_or (t ∷ ts) (choice % length (t ∷ ts)) t)

-- the event of a turn
abbrev pub turn_event : Pipeline → ℕ → State → Turn → Option Event
turn_event p limit s (Next i) = next_event p s i
turn_event p limit s Begin = next_begin limit s
