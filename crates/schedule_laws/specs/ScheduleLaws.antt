-- Laws of next events, candidates and schedules.
use Rattle.std.specs.Prelude.{◌≡◌, ◌≢◌, ◌↔◌, ◌⊎◌, ◌<◌, ◌≤◌, ℕ, List, [], ◌++◌, false, length, Some}
use Rattle.pipe_model.specs.declared.event.Event.{Event}
use Rattle.pipe_model.specs.declared.event.Event.TheVariants.{Stop}
use Rattle.pipe_model.specs.Runs.Allowed.{Allowed}
use Rattle.pipe_model.specs.Pipelines.Pipeline.{Pipeline, IsWellFormed}
use Rattle.pipe_model.specs.Races.DeterminacyRaces.{Among}
use Rattle.pipe_model.specs.Runs.Run.{Run, IsFinished, state_from}
use Rattle.pipe_model.specs.Runs.State.{State, initial_state}
use Rattle.pipe_model.specs.Runs.RunLogs.{state_after}
use Rattle.pipe_model.specs.Runs.NextEvents.{next_event, next_begin}
use Rattle.pipe_model.specs.Runs.Schedules.{candidates, played, running_instances, PlayedRun}

-- the event is the next event of an iteration, or the beginning of the next iteration
abbrev pub IsNext : Pipeline → ℕ → State → Event → Type 0
IsNext p limit s e = ((i : ℕ) × (next_event p s i ≡ Some e)) ⊎ (next_begin limit s ≡ Some e)

-- in a run that was not stopped, an event other than a stop is allowed exactly if it is next
abbrev pub AllowedEventsAreNext : Type 0
AllowedEventsAreNext =
    (p : Pipeline) (limit : ℕ) (events : List Event) (s : State) (e : Event) → Run p limit events s
    → IsWellFormed p → s.stopped ≡ false → e ≢ Stop
    → Allowed p limit s e ↔ IsNext p limit s e

abbrev pub CandidatesAreAllowed : Type 0
CandidatesAreAllowed =
    (p : Pipeline) (limit workers : ℕ) (events : List Event) (s : State) (e : Event) → Run p limit events s
    → IsWellFormed p → s.stopped ≡ false → Among e (candidates p limit workers s)
    → Allowed p limit s e × (e ≢ Stop)

abbrev pub RunsHaveCandidates : Type 0
RunsHaveCandidates =
    (p : Pipeline) (limit workers : ℕ) (events : List Event) (s : State) → Run p limit events s
    → IsWellFormed p → 0 < limit → 0 < workers → s.stopped ≡ false
    → IsFinished s ⊎ (0 < length (candidates p limit workers s))

-- a run that was not stopped, in which at most `workers` instances run after each event
pub record IsPlayed (p : Pipeline) (limit workers : ℕ) (events : List Event) (s : State) : Type 0 where
  pub run : Run p limit events s
  pub not_stopped : s.stopped ≡ false
  pub at_most_workers : (before after : List Event) → events ≡ before ++ after → running_instances
      (state_from initial_state before) ≤ workers

abbrev pub PlayedRunsAreRuns : Type 0
PlayedRunsAreRuns =
    (p : Pipeline) (limit workers : ℕ) (events : List Event) (s : State) → PlayedRun p limit workers events s
    → IsWellFormed p → IsPlayed p limit workers events s

abbrev pub FinishedRunsHaveNoCandidate : Type 0
FinishedRunsHaveNoCandidate =
    (p : Pipeline) (limit workers : ℕ) (events : List Event) (s : State) → Run p limit events s
    → IsWellFormed p → 0 < limit → 0 < workers → s.stopped ≡ false
    → IsFinished s ↔ (candidates p limit workers s ≡ [])

-- the events of a schedule are candidates, one by one, and the run is finished if turns are left
pub record IsSchedule (p : Pipeline) (limit workers : ℕ) (choices : List ℕ) (turns : ℕ) : Type 0 where
  pub run : PlayedRun p limit workers (played p limit workers choices turns) (state_after (played p limit workers choices turns))
  pub within : length (played p limit workers choices turns) ≤ turns
  pub ended : length (played p limit workers choices turns) < turns → IsFinished (state_after (played p limit workers choices turns))

abbrev pub SchedulesPlayRuns : Type 0
SchedulesPlayRuns =
    (p : Pipeline) (limit workers : ℕ) (choices : List ℕ) (turns : ℕ) → IsWellFormed p → 0 < limit → 0 < workers
    → IsSchedule p limit workers choices turns
