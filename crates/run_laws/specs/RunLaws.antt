-- Laws of runs: what every run keeps, that it goes on, and that its length is bounded.
use Rattle.std.specs.Prelude.{List, ℕ, suc, length, ◌≡◌, ◌+◌, ◌≤◌, ◌<◌, false, ◌≢◌, ◌⊎◌, zero, ◌*◌, ◌↔◌}
use Rattle.pipe_model.specs.Runs.Allowed.{Allowed, IsClosed, LastEndedFirstInstance, MayBegin}
use Rattle.pipe_model.specs.Races.Columns.{IsRising, nodes_at}
use Rattle.pipe_model.specs.Pipelines.Pipeline.{Pipeline, IsWellFormed, AlwaysClosesLoop, HasBoundedWork}
use Rattle.pipe_model.specs.Races.DeterminacyRaces.{Among}
use Rattle.pipe_model.specs.Runs.Run.{Run, IsFinished, AllowedFrom, state_from}
use Rattle.pipe_model.specs.Runs.State.{State, own_columns, alive, initial_state}
use Rattle.pipe_model.specs.Runs.Throttling.{begun_count, ended_count, IsThrottled}
use Rattle.pipe_model.specs.declared.access.NodeAccess.{NodeAccess}
use Rattle.pipe_model.specs.declared.event.Event.{Event}
use Rattle.pipe_model.specs.declared.event.Event.TheVariants.{Stop}
use Rattle.run_laws.specs.EachRun.{OfEachRun}

-- what every run keeps: iterations that have begun are alive or have ended; after each event at most `limit` are alive; the
-- stage numbers of an iteration rise; and each access is made by an instance of the run
pub record KeepsRules (limit : ℕ) (events : List Event) (s : State) : Type 0 where
  pub columns : begun_count events ≡ length (own_columns s)
  pub counted : begun_count events ≡ ended_count events + alive s
  pub throttled : IsThrottled limit events
  pub rising : (i : ℕ) → IsRising (nodes_at (own_columns s) i)
  pub inside : (x : NodeAccess) → Among x s.accesses
      → x.node.index < length (nodes_at (own_columns s) x.node.iteration)

-- every run keeps the rules
abbrev pub RunsKeepRules : Type 0
RunsKeepRules =
    (p : Pipeline) (limit : ℕ) (events : List Event) (s : State) → Run p limit events s
    → KeepsRules limit events s

-- a run can also be defined from its first event, and its state is the one after its events
abbrev pub RunsFromTheFront : Type 0
RunsFromTheFront =
    (p : Pipeline) (limit : ℕ) (events : List Event) (s : State)
    → Run p limit events s ↔ (AllowedFrom p limit initial_state events × (s ≡ state_from initial_state events))

-- a run that is neither finished nor stopped goes on, with an event other than a stop
abbrev pub RunsNeverStick : Type 0
RunsNeverStick =
    (p : Pipeline) (limit : ℕ) (events : List Event) (s : State) → Run p limit events s
    → IsWellFormed p → 0 < limit → s.stopped ≡ false
    → IsFinished s ⊎ ((e : Event) × (e ≢ Stop) × Allowed p limit s e)

-- the next iteration may begin exactly when fewer than the limit are alive, the loop is not closed, and the iteration
-- that began last has ended its instance 0
abbrev pub IterationsBeginInTurn : Type 0
IterationsBeginInTurn = OfEachRun (λ limit events s.
    MayBegin limit s (length s.frames)
    ↔ ((alive s < limit) × (IsClosed s.frames → ⊥) × LastEndedFirstInstance s.frames))

-- a state is finished exactly when it was not stopped, the loop is closed, and no iteration is alive
abbrev pub FinishedStatesAreClosed : Type 0
FinishedStatesAreClosed =
    (s : State) → IsFinished s ↔ ((s.stopped ≡ false) × IsClosed s.frames × (alive s ≡ 0))

-- the sum of a function below a number
abbrev pub sum_below : (ℕ → ℕ) → ℕ → ℕ
sum_below f zero = 0
sum_below f (suc n) = sum_below f n + f n

-- if iteration i makes at most `more i` further instances of at most `each` accesses each, a run that was not stopped
-- has at most this many events, and no iteration after the one that always closes the loop
abbrev pub RunsAreBounded : Type 0
RunsAreBounded =
    (p : Pipeline) (limit each : ℕ) (more : ℕ → ℕ) (events : List Event) (s : State) → Run p limit events s
    → AlwaysClosesLoop (p.behaviour p.last_iteration)
    → ((i : ℕ) → HasBoundedWork each each (more i) (p.behaviour i))
    → s.stopped ≡ false
    → (length events ≤ sum_below (λ i. (more i + 1) * (each + 2)) (length s.frames))
    × (length s.frames ≤ p.last_iteration + 1)
