-- What each call of the scheduler returns in a state of the control part, and which events it makes. The cases of a call exclude
-- each other, so each result is returned exactly in its case.
use Rattle.std.specs.Prelude.{◌≡◌, ℕ, List, [], ◌∷◌, ◌++◌, ◌+◌, ◌<◌, ◌≤◌, ◌⊎◌, true, false, length, Option, Some, None}
use Rattle.pipe_model.specs.declared.event.Event.{Event}
use Rattle.pipe_model.specs.declared.event.Event.TheVariants as events
use Rattle.pipe_model.specs.declared.stage.StageEnd.{StageEnd}
use Rattle.pipe_model.specs.declared.status.Status.{Status}
use Rattle.pipe_model.specs.declared.status.Status.TheVariants.{Running, Pending, Completed}
use Rattle.pipe_model.specs.Races.Columns.{nodes_at}
use Rattle.pipe_model.specs.Runs.Allowed.{IsClosed, LastEndedFirstInstance, MayBegin, MayEnter}
use Rattle.pipe_model.specs.Runs.Run.{IsFinished}
use Rattle.pipe_model.specs.Runs.StageEnds.{stage_end_events}
use Rattle.pipe_model.specs.Runs.State.{State, Frame, frame_at, alive, own_columns}
use Rattle.pipe_frame.specs.StageEndCases.{EntersAtOnce, MustWait, EndsIteration, NamesNextStage}
use Rattle.pipe_frame.specs.declared.token.FrameToken.{FrameToken}
use Rattle.pipe_frame.specs.declared.results.Begun.{Begun}
use Rattle.pipe_frame.specs.declared.results.Begun.TheVariants as begun
use Rattle.pipe_frame.specs.declared.results.Next.{Next}
use Rattle.pipe_frame.specs.declared.results.Next.TheVariants as next
use Rattle.pipe_frame.specs.declared.results.Named.{Named}
use Rattle.pipe_frame.specs.declared.results.Named.TheVariants as named
use Rattle.pipe_frame.specs.declared.results.Rescue.{Rescue}
use Rattle.pipe_frame.specs.declared.results.Rescue.TheVariants as rescue

-- ---- `begin`

-- the first case that holds: the run was stopped; the loop is closed; instance 0 of the last iteration still runs; the throttling limit is
-- reached; the next iteration begins
abbrev pub BeginReturns : {M : Type 0} → ℕ → State → Begun M → Type 0
BeginReturns limit s begun.Stopped = s.stopped ≡ true
BeginReturns limit s begun.Closed = (s.stopped ≡ false) × IsClosed s.frames
BeginReturns limit s begun.NotYet = (s.stopped ≡ false) × (IsClosed s.frames → ⊥) × (LastEndedFirstInstance s.frames → ⊥)
BeginReturns limit s begun.Throttled = (s.stopped ≡ false) × (IsClosed s.frames → ⊥) × LastEndedFirstInstance s.frames × (limit ≤ alive s)
BeginReturns limit s (begun.Started t) = (s.stopped ≡ false) × (IsClosed s.frames → ⊥) × MayBegin limit s t.iteration × (t.index ≡ 0)

abbrev pub begin_events : {M : Type 0} → Begun M → List Event
begin_events begun.Stopped = []
begin_events begun.Closed = []
begin_events begun.NotYet = []
begin_events begun.Throttled = []
begin_events (begun.Started t) = events.Begin t.iteration ∷ []

-- ---- `advance`, for instance k of iteration i and its end

abbrev pub AdvanceReturns : {M : Type 0} → State → ℕ → ℕ → StageEnd → Next M → Type 0
AdvanceReturns s i k end next.Stopped = s.stopped ≡ true
AdvanceReturns s i k end next.Ended = (s.stopped ≡ false) × EndsIteration end
AdvanceReturns s i k end next.Suspended = (s.stopped ≡ false) × MustWait s i end
AdvanceReturns s i k end (next.Go t) = (s.stopped ≡ false) × EntersAtOnce s i end × (t.iteration ≡ i) × (t.index ≡ k + 1)

abbrev pub advance_events : {M : Type 0} → ℕ → StageEnd → Next M → List Event
advance_events i end next.Stopped = []
advance_events i end next.Ended = stage_end_events i end
advance_events i end next.Suspended = stage_end_events i end
advance_events i end (next.Go t) = stage_end_events i end ++ events.Enter i ∷ []

-- ---- `name_next`: the first half of `advance`

abbrev pub NameReturns : State → StageEnd → Named → Type 0
NameReturns s end named.Stopped = s.stopped ≡ true
NameReturns s end named.Ended = (s.stopped ≡ false) × EndsIteration end
NameReturns s end named.Waits = (s.stopped ≡ false) × NamesNextStage end

-- ---- `enter` of iteration i, which is `check_right` of the iteration to its left

-- nothing of iteration i can start: the run was stopped, or the iteration has named no stage that it may enter
abbrev pub StartsNothing : State → ℕ → Type 0
StartsNothing s i = (s.stopped ≡ true) ⊎ (MayEnter s i → ⊥)

abbrev pub EnterReturns : {M : Type 0} → State → ℕ → Option (FrameToken M) → Type 0
EnterReturns s i None = StartsNothing s i
EnterReturns s i (Some t) = (s.stopped ≡ false) × MayEnter s i × (t.iteration ≡ i) × (t.index ≡ length (nodes_at (own_columns s) i))

abbrev pub enter_events : {M : Type 0} → Option (FrameToken M) → List Event
enter_events None = []
enter_events (Some t) = events.Enter t.iteration ∷ []

-- ---- `rescue`, if the instances of the iterations with `ready` were left ready

-- the iteration was left ready, or may enter the stage that it has named
abbrev pub CanGoOn : (ℕ → Type 0) → State → ℕ → Type 0
CanGoOn ready s i = ready i ⊎ MayEnter s i

-- it is the least such iteration
pub record IsFirstToGoOn (ready : ℕ → Type 0) (s : State) (i : ℕ) : Type 0 where
  pub can : CanGoOn ready s i
  pub first : (j : ℕ) → j < i → CanGoOn ready s j → ⊥

-- stopped, or else finished, or else the first iteration that can go on, or else one may begin, or else nothing
abbrev pub RescueReturns : {M : Type 0} → ℕ → State → (ℕ → Type 0) → Rescue M → Type 0
RescueReturns limit s ready rescue.Stopped = s.stopped ≡ true
RescueReturns limit s ready rescue.Finished = IsFinished s
RescueReturns limit s ready (rescue.Token t) = (s.stopped ≡ false) × IsFirstToGoOn ready s t.iteration
RescueReturns limit s ready rescue.MayBegin = (s.stopped ≡ false) × ((i : ℕ) → CanGoOn ready s i → ⊥)
    × MayBegin limit s (length s.frames) × (IsFinished s → ⊥)
RescueReturns limit s ready rescue.Nothing = (s.stopped ≡ false) × ((i : ℕ) → CanGoOn ready s i → ⊥)
    × (MayBegin limit s (length s.frames) → ⊥) × (IsFinished s → ⊥)

-- an iteration that has named a stage enters it
abbrev pub pending_events : Status → ℕ → List Event
pending_events Running i = []
pending_events (Pending k n) i = events.Enter i ∷ []
pending_events (Completed e) i = []

-- the same for the frame of iteration i
abbrev pub resume_events : Option Frame → ℕ → List Event
resume_events None i = []
resume_events (Some f) i = pending_events f.status i

abbrev pub rescue_events : {M : Type 0} → State → Rescue M → List Event
rescue_events s rescue.Stopped = []
rescue_events s rescue.Finished = []
rescue_events s (rescue.Token t) = resume_events (frame_at s.frames t.iteration) t.iteration
rescue_events s rescue.MayBegin = []
rescue_events s rescue.Nothing = []
