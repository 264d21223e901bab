-- What a player keeps of its run.
use Rattle.std.specs.Prelude.{◌≡◌, ◌<◌, ◌≤◌, ◌^◌, ◌++◌, ℕ, List, length, false, Option, Some, None}
use Rattle.cell_store.specs.ShardState.{IsStateAfter, ShardState}
use Rattle.pipe_frame.specs.Replies.{accessed}
use Rattle.pipe_frame.specs.Ties.{BelongsTo}
use Rattle.pipe_model.specs.declared.event.Event.{Event}
use Rattle.pipe_model.specs.declared.status.Status.{Status}
use Rattle.pipe_model.specs.declared.status.Status.TheVariants.{Running, Pending, Completed}
use Rattle.pipe_model.specs.Language.ProgramsOfTrees.{pipeline_after_init}
use Rattle.pipe_model.specs.Language.SyntaxTree.{tree_of}
use Rattle.pipe_model.specs.Pipelines.Behaviour.{Action, behaviour_after_all}
use Rattle.pipe_model.specs.Pipelines.Pipeline.{IsWellFormed, Pipeline}
use Rattle.pipe_model.specs.Runs.ControlParts.{without_accesses}
use Rattle.pipe_model.specs.Runs.Run.{Run}
use Rattle.pipe_model.specs.Runs.RunLogs.{state_after}
use Rattle.pipe_model.specs.Runs.State.{Frame, State, accesses_of, frame_at}
use Rattle.frame_book.specs.BookStates.{BookState, events_of, item_or, left_of, pipeline_in, replies_at}
use Rattle.frame_book.specs.GivenTokens.{IsOutOf}
use Rattle.stage_code.specs.FlatCode.{FlatCode}
use Rattle.schedule_play.specs.RunningIterations.{RunningIterationState, IsRunningIteration}
use Rattle.schedule_play.specs.OneAccess.{HasAllCells}
use Rattle.schedule_play.specs.Runners.{no_tie}
use Rattle.schedule_play.specs.ScheduleStates.{IsScheduleOf, ScheduleState}
use Rattle.stage_interp.specs.CellNumbers.{most_cell_ids}

-- the book, the schedule, for each iteration its running instance if there is one, the cells, and the events so far
pub record PlayState : Type 0 where
  pub book : BookState
  pub schedule : ScheduleState
  pub running : List (Option RunningIterationState)
  pub cells : ShardState
  pub events : List Event

-- the pipeline that is played
abbrev pub pipeline_played : PlayState → Pipeline
pipeline_played v = pipeline_after_init (tree_of v.book.program) v.book.input

-- the state of the run after the events so far
abbrev pub run_state : PlayState → State
run_state v = state_after v.events

-- ---- running instances

-- the token of iteration i is out, and its instance has made the last actions of the iteration's trace
pub record IsRunningAt (code : FlatCode) (cells : ℕ) (b : BookState) (i : ℕ) (trace : List Action)
    (h : RunningIterationState) : Type 0 where
  pub iteration : h.token.iteration ≡ i
  pub out : IsOutOf b h.token
  pub instance : IsRunningIteration code cells (tree_of b.program) b.input (replies_at b i) h
  pub left : behaviour_after_all ((pipeline_in b).behaviour i) trace ≡ behaviour_after_all (left_of b i) (accessed h.trace)

-- iteration i has this status and trace, and its running instance is kept if it runs
abbrev pub FitsStatus : FlatCode → ℕ → BookState → ℕ → Status → List Action → Option RunningIterationState → Type 0
FitsStatus code cells b i Running trace None = ⊥
FitsStatus code cells b i Running trace (Some h) = IsRunningAt code cells b i trace h
FitsStatus code cells b i (Pending k n) trace kept = (kept ≡ None) × (behaviour_after_all ((pipeline_in b).behaviour i) trace ≡ left_of b i)
FitsStatus code cells b i (Completed e) trace kept = kept ≡ None

-- the running instances of all iterations are kept, and the book has traces and a token for each
pub record KeepsRunning (code : FlatCode) (cells : ℕ) (b : BookState) (fs : List Frame) (running : List (Option RunningIterationState))
    : Type 0 where
  pub count : length running ≡ length fs
  pub traces : length b.traces ≡ length fs
  pub tokens : length b.tokens ≡ length fs
  pub each : (i : ℕ) (f : Frame) → frame_at fs i ≡ Some f → FitsStatus code cells b i f.status f.trace (item_or None running i)

-- ---- all together

-- a run of the program that was not stopped is short, and the next iteration has a number
abbrev pub HasShortRuns : Pipeline → ℕ → Type 0
HasShortRuns p limit = (events : List Event) (s : State) → Run p limit events s → s.stopped ≡ false
    → (length events < 2 ^ 62) × (length s.frames < 2 ^ 32)

-- the events are a run, and what is kept of it is the run's
pub record IsPlay (code : FlatCode) (cells : ℕ) (v : PlayState) : Type 0 where
  pub proper : IsWellFormed (pipeline_played v)
  pub short : HasShortRuns (pipeline_played v) v.book.limit
  pub run : Run (pipeline_played v) v.book.limit v.events (run_state v)
  pub going : (run_state v).stopped ≡ false
  pub log : events_of v.book.log ≡ without_accesses v.events
  pub lists : BelongsTo no_tie v.book.lists
  pub schedule : IsScheduleOf (run_state v) v.schedule
  pub limit : v.schedule.limit ≡ v.book.limit
  pub running : KeepsRunning code cells v.book (run_state v).frames v.running
  pub state : IsStateAfter (pipeline_played v).store ((pipeline_played v).preamble ++ accesses_of (run_state v).accesses) v.cells
  pub all : HasAllCells v.cells
  pub count : v.cells.shard.cells ≡ cells
  pub bounded : cells ≤ most_cell_ids

-- the program, the input and the limit are the same
pub record KeepsProgram (v v' : PlayState) : Type 0 where
  pub program : v'.book.program ≡ v.book.program
  pub input : v'.book.input ≡ v.book.input
  pub limit : v'.book.limit ≡ v.book.limit
