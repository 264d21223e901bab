-- Bounds on the work of a program: accesses of an instance, instances and events of a run, turns of a schedule.
use Rattle.std.specs.Prelude.{◌≡◌, ◌<◌, ◌≤◌, ℕ, ℤ, List, ◌+◌, ◌*◌, ◌-◌, false, length}
use Rattle.pipe_model.specs.declared.event.Event.{Event}
use Rattle.pipe_model.specs.Pipelines.Pipeline.{HasBoundedWork}
use Rattle.pipe_model.specs.Language.Programs.{natural, pipeline_of}
use Rattle.pipe_model.specs.Language.ProgramsOfTrees.{pipeline_after_init}
use Rattle.pipe_model.specs.Runs.Run.{Run, IsFinished}
use Rattle.pipe_model.specs.Language.CheckingRules.{BreaksNoRule}
use Rattle.pipe_model.specs.Runs.RunLogs.{state_after}
use Rattle.pipe_model.specs.Runs.Schedules.{played}
use Rattle.pipe_model.specs.Runs.State.{State, own_columns}
use Rattle.pipe_model.specs.Language.SyntaxTree.{SyntaxTree}
use Rattle.schedule_laws.specs.StartCounts.{instances_in, most_instances}

-- each instance makes at most two accesses a step, and at most `stages - 1` instances follow instance 0
abbrev pub ProgramsHaveBoundedWork : Type 0
ProgramsHaveBoundedWork =
    (tree : SyntaxTree) (input : List ℤ) (i : ℕ)
    → HasBoundedWork (2 * natural tree.limits.steps) (2 * natural tree.limits.steps) (natural tree.limits.stages - 1)
    ((pipeline_of tree input).behaviour i)

-- a run that was not stopped has at most two events a step and two more for each instance
abbrev pub ProgramRunsAreBounded : Type 0
ProgramRunsAreBounded =
    (tree : SyntaxTree) (input : List ℤ) (limit : ℕ) (events : List Event) (s : State) → BreaksNoRule tree
    → Run (pipeline_after_init tree input) limit events s → s.stopped ≡ false
    → (length events ≤ most_instances tree * (2 * natural tree.limits.steps + 2))
    × (length s.frames ≤ natural tree.limits.iterations + 1)

-- the bound holds of every run, stopped or not
abbrev pub ProgramInstancesAreBounded : Type 0
ProgramInstancesAreBounded =
    (tree : SyntaxTree) (input : List ℤ) (limit : ℕ) (events : List Event) (s : State) → BreaksNoRule tree
    → Run (pipeline_after_init tree input) limit events s
    → instances_in (own_columns s) ≤ most_instances tree

-- a schedule of an accepted program finishes within this number of turns
abbrev pub SchedulesFinish : Type 0
SchedulesFinish =
    (tree : SyntaxTree) (input : List ℤ) (limit workers : ℕ) (choices : List ℕ) (turns : ℕ) → BreaksNoRule tree
    → 0 < limit → 0 < workers → most_instances tree * (2 * natural tree.limits.steps + 2) ≤ turns
    → IsFinished (state_after (played (pipeline_after_init tree input) limit workers choices turns))
