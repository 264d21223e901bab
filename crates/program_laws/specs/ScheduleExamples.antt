-- Worked examples of schedules, which the checker computes.
use Rattle.std.specs.Prelude.{◌≡◌, pos, List, [], ◌∷◌, ◌++◌}
use Rattle.pipe_model.specs.declared.column.ColumnEnd.TheVariants.{Closed, End}
use Rattle.pipe_model.specs.declared.event.Event.{Event}
use Rattle.pipe_model.specs.declared.event.Event.TheVariants as events
use Rattle.pipe_model.specs.declared.node.Kind.TheVariants as kinds
use Rattle.pipe_model.specs.declared.tree.StageKind.TheVariants as stage_kinds
use Rattle.pipe_model.specs.Pipelines.Behaviour.{read_access, write_access}
use Rattle.pipe_model.specs.Language.ProgramsOfTrees.{pipeline_after_init}
use Rattle.pipe_model.specs.Runs.Schedules.{played}
use Rattle.pipe_model.specs.Language.SyntaxTree.{Name, Assign, Emit, Stage, Empty, Then, SyntaxTree}
use Rattle.program_laws.specs.ExampleParts.{n, less, plain_cell}
use Rattle.program_laws.specs.ExampleParts.{limits_of, number}

-- limits iterations 1, stages 2, steps 50, emits 1; cell n = 0; pipe_while (n < 1) { n = 1; pipe_wait(1); emit n; }
abbrev pub emitting_once : SyntaxTree
emitting_once = record {
  limits = limits_of 1 2 50 1;
  cells = plain_cell n (pos 0) ∷ [];
  init = Empty;
  test = less (Name n) (number 1);
  body = Then (Assign n (number 1)) (Then (Stage stage_kinds.Wait (number 1)) (Then (Emit (Name n)) Empty));
  last = Empty;
}

-- the events of one worker that always takes the first candidate, but for the end of iteration 1
abbrev pub first_events : List Event
first_events =
    events.Begin 0
    ∷ events.Access 0 (read_access 2 (pos 0))
    ∷ events.Access 0 (write_access 2 (pos 1))
    ∷ events.Advance 0 kinds.Wait (pos 1)
    ∷ events.Enter 0
    ∷ events.Access 0 (read_access 2 (pos 1))
    ∷ events.Access 0 (read_access 1 (pos 0))
    ∷ events.Access 0 (write_access 1 (pos 1))
    ∷ events.Finish 0 End
    ∷ events.Begin 1
    ∷ events.Access 1 (read_access 2 (pos 1))
    ∷ []

-- enough turns, too few turns, and the first turns of a worker that takes the second candidate if there are two
abbrev pub SchedulesArePlayed : Type 0
SchedulesArePlayed =
    (played (pipeline_after_init emitting_once []) 2 1 [] 100 ≡ first_events ++ events.Finish 1 Closed ∷ [])
    × (played (pipeline_after_init emitting_once []) 2 1 [] 11 ≡ first_events)
    × (played (pipeline_after_init emitting_once []) 2 1 (1 ∷ []) 6
    ≡ events.Begin 0 ∷ events.Access 0 (read_access 2 (pos 0)) ∷ events.Access 0 (write_access 2 (pos 1)) ∷ events.Advance 0 kinds.Wait
    (pos 1)
    ∷ events.Begin 1 ∷ events.Access 1 (read_access 2 (pos 1)) ∷ [])
