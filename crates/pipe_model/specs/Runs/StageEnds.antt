-- The end of an instance as an event of the run and as an action of its iteration. One that was stopped has neither.
use Rattle.std.specs.Prelude.{ℕ, List, [], ◌∷◌}
use Rattle.pipe_model.specs.declared.column.ColumnEnd.TheVariants as ends
use Rattle.pipe_model.specs.declared.event.Event.{Event}
use Rattle.pipe_model.specs.declared.event.Event.TheVariants as events
use Rattle.pipe_model.specs.declared.node.Kind.TheVariants as kinds
use Rattle.pipe_model.specs.declared.stage.StageEnd.{StageEnd}
use Rattle.pipe_model.specs.declared.stage.StageEnd.TheVariants.{Wait, Continue, End, Closed, Trap, Stopped}
use Rattle.pipe_model.specs.Pipelines.Behaviour.{Action, Staged, Ended}

-- the event, if there is one, for an instance of iteration i
abbrev pub stage_end_events : ℕ → StageEnd → List Event
stage_end_events i (Wait n) = events.Advance i kinds.Wait n ∷ []
stage_end_events i (Continue n) = events.Advance i kinds.Continue n ∷ []
stage_end_events i End = events.Finish i ends.End ∷ []
stage_end_events i Closed = events.Finish i ends.Closed ∷ []
stage_end_events i (Trap t) = events.Finish i (ends.Trapped t) ∷ []
stage_end_events i Stopped = []

-- the action, if there is one
abbrev pub stage_end_actions : StageEnd → List Action
stage_end_actions (Wait n) = Staged kinds.Wait n ∷ []
stage_end_actions (Continue n) = Staged kinds.Continue n ∷ []
stage_end_actions End = Ended ends.End ∷ []
stage_end_actions Closed = Ended ends.Closed ∷ []
stage_end_actions (Trap t) = Ended (ends.Trapped t) ∷ []
stage_end_actions Stopped = []
