-- How an iteration goes on after an instance, by the end of the instance.
use Rattle.std.specs.Prelude.{◌≡◌, ◌≢◌}
use Rattle.pipe_model.specs.declared.column.ColumnEnd.{ColumnEnd}
use Rattle.pipe_model.specs.declared.column.ColumnEnd.TheVariants as ends
use Rattle.pipe_model.specs.declared.node.Kind.TheVariants.{Zero}
use Rattle.pipe_model.specs.declared.stage.StageEnd.{StageEnd}
use Rattle.pipe_model.specs.declared.stage.StageEnd.TheVariants as stage_ends
use Rattle.frame_rows.specs.NamedStages.{stage_end}
use Rattle.frame_rows.specs.declared.course.Course.{Course}
use Rattle.frame_rows.specs.declared.course.Course.TheVariants.{Stage, Over}

-- the end of the last instance of an iteration that ended so
abbrev pub last_end : ColumnEnd → StageEnd
last_end ends.End = stage_ends.End
last_end ends.Closed = stage_ends.Closed
last_end (ends.Trapped t) = stage_ends.Trap t

-- the iteration goes on like this after an instance with this end
abbrev pub IsCourseAfter : StageEnd → Course → Type 0
IsCourseAfter end (Stage k n) = (end ≡ stage_end k n) × (k ≢ Zero)
IsCourseAfter end (Over e) = end ≡ last_end e
