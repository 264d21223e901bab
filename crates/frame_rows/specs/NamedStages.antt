-- Ends of instances that name a stage.
use Rattle.std.specs.Prelude.{ℤ}
use Rattle.pipe_model.specs.declared.node.Kind.{Kind}
use Rattle.pipe_model.specs.declared.node.Kind.TheVariants as kinds
use Rattle.pipe_model.specs.declared.stage.StageEnd.{StageEnd}
use Rattle.pipe_model.specs.declared.stage.StageEnd.TheVariants as stage_ends

-- the end of an instance whose iteration goes on at a stage of this kind and number
abbrev pub stage_end : Kind → ℤ → StageEnd
stage_end kinds.Wait n = stage_ends.Wait n
stage_end kinds.Continue n = stage_ends.Continue n
stage_end kinds.Zero n = stage_ends.Continue n
