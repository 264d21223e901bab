use Rattle.std.proofs.Common.{◌≡◌, take}
use Rattle.pipe_model.specs.Runs.ControlParts.{control_after, outlines_of}
use Rattle.run_record.specs.OwnColumns.{frames_of}
use Rattle.run_record.proofs.own_columns.iterations_of.Given as goal

abbrev pub invariant-loop-event : goal.invariant-loop-event
invariant-loop-event l = frames_of l.iterations.items ≡ outlines_of (control_after (take l.event-index l.events)).frames
