-- A run has the columns of its control part.
use Rattle.std.proofs.Common.{◌∙◌, sym, ap, map, List}
use Rattle.pipe_model.specs.Runs.ControlParts.{control_after}
use Rattle.pipe_model.specs.Runs.RunLogs.{column_of_frame, state_after}
use Rattle.pipe_model.specs.Runs.State.{Frame}
use Rattle.schedule_laws.proofs.ControlOutlines.{runs_have_control_runs}
use Rattle.run_record.specs.OwnColumns.{RunsMakeTheirColumns}
use Rattle.run_record.proofs.Outlines.{columns_of_outlines}

pub runs_make_their_columns : RunsMakeTheirColumns
runs_make_their_columns p limit events run =
    sym (columns_of_outlines (control_after events).frames)
    ∙ (ap (λ (fs : List Frame). map column_of_frame fs) (sym (runs_have_control_runs p limit events (state_after events) run).same.frames)
    ∙ columns_of_outlines (state_after events).frames)
