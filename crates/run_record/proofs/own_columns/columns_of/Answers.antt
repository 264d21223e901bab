use Rattle.std.proofs.Common.{◌∙◌}
use Rattle.std.proofs.lemmas.Result.{IfOk-weaker}
use Rattle.pipe_model.specs.Runs.ControlParts.{control_after}
use Rattle.run_record.proofs.Outlines.{made_from}
use Rattle.run_record.proofs.own_columns.columns_of.Goals as goal

pub returns : goal.returns
returns c =
    IfOk-weaker c.into_columns.result _ _
    (λ columns h. h ∙ made_from c.in_ok-iterations.iterations.items (control_after c.args.events.now).frames c.in_ok-iterations.ensures)
    c.into_columns.ensures
