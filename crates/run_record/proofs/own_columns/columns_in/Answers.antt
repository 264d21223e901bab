use Rattle.std.proofs.Common.{◌∙◌, map}
use Rattle.std.proofs.lemmas.Result.{IfOk-weaker}
use Rattle.pipe_model.specs.declared.ticket.BookEntry.{BookEntry}
use Rattle.pipe_model.specs.Runs.ControlParts.{control_after}
use Rattle.run_record.proofs.Outlines.{made_from}
use Rattle.run_record.proofs.own_columns.columns_in.Goals as goal

pub returns : goal.returns
returns c =
    IfOk-weaker c.into_columns.result _ _
    (λ columns h. h
    ∙ made_from c.in_ok-iterations.iterations.items (control_after (map (λ (b : BookEntry). b.event) c.args.book.now)).frames
    c.in_ok-iterations.ensures)
    c.into_columns.ensures
