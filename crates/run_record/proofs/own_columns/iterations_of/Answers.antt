use Rattle.std.proofs.Common.{◌∙◌, ap, sym, List, get_or, take}
use Rattle.std.proofs.lemmas.List.{take_more}
use Rattle.pipe_model.specs.declared.event.Event.{Event}
use Rattle.pipe_model.specs.declared.event.Event.TheVariants.{Begin}
use Rattle.pipe_model.specs.Runs.ControlParts.{control_after, outlines_of}
use Rattle.pipe_model.specs.Runs.State.{Frame}
use Rattle.run_record.specs.OwnColumns.{next_outlines}
use Rattle.run_record.proofs.Outlines.{outlines-push}
use Rattle.run_record.proofs.own_columns.iterations_of.Goals as goal

pub loop-event-preserved : goal.loop-event-preserved
loop-event-preserved c =
    let e : Event = get_or c.args.events.now c.loop-event.event-index (Begin 0) in
    c.in_ok-apply.ensures
    ∙ (ap (λ (fs : List Frame). next_outlines fs e) c.loop-event.invariant
    ∙ (sym (outlines-push (take c.loop-event.event-index c.args.events.now) e)
    ∙ ap (λ (l : List Event). outlines_of (control_after l).frames)
    (sym (take_more c.args.events.now c.loop-event.event-index (Begin 0) c.loop-event-test.true))))
