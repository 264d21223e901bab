use Rattle.std.proofs.Common.{◌∙◌, ◌++◌, [], List, ap, get_or, sym, take, ℕ}
use Rattle.std.proofs.lemmas.List.{flat_map_more, take_more}
use Rattle.pipe_model.specs.declared.event.Event.{Event}
use Rattle.pipe_model.specs.declared.event.Event.TheVariants.{Begin}
use Rattle.race_report.specs.CellNames.{cell_name}
use Rattle.run_record.specs.LogLines.{log_line, log_text}
use Rattle.run_record.proofs.log_text.lines_of.Goals as goal

pub loop-event-preserved : goal.loop-event-preserved
loop-event-preserved c =
    let line : Event → List ℕ = log_line (cell_name c.args.cells.now) in
    let events = c.args.events.now in
    let i = c.loop-event.event-index in
    let event : Event = get_or events i (Begin 0) in
    c.in_ok-push_event.ensures
    ∙ ap (λ l. l ++ line event) c.loop-event.invariant
    ∙ flat_map_more line [] (take i events) event
    ∙ ap (log_text c.args.cells.now) (sym (take_more events i (Begin 0) c.loop-event-test.true))
