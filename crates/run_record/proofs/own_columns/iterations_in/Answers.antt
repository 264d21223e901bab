use Rattle.std.proofs.Common.{◌≡◌, ◌∙◌, ◌+◌, ◌++◌, ◌∷◌, [], ap, sym, List, get_or, map, take}
use Rattle.std.proofs.lemmas.List.{map-append, take_more}
use Rattle.pipe_model.specs.declared.event.Event.{Event}
use Rattle.pipe_model.specs.declared.event.Event.TheVariants.{Begin}
use Rattle.pipe_model.specs.declared.ticket.BookEntry.{BookEntry}
use Rattle.pipe_model.specs.Runs.ControlParts.{control_after, outlines_of}
use Rattle.pipe_model.specs.Runs.State.{Frame}
use Rattle.run_record.specs.OwnColumns.{next_outlines}
use Rattle.run_record.proofs.Outlines.{outlines-push}
use Rattle.run_record.proofs.own_columns.iterations_in.Goals as goal

pub loop-entry-preserved : goal.loop-entry-preserved
loop-entry-preserved c =
    let event : BookEntry → Event = λ (b : BookEntry). b.event in
    let d : BookEntry = record { ticket = 0; event = Begin 0 } in
    let before = take c.loop-entry.entry-index c.args.book.now in
    let b : BookEntry = get_or c.args.book.now c.loop-entry.entry-index d in
    let more : map event (take (c.loop-entry.entry-index + 1) c.args.book.now) ≡ map event before ++ b.event ∷ [] =
    ap (map event) (take_more c.args.book.now c.loop-entry.entry-index d c.loop-entry-test.true) ∙ map-append event before (b ∷ []) in
    c.in_ok-apply.ensures
    ∙ (ap (λ (fs : List Frame). next_outlines fs b.event) c.loop-entry.invariant
    ∙ (sym (outlines-push (map event before) b.event) ∙ ap (λ (l : List Event). outlines_of (control_after l).frames) (sym more)))
