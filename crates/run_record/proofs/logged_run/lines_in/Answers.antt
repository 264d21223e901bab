use Rattle.std.proofs.Common.{◌≡◌, ◌∙◌, ap, sym, List}
use Rattle.pipe_model.specs.declared.event.Event.{Event}
use Rattle.pipe_model.specs.declared.ticket.BookEntry.{BookEntry}
use Rattle.pipe_model.specs.declared.ticket.ShardEntry.{ShardEntry}
use Rattle.run_record.specs.LoggedRuns.{events_of}
use Rattle.run_record.specs.LogLines.{log_text}
use Rattle.run_record.specs.SortedEntries.{merged_events}
use Rattle.run_record.proofs.logged_run.lines_in.Goals as goal

pub returns-in_ok-lines_of-in-Apart : goal.returns-in_ok-lines_of-in-Apart
returns-in_ok-lines_of-in-Apart c =
    let events : c.as_slice-in-Apart-3.result.now ≡ events_of c.args.logs.now =
    c.as_slice-in-Apart-3.ensures
    ∙ (c.in_ok-events-in-Apart.ensures.sorted
    ∙ (ap (λ (l : List BookEntry). merged_events l c.as_slice-in-Apart-2.result.now) c.as_slice-in-Apart.ensures
    ∙ (ap (λ (l : List (List ShardEntry)). merged_events c.in-Apart.book l) c.as_slice-in-Apart-2.ensures.value
    ∙ sym (ap events_of c.in-Apart.is)))) in
    c.in_ok-lines_of-in-Apart.ensures ∙ ap (λ (l : List Event). log_text c.args.cells.now l) events
