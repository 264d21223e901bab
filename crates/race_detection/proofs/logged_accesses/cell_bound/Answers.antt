use Rattle.std.proofs.Common.{◌∙◌, ap, get_or, max, sym, take, []}
use Rattle.pipe_model.specs.declared.event.Event.TheVariants.{Begin}
use Rattle.race_detection.specs.FoundReports.{cell_bound}
use Rattle.race_detection.specs.LogAccesses.{access_by, log_accesses}
use Rattle.race_detection.proofs.CellBounds.{cell_bound-append}
use Rattle.race_detection.proofs.LoggedAccesses.{counts_from, one_more_made}
use Rattle.race_detection.proofs.logged_accesses.cell_bound.Goals as goal

pub loop-event-preserved : goal.loop-event-preserved
loop-event-preserved c =
    let events = c.args.events.now in
    let n = c.loop-event.event-index in
    let counts = counts_from [] (take n events) in
    let made = access_by counts (get_or events n (Begin 0)) in
    record {
      bound = c.bound_after-bound.ensures.bound counts ∙ ap (λ b. max b (cell_bound made)) c.loop-event.invariant.bound
          ∙ sym (cell_bound-append (log_accesses (take n events)) made)
          ∙ ap cell_bound (sym (one_more_made events n c.loop-event-test.true));
      small = c.bound_after-bound.ensures.small;
    }
