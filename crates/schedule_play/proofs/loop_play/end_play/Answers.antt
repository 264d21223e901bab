use Rattle.std.proofs.Common.{◌∙◌, ap, sym, subst}
use Rattle.pipe_model.specs.Language.SyntaxTree.{tree_of}
use Rattle.pipe_model.specs.Orders.Starts.{starts_of}
use Rattle.pipe_model.specs.Runs.Run.{Run}
use Rattle.pipe_model.specs.Runs.RunLogs.{accesses_after, columns_after, ended_columns_after, state_after}
use Rattle.race_detection.specs.FoundReports.{found_reports}
use Rattle.run_record.specs.OwnColumns.{made_columns}
use Rattle.schedule_play.specs.PlayStates.{pipeline_played}
use Rattle.schedule_play.proofs.PlayedRuns.{detectable}
use Rattle.schedule_play.proofs.loop_play.end_play.Goals as goal

pub detect-requires-clause-own : goal.detect-requires-clause-own
detect-requires-clause-own g c =
    let v = c.args.player in
    let accepted = c.requires.accepted in
    let ensured = c.into_run-events.ensures in
    let can = detectable (tree_of v.book.program) v.book.input v.book.limit c.into_run-events.result.0 c.in_ok-columns.columns accepted
    (subst (λ es. Run (pipeline_played v) v.book.limit es (state_after es)) (sym ensured.events) c.requires.play.run)
    (c.in_ok-columns.ensures ∙ ap made_columns c.as_slice.ensures) in
    can.own

pub detect-requires-clause-bounded : goal.detect-requires-clause-bounded
detect-requires-clause-bounded g c =
    let v = c.args.player in
    let accepted = c.requires.accepted in
    let ensured = c.into_run-events.ensures in
    let can = detectable (tree_of v.book.program) v.book.input v.book.limit c.into_run-events.result.0 c.in_ok-columns.columns accepted
    (subst (λ es. Run (pipeline_played v) v.book.limit es (state_after es)) (sym ensured.events) c.requires.play.run)
    (c.in_ok-columns.ensures ∙ ap made_columns c.as_slice.ensures) in
    can.bounded

pub detect-requires-clause-inside : goal.detect-requires-clause-inside
detect-requires-clause-inside g c =
    let v = c.args.player in
    let accepted = c.requires.accepted in
    let ensured = c.into_run-events.ensures in
    let can = detectable (tree_of v.book.program) v.book.input v.book.limit c.into_run-events.result.0 c.in_ok-columns.columns accepted
    (subst (λ es. Run (pipeline_played v) v.book.limit es (state_after es)) (sym ensured.events) c.requires.play.run)
    (c.in_ok-columns.ensures ∙ ap made_columns c.as_slice.ensures) in
    can.inside

pub returns : goal.returns
returns g c =
    let v = c.args.player in
    let accepted = c.requires.accepted in
    let ensured = c.into_run-events.ensures in
    let can = detectable (tree_of v.book.program) v.book.input v.book.limit c.into_run-events.result.0 c.in_ok-columns.columns accepted
    (subst (λ es. Run (pipeline_played v) v.book.limit es (state_after es)) (sym ensured.events) c.requires.play.run)
    (c.in_ok-columns.ensures ∙ ap made_columns c.as_slice.ensures) in
    record {
      events = ensured.events;
      columns = can.ended ∙ ap ended_columns_after ensured.events;
      reports = c.in_ok-reports.ensures ∙ can.found
          ∙ ap (λ es. found_reports (columns_after es) (starts_of es) (accesses_after es)) ensured.events;
      finished = c.is_finished-finished.ensures;
      cells = ensured.cells;
    }
