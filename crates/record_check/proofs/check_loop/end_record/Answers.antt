use Rattle.std.proofs.Common.{◌∙◌, ap}
use Rattle.pipe_model.specs.Language.SyntaxTree.{tree_of}
use Rattle.run_record.specs.OwnColumns.{made_columns}
use Rattle.schedule_play.specs.PlayStates.{pipeline_played}
use Rattle.record_check.specs.CheckedLoops.{with_stop}
use Rattle.record_check.proofs.CheckedRuns.{checked_run, record_detectable}
use Rattle.record_check.proofs.check_loop.end_record.Goals as goal

pub detect-requires-clause-own : goal.detect-requires-clause-own
detect-requires-clause-own g c =
    let v = c.args.player in
    (record_detectable (tree_of v.book.program) v.book.input v.book.limit v.events c.in_ok-events.events c.args.stopped
    c.in_ok-columns.columns c.requires.accepted c.requires.play.run c.requires.play.going
    (c.in_ok-events.ensures ∙ ap (with_stop c.args.stopped) c.into_run-events.ensures.events)
    (c.in_ok-columns.ensures ∙ ap made_columns c.as_slice.ensures)).own

pub detect-requires-clause-bounded : goal.detect-requires-clause-bounded
detect-requires-clause-bounded g c =
    let v = c.args.player in
    (record_detectable (tree_of v.book.program) v.book.input v.book.limit v.events c.in_ok-events.events c.args.stopped
    c.in_ok-columns.columns c.requires.accepted c.requires.play.run c.requires.play.going
    (c.in_ok-events.ensures ∙ ap (with_stop c.args.stopped) c.into_run-events.ensures.events)
    (c.in_ok-columns.ensures ∙ ap made_columns c.as_slice.ensures)).bounded

pub detect-requires-clause-inside : goal.detect-requires-clause-inside
detect-requires-clause-inside g c =
    let v = c.args.player in
    (record_detectable (tree_of v.book.program) v.book.input v.book.limit v.events c.in_ok-events.events c.args.stopped
    c.in_ok-columns.columns c.requires.accepted c.requires.play.run c.requires.play.going
    (c.in_ok-events.ensures ∙ ap (with_stop c.args.stopped) c.into_run-events.ensures.events)
    (c.in_ok-columns.ensures ∙ ap made_columns c.as_slice.ensures)).inside

pub returns : goal.returns
returns g c =
    let v = c.args.player in
    let can = record_detectable (tree_of v.book.program) v.book.input v.book.limit v.events c.in_ok-events.events c.args.stopped
    c.in_ok-columns.columns c.requires.accepted c.requires.play.run c.requires.play.going
    (c.in_ok-events.ensures ∙ ap (with_stop c.args.stopped) c.into_run-events.ensures.events)
    (c.in_ok-columns.ensures ∙ ap made_columns c.as_slice.ensures) in
    checked_run (pipeline_played v) v.book.limit v.events c.in_ok-events.events c.args.stopped c.is_finished-finished.result
    c.in_ok-columns.columns c.in_ok-reports.reports c.kind_of.result c.requires.play.run c.requires.play.going
    c.is_finished-finished.ensures
    (c.in_ok-events.ensures ∙ ap (with_stop c.args.stopped) c.into_run-events.ensures.events) can c.in_ok-reports.ensures
    c.kind_of.ensures
