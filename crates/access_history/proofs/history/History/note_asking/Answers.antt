-- The access is kept after the comparison, in lists that may have grown.
use Rattle.std.proofs.Common.{ap, ◌∙◌}
use Rattle.access_history.proofs.FoldedHistories.{history_pushed}
use Rattle.access_history.proofs.GrownLists.{agree_on_kept}
use Rattle.access_history.specs.KeptInstances.{kept_of, report_after}
use Rattle.access_history.specs.declared.history.History.{History}
use Rattle.access_history.proofs.history.History.note_asking.Goals as goal

pub returns-clause-kept : goal.returns-clause-kept
returns-clause-kept g c = λ down right a known.
    let x = c.args.who in
    let h = c.args.self.now in
    let grown = agree_on_kept _ _ _ _ down right x h c.check-verdict.ensures.down c.check-verdict.ensures.right c.requires.new
    c.requires.kept a in
    ap kept_of c.report_first.ensures ∙ c.keep.ensures.kept down right grown known

pub returns-clause-step : goal.returns-clause-step
returns-clause-step g c = λ down right a known accesses before.
    let x = c.args.who in
    let kind = c.args.kind in
    let verdict = c.check-verdict.result in
    let report = ap (λ (h : History). h.report) c.report_first.ensures ∙ ap (λ r. report_after r x.node kind verdict) c.keep.ensures.report
    in
    history_pushed down right accesses c.args.self.now _ x.node kind verdict
    (c.check-verdict.ensures.race down right a known) (returns-clause-kept g c down right a known) report before
