-- The labels rise along the list of the log if no insertion is pending.
use Rattle.std.proofs.Common.{◌∙◌, ap, subst}
use Rattle.om_list.specs.LabelledList.{HasRisingLabels}
use Rattle.om_shared.specs.SharedLists.{WrittenList, labelled}
use Rattle.om_shared.proofs.PendingEntries.{rests_without}
use Rattle.om_shared.proofs.WordLabels.{words_rise}
use Rattle.om_shared.proofs.writer.OmWriter.label.Goals as goal

pub returns-clause-labels : goal.returns-clause-labels
returns-clause-labels c settled =
    let i = c.self.inside in
    let none = ap (λ (l : WrittenList). l.pending) c.self.view_is ∙ settled in
    subst (λ (l : WrittenList). HasRisingLabels (labelled l)) c.self.view_is
    (words_rise _ _ _ i.links i.seat.me (rests_without _ _ _ i.links i.pending.items i.seat.me none c.self.invariant.2))
