-- The words and the links have the same labels, before and after the insertion.
use Rattle.std.proofs.Common.{◌∙◌, ◌∷◌, [], ◌++◌, ap, length, arith}
use Rattle.om_shared.specs.SharedLists.{WrittenList}
use Rattle.om_shared.proofs.PendingEntries.{rests_without}
use Rattle.om_shared.proofs.WordLabels.{resting_labels_are, words_are_chosen, words_rise}
use Rattle.om_shared.proofs.writer.OmWriter.insert_labelled.Goals as goal

pub returns-clause-labels : goal.returns-clause-labels
returns-clause-labels c = words_rise _ _ _ _ _ c.publish_after.ensures.resting

pub returns-clause-label : goal.returns-clause-label
returns-clause-label c =
    let i = c.self.inside in
    let none = c.self.invariant.4 (ap (λ (l : WrittenList). l.late) c.self.view_is ∙ c.requires.plain) in
    let before = rests_without _ _ _ i.links i.pending.items i.seat.me none c.self.invariant.2 in
    let freed = c.free_label_after-self-inside in
    let published = c.publish_after in
    rw (← c.self.view_is) (words_are_chosen i.links freed.new.links published.new.links i.seat.me freed.new.seat.me
    published.new.seat.me c.args.x before.kept freed.ensures.ready.kept freed.ensures.log freed.ensures.room
    published.ensures.middle (resting_labels_are _ _ _ _ _ before)
    (resting_labels_are _ _ _ _ _ published.ensures.resting))

pub returns-clause-element : goal.returns-clause-element
returns-clause-element c =
    let element = c.publish_after.ensures.element in
    let log = ap length c.free_label_after-self-inside.ensures.log in
    let old = ap (λ (l : WrittenList). length l.log) c.self.view_is in
    omega (arith, element, log, old)

pub returns-clause-log : goal.returns-clause-log
returns-clause-log c = c.publish_after.ensures.log
    ∙ (ap (λ es. es ++ c.args.x ∷ []) c.free_label_after-self-inside.ensures.log
    ∙ ap (λ (l : WrittenList). l.log ++ c.args.x ∷ []) c.self.view_is)

pub returns-clause-capacity : goal.returns-clause-capacity
returns-clause-capacity c = ap (λ (l : WrittenList). l.capacity) c.self.view_is

pub returns-clause-late : goal.returns-clause-late
returns-clause-late c = ap (λ (l : WrittenList). l.late) c.self.view_is ∙ c.requires.plain

pub returns-clause-pending : goal.returns-clause-pending
returns-clause-pending c = ap (λ (l : WrittenList). l.pending) c.self.view_is

pub returns-clause-table : goal.returns-clause-table
returns-clause-table c = c.publish_after.ensures.own
    ∙ (c.free_label_after-self-inside.ensures.own ∙ ap (λ (l : WrittenList). l.table) c.self.view_is)
