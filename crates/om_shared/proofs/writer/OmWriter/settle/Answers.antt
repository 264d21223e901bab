-- The words and the links have the same labels, before and after the pending elements get theirs.
use Rattle.std.proofs.Common.{◌≡◌, ℕ, ◌++◌, ◌∙◌, List, ap, sym, subst, arith, eqb-true}
use Rattle.std.proofs.lemmas.List.{nil_from_length}
use Rattle.om_shared.specs.Seats.{stage_of, word_labels}
use Rattle.om_shared.specs.SharedLists.{HasChosenLabels, WrittenList}
use Rattle.om_shared.proofs.PendingEntries.{rests_without}
use Rattle.om_shared.proofs.WordLabels.{resting_labels_are, word_labels_are, words_rise}
use Rattle.om_shared.proofs.writer.OmWriter.settle.Goals as goal

pub returns-then-is_empty-clause-labels : goal.returns-then-is_empty-clause-labels
returns-then-is_empty-clause-labels c =
    let i = c.self.inside in
    let long = eqb-true _ 0 (sym c.is_empty.ensures ∙ c.if-is_empty.true) in
    let none = nil_from_length i.pending.items (omega (arith, long)) in
    words_rise _ _ _ i.links i.seat.me (rests_without _ _ _ i.links i.pending.items i.seat.me none c.self.invariant.2)

pub returns-clause-labels : goal.returns-clause-labels
returns-clause-labels c = words_rise _ _ _ _ _ c.label_pending-self-inside.ensures.resting

pub returns-clause-chosen : goal.returns-clause-chosen
returns-clause-chosen c = λ done log.
    let i = c.self.inside in
    let labelled = c.label_pending-self-inside in
    let before = word_labels_are (stage_of i.pending.items) _ _ _ i.links i.pending.items i.seat.me c.self.invariant.2 in
    let after = resting_labels_are _ _ _ labelled.new.links labelled.new.seat.me labelled.ensures.resting in
    let parts : i.seat.me.0.log ≡ done ++ i.pending.items =
    subst (λ (l : WrittenList). l.log ≡ done ++ l.pending) (sym c.self.view_is) log in
    subst (λ (l : WrittenList). HasChosenLabels done l.labels l.pending (word_labels labelled.new.links labelled.new.seat.me.0))
    c.self.view_is
    (subst (λ (p : List ℕ × List ℕ). HasChosenLabels done p.0 i.pending.items p.1) (λ k. (sym before k, sym after k))
    (labelled.ensures.chosen done parts))

pub returns-clause-log : goal.returns-clause-log
returns-clause-log c = c.label_pending-self-inside.ensures.log ∙ ap (λ (l : WrittenList). l.log) c.self.view_is

pub returns-clause-capacity : goal.returns-clause-capacity
returns-clause-capacity c = ap (λ (l : WrittenList). l.capacity) c.self.view_is

pub returns-clause-pending : goal.returns-clause-pending
returns-clause-pending c = c.label_pending-self-inside.ensures.pending

pub returns-clause-table : goal.returns-clause-table
returns-clause-table c = c.label_pending-self-inside.ensures.own ∙ ap (λ (l : WrittenList). l.table) c.self.view_is

pub returns-then-is_empty-clause-log : goal.returns-then-is_empty-clause-log
returns-then-is_empty-clause-log c = ap (λ (l : WrittenList). l.log) c.self.view_is

pub returns-then-is_empty-clause-capacity : goal.returns-then-is_empty-clause-capacity
returns-then-is_empty-clause-capacity c = ap (λ (l : WrittenList). l.capacity) c.self.view_is

pub returns-then-is_empty-clause-pending : goal.returns-then-is_empty-clause-pending
returns-then-is_empty-clause-pending c =
    let long = eqb-true _ 0 (sym c.is_empty.ensures ∙ c.if-is_empty.true) in
    nil_from_length c.self.inside.pending.items (omega (arith, long))

pub returns-then-is_empty-clause-table : goal.returns-then-is_empty-clause-table
returns-then-is_empty-clause-table c = ap (λ (l : WrittenList). l.table) c.self.view_is
