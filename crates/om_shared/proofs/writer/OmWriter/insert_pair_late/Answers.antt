-- The new elements are pending.
use Rattle.std.proofs.Common.{◌≡◌, ◌∙◌, ℕ, ◌+◌, arith, ◌∷◌, [], ◌++◌, ap, ap₂, length, sym}
use Rattle.om_shared.specs.Seats.{stage_of}
use Rattle.om_shared.specs.SharedLists.{WrittenList}
use Rattle.om_shared.specs.declared.view.Stage.TheVariants.{Moving}
use Rattle.om_shared.proofs.WordLabels.{word_labels_are}
use Rattle.om_shared.proofs.writer.OmWriter.insert_pair_late.Goals as goal

pub returns-clause-elements : goal.returns-clause-elements
returns-clause-elements c =
    let e = c.len-element.ensures in
    let next : c.len-element.result + 1 ≡ length c.args.self.now.log + 2 = omega (arith, e) in
    ap₂ (λ (a : ℕ) (b : ℕ). (a, b)) e next

pub returns-clause-log : goal.returns-clause-log
returns-clause-log c = c.announce_pair_after-self-inside.ensures.log
    ∙ ap (λ (l : WrittenList). l.log ++ c.args.x ∷ (1 + length l.log) ∷ []) c.self.view_is

pub returns-clause-capacity : goal.returns-clause-capacity
returns-clause-capacity c = ap (λ (l : WrittenList). l.capacity) c.self.view_is

pub returns-clause-late : goal.returns-clause-late
returns-clause-late c = ap (λ (l : WrittenList). l.late) c.self.view_is ∙ c.requires.late

pub returns-clause-pending : goal.returns-clause-pending
returns-clause-pending c = c.announce_pair_after-self-inside.ensures.pending
    ∙ ap (λ (l : WrittenList). l.pending ++ c.args.x ∷ (1 + length l.log) ∷ []) c.self.view_is

pub returns-clause-table : goal.returns-clause-table
returns-clause-table c = c.announce_pair_after-self-inside.ensures.own ∙ ap (λ (l : WrittenList). l.table) c.self.view_is

pub returns-clause-unchanged : goal.returns-clause-unchanged
returns-clause-unchanged c =
    let i = c.self.inside in
    let announced = c.announce_pair_after-self-inside in
    let before = word_labels_are (stage_of i.pending.items) _ _ _ i.links i.pending.items i.seat.me c.self.invariant.2 in
    let after = word_labels_are Moving _ _ _ i.links announced.new.pending.items announced.new.seat.me announced.ensures.moving in
    after ∙ (sym before ∙ ap (λ (l : WrittenList). l.labels) c.self.view_is)
