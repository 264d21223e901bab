-- The new element is pending.
use Rattle.std.proofs.Common.{◌∙◌, ◌∷◌, [], ◌++◌, ap}
use Rattle.om_shared.specs.SharedLists.{WrittenList}
use Rattle.om_shared.proofs.writer.OmWriter.insert_late.Goals as goal

pub returns-clause-element : goal.returns-clause-element
returns-clause-element c = c.len-element.ensures

pub returns-clause-log : goal.returns-clause-log
returns-clause-log c = c.announce_after-self-inside.ensures.log
    ∙ ap (λ (l : WrittenList). l.log ++ c.args.x ∷ []) c.self.view_is

pub returns-clause-capacity : goal.returns-clause-capacity
returns-clause-capacity c = ap (λ (l : WrittenList). l.capacity) c.self.view_is

pub returns-clause-late : goal.returns-clause-late
returns-clause-late c = ap (λ (l : WrittenList). l.late) c.self.view_is ∙ c.requires.late

pub returns-clause-pending : goal.returns-clause-pending
returns-clause-pending c = c.announce_after-self-inside.ensures.pending
    ∙ ap (λ (l : WrittenList). l.pending ++ c.args.x ∷ []) c.self.view_is

pub returns-clause-table : goal.returns-clause-table
returns-clause-table c = c.announce_after-self-inside.ensures.own ∙ ap (λ (l : WrittenList). l.table) c.self.view_is
