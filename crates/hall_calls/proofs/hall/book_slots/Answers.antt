use Rattle.std.proofs.Common.{◌++◌, ◌∷◌, [], ◌∙◌, List, ap}
use Rattle.hall_table.specs.declared.slot.Slot.{Slot}
use Rattle.hall_table.specs.declared.slot.Slot.TheVariants as slots
use Rattle.hall_calls.proofs.hall.book_slots.Goals as goal

pub returns-in-Ok-clause-items : goal.returns-in-Ok-clause-items
returns-in-Ok-clause-items g c =
    c.push_reserved.ensures.items ∙ ap (λ (l : List (Slot g.row.M.Denot)). l ++ slots.Book c.args.book ∷ []) c.in-Ok.ensures.items
