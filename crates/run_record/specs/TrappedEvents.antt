-- Events that end an iteration with a trap.
use Rattle.std.specs.Prelude.{◌≡◌, List, Bool, true, false, All, map, Option, None, Some}
use Rattle.std.specs.List.{list_any}
use Rattle.pipe_model.specs.declared.column.Column.{Column}
use Rattle.pipe_model.specs.declared.column.ColumnEnd.{ColumnEnd}
use Rattle.pipe_model.specs.declared.column.ColumnEnd.TheVariants.{Closed, End, Trapped}
use Rattle.pipe_model.specs.declared.event.Event.{Event}
use Rattle.pipe_model.specs.declared.event.Event.TheVariants.{Access, Advance, Begin, Enter, Finish, Stop}
use Rattle.pipe_model.specs.declared.ticket.BookEntry.{BookEntry}
use Rattle.run_record.specs.OwnColumns.{made_columns}

-- an end with a trap
abbrev pub is_trap : ColumnEnd → Bool
is_trap End = false
is_trap Closed = false
is_trap (Trapped t) = true

-- the event ends an iteration with a trap
abbrev pub ends_trapped : Event → Bool
ends_trapped (Begin i) = false
ends_trapped (Access i a) = false
ends_trapped (Advance i k n) = false
ends_trapped (Enter i) = false
ends_trapped (Finish i end) = is_trap end
ends_trapped Stop = false

-- an iteration that has not ended with a trap
abbrev pub IsUntrapped : Option ColumnEnd → Type 0
IsUntrapped None = Unit {0}
IsUntrapped (Some end) = is_trap end ≡ false

-- a book without such an event makes no column that ends with a trap
abbrev pub BooksWithoutTrapsMakeNone : Type 0
BooksWithoutTrapsMakeNone =
    (book : List BookEntry) → list_any (λ (b : BookEntry). ends_trapped b.event) book ≡ false
    → All (λ (c : Column). IsUntrapped c.end) (made_columns (map (λ (b : BookEntry). b.event) book))
