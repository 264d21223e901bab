-- Worked examples of the lines of run logs.
use Rattle.std.specs.Prelude.{◌≡◌, ℕ, ℤ, List, [], ◌∷◌, ◌++◌, Some, None, pos, negsuc, codes}
use Rattle.pipe_model.specs.declared.access.AccessKind.{AccessKind}
use Rattle.pipe_model.specs.declared.access.AccessKind.TheVariants.{Read, Write}
use Rattle.pipe_model.specs.declared.column.ColumnEnd.TheVariants.{End, Closed, Trapped}
use Rattle.pipe_model.specs.declared.event.Event.{Event}
use Rattle.pipe_model.specs.declared.event.Event.TheVariants.{Begin, Access, Advance, Enter, Finish, Stop}
use Rattle.pipe_model.specs.declared.node.Kind.TheVariants.{Wait, Continue}
use Rattle.pipe_model.specs.declared.trap.Trap.TheVariants.{Index, DivZero}
use Rattle.pipe_model.specs.declared.tree.Declaration.{Declaration}
use Rattle.run_record.specs.LogLines.{log_text}

abbrev pub accesses : ℕ → AccessKind → ℕ → ℤ → Event
accesses i kind cell value = Access i (record { cell = record { 0 = cell }; kind = kind; value = value })

-- one plain cell
abbrev pub counting_cells : List Declaration
counting_cells = record { name = codes "n"; size = None; value = pos 0 } ∷ []

-- iteration 0 counts to 1, waits for stage 1, and emits the count; iteration 1 closes the loop
abbrev pub counting_events : List Event
counting_events =
    Begin 0 ∷ accesses 0 Read 2 (pos 0) ∷ accesses 0 Write 2 (pos 1) ∷ Advance 0 Wait (pos 1) ∷ Enter 0
    ∷ accesses 0 Read 2 (pos 1) ∷ accesses 0 Read 1 (pos 0) ∷ accesses 0 Write 1 (pos 1) ∷ Finish 0 End
    ∷ Begin 1 ∷ accesses 1 Read 2 (pos 1) ∷ Finish 1 Closed ∷ []

-- one line for each of its twelve events
abbrev pub CountingText : Type 0
CountingText =
    log_text counting_cells counting_events
    ≡ codes "begin 0\nread 0 n 0\nwrite 0 n 1\nwait 0 1\nenter 0\nread 0 n 1\nread 0 output 0\nwrite 0 output 1\nend 0\n"
    ++ codes "begin 1\nread 1 n 1\nclosed 1\n"

-- a loop that is closed at once
abbrev pub ClosedText : Type 0
ClosedText = log_text [] (Begin 0 ∷ Finish 0 Closed ∷ []) ≡ codes "begin 0\nclosed 0\n"

-- an array of three cells and a plain cell
abbrev pub array_cells : List Declaration
array_cells = record { name = codes "a"; size = Some (pos 3); value = pos 0 } ∷ record {
  name = codes "last";
  size = None;
  value =
      pos 0;
} ∷ []

-- the input's cursor, an element, the cell after the array, negative numbers, and the lines that the other examples do not have
abbrev pub OtherLines : Type 0
OtherLines =
    log_text array_cells (accesses 65536 Read 0 (pos 12) ∷ accesses 3 Write 4 (negsuc 6) ∷ accesses 3 Read 5 (pos 0)
    ∷ Advance 3 Continue (negsuc 1) ∷ Finish 3 (Trapped Index) ∷ Finish 12 (Trapped DivZero) ∷ Stop ∷ [])
    ≡ codes "read 65536 input 12\nwrite 3 a[2] -7\nread 3 last 0\ncontinue 3 -2\ntrap 3 Index\ntrap 12 DivZero\nstop\n"
