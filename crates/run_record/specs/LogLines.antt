-- The lines of a run log, one for each event. Numbers are plain decimal; every line ends with a line feed.
use Rattle.std.specs.Prelude.{ℕ, ℤ, List, [], ◌++◌, codes}
use Rattle.std.specs.Fmt.{decimal, signed_decimal}
use Rattle.std.specs.List.{flat_map}
use Rattle.pipe_model.specs.declared.access.Access.{Access as Cell_access}
use Rattle.pipe_model.specs.declared.column.ColumnEnd.{ColumnEnd}
use Rattle.pipe_model.specs.declared.column.ColumnEnd.TheVariants as ends
use Rattle.pipe_model.specs.declared.event.Event.{Event}
use Rattle.pipe_model.specs.declared.event.Event.TheVariants.{Begin, Access, Advance, Enter, Finish, Stop}
use Rattle.pipe_model.specs.declared.node.Kind.{Kind}
use Rattle.pipe_model.specs.declared.node.Kind.TheVariants.{Zero, Wait, Continue}
use Rattle.pipe_model.specs.declared.tree.Declaration.{Declaration}
use Rattle.pipe_model.specs.Texts.{kind_text, trap_name}
use Rattle.race_report.specs.CellNames.{cell_name}

-- an event with its iteration alone
abbrev pub iteration_line : List ℕ → ℕ → List ℕ
iteration_line word i = word ++ (codes " " ++ (decimal i ++ codes "\n"))

-- an access: its kind, iteration, cell and value
abbrev pub access_line : (ℕ → List ℕ) → ℕ → Cell_access → List ℕ
access_line cell_name i a =
    kind_text a.kind ++ (codes " " ++ (decimal i ++ (codes " "
    ++ (cell_name a.cell.0 ++ (codes " " ++ (signed_decimal a.value ++ codes "\n"))))))

-- a next stage: its kind, the iteration and the stage number. No run names a stage of kind Zero, and there is no line for it.
abbrev pub stage_line : ℕ → Kind → ℤ → List ℕ
stage_line i Zero n = []
stage_line i Wait n = codes "wait " ++ (decimal i ++ (codes " " ++ (signed_decimal n ++ codes "\n")))
stage_line i Continue n = codes "continue " ++ (decimal i ++ (codes " " ++ (signed_decimal n ++ codes "\n")))

-- the end of an iteration, with the name of its trap
abbrev pub end_line : ℕ → ColumnEnd → List ℕ
end_line i ends.End = iteration_line (codes "end") i
end_line i ends.Closed = iteration_line (codes "closed") i
end_line i (ends.Trapped t) = codes "trap " ++ (decimal i ++ (codes " " ++ (trap_name t ++ codes "\n")))

-- the line of an event
abbrev pub log_line : (ℕ → List ℕ) → Event → List ℕ
log_line cell_name (Begin i) = iteration_line (codes "begin") i
log_line cell_name (Access i a) = access_line cell_name i a
log_line cell_name (Advance i k n) = stage_line i k n
log_line cell_name (Enter i) = iteration_line (codes "enter") i
log_line cell_name (Finish i e) = end_line i e
log_line cell_name Stop = codes "stop\n"

-- the text of a log: the lines of its events, in order, with the names of the declared cells
abbrev pub log_text : List Declaration → List Event → List ℕ
log_text cells events = flat_map (log_line (cell_name cells)) events
