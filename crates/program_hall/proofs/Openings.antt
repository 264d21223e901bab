-- Halls that are opened for a program.
use Rattle.std.proofs.Common.{◌≡◌, ◌≤◌, subst, sym, ℤ, List, Option, Some, Ok, Err, Result}
use Rattle.std.specs.Result.{IfOk}
use Rattle.hall_table.specs.SeatViews.{HallConstants}
use Rattle.hall_table.specs.WorkerSeats.{HallId, hall_name, name_of}
use Rattle.pipe_model.specs.Language.SyntaxTree.{tree_of}
use Rattle.pipe_worker.specs.Machines.{CanDrive, cells_of}
use Rattle.stage_code.specs.FlatCode.{FlatCode}
use Rattle.stage_interp.specs.CellNumbers.{most_cell_ids}

-- what follows from two facts of an `Ok`
pub map_both : {T E : Type 0} {P Q R : T → Type 0} → (r : Result T E) → IfOk r P → IfOk r Q → ((x : T) → P x → Q x → R x) → IfOk r R
map_both (Ok x) p q f = f x p q
map_both (Err e) p q f = tt

-- machines can drive a hall with these constants
pub can_drive : (own : FlatCode) (h : HallId) (a : HallConstants) (code : FlatCode) (input : List ℤ) → h.constants ≡ Some a → code ≡ own
    → input ≡ a.input
    → cells_of (tree_of a.program) ≤ most_cell_ids → CanDrive own (hall_name h) code input
can_drive own h a code input is same_code same_input bounded =
    subst (λ (o : Option HallConstants). CanDrive own (name_of h.table o) code input) (sym is)
    (record { code_is = same_code; input_is = same_input; bounded = bounded })
