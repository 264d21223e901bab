-- The declarations of a program that breaks no rule: the names are new, and the cells are not too many.
use Rattle.std.proofs.Common.{◌≡◌, ℕ, ◌+◌, ◌≤◌, false, List, [], ◌∷◌, ◌++◌, arith}
use Rattle.std.specs.Prelude.{nat_lt}
use Rattle.pipe_check.proofs.CellTables.{total_more}
use Rattle.pipe_model.specs.declared.bounds.TheConstants.{MOST_CELLS}
use Rattle.pipe_model.specs.declared.region.Region.TheVariants as regions
use Rattle.pipe_model.specs.declared.tree.Declaration.{Declaration}
use Rattle.pipe_model.specs.Language.CheckingRules.{Unknown, cell_total}
use Rattle.pipe_model.specs.Language.Marks.{DeclaredCell, mark_at, opening, marks_of_cells}
use Rattle.pipe_model.specs.Language.Programs.{declared_size}
use Rattle.pipe_check.proofs.FirstFaults.{first_of, others_of}
use Rattle.stage_code.specs.CellRanges.{AreNew}
use Rattle.stage_code.proofs.ProgramsInBounds.{Obeys, Obey}

few_by : (n : ℕ) → nat_lt MOST_CELLS n ≡ false → n ≤ MOST_CELLS
few_by n h = grind (arith, h)

pub new_names : (before ds : List Declaration) → Obey (marks_of_cells before ds) → AreNew before ds
new_names before [] o = tt
new_names before (d ∷ ds) o =
    let mark = mark_at (opening regions.Cells before) (DeclaredCell d.name d.size) in
    let rest = marks_of_cells (before ++ d ∷ []) ds in
    (first_of Obeys mark rest o 1 Unknown (omega arith), new_names (before ++ d ∷ []) ds (others_of Obeys mark rest o))

pub few_cells : (before ds : List Declaration) → Obey (marks_of_cells before ds) → cell_total before ≤ MOST_CELLS
    → cell_total before + cell_total ds ≤ MOST_CELLS
few_cells before [] o bounded = omega (arith, bounded)
few_cells before (d ∷ ds) o bounded =
    let mark = mark_at (opening regions.Cells before) (DeclaredCell d.name d.size) in
    let rest = marks_of_cells (before ++ d ∷ []) ds in
    let more = few_by (cell_total before + declared_size d.size) (first_of Obeys mark rest o 3 Unknown (omega arith)) in
    let total = total_more before d in
    omega (arith, total, few_cells (before ++ d ∷ []) ds (others_of Obeys mark rest o) (omega (arith, total, more)))
