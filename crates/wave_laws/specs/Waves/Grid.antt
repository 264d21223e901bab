-- The meaning of a wave loop: two nested loops, over the columns of a grid and over the rows of a column. A point reads what all points
-- before it wrote.
use Rattle.std.specs.Prelude.{ℕ, zero, suc, ℤ, List, [], ◌∷◌, ◌++◌, Bool, false, ◌+◌, is_some}
use Rattle.pipe_model.specs.declared.access.Access.{Access}
use Rattle.pipe_model.specs.declared.column.ColumnEnd.TheVariants as ends
use Rattle.pipe_model.specs.Language.Interaction.{Return, with_budget}
use Rattle.pipe_model.specs.Language.Programs.{natural, store_of}
use Rattle.pipe_model.specs.Language.ProgramsOfTrees.{whole_of}
use Rattle.pipe_model.specs.Language.SyntaxTree.{SyntaxTree}
use Rattle.pipe_model.specs.Pipelines.Behaviour.{Action, accesses_in, trace_end}
use Rattle.pipe_model.specs.Pipelines.SerialElision.{serial_trace, unless}
use Rattle.pipe_model.specs.Pipelines.WholePrograms.{init_accesses, init_trap}
use Rattle.wave_laws.specs.Waves.Points.{is_trap, point_trace, steps}

-- the traces of the points of column c, n rows from row r on; a trap ends the column
abbrev pub column_points : SyntaxTree → List ℤ → (c n r : ℕ) → List Access → List (List Action)
column_points tree input c zero r before = []
column_points tree input c (suc n) r before =
    point_trace tree input c r before ∷ unless (is_trap (trace_end (point_trace tree input c r before)))
    (column_points tree input c n (r + 1) (before ++ accesses_in (point_trace tree input c r before)))

-- the accesses of the points of a column
abbrev pub points_accesses : List (List Action) → List Access
points_accesses [] = []
points_accesses (t ∷ ts) = accesses_in t ++ points_accesses ts

-- a trap in row 0 ends the grid
abbrev pub ends_grid : List (List Action) → Bool
ends_grid [] = false
ends_grid (t ∷ ts) = is_trap (trace_end t)

-- the closing instance, which takes 4 steps
abbrev pub closing_trace : SyntaxTree → List Access → List Action
closing_trace tree before =
    serial_trace (store_of tree) (with_budget (natural tree.limits.steps) (natural tree.limits.steps) (steps 4 (Return ends.Closed))) before

-- the columns, n of them from column c on, each with the traces of its points; the last one has the closing instance alone
abbrev pub columns_from : SyntaxTree → List ℤ → (n c : ℕ) → List Access → List (List (List Action))
columns_from tree input zero c before = (closing_trace tree before ∷ []) ∷ []
columns_from tree input (suc n) c before =
    column_points tree input c (natural tree.limits.stages) 0 before
    ∷ unless (ends_grid (column_points tree input c (natural tree.limits.stages) 0 before))
    (columns_from tree input n (c + 1) (before ++ points_accesses (column_points tree input c (natural tree.limits.stages) 0 before)))

-- the grid after `init`; no column if `init` trapped
abbrev pub grid : SyntaxTree → List ℤ → List (List (List Action))
grid tree input = unless (is_some (init_trap (whole_of tree input)))
    (columns_from tree input (natural tree.limits.iterations) 0 (init_accesses (whole_of tree input)))
