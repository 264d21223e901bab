-- What is read off a grid: its columns, its accesses, its trap and, after `final`, the output.
use Rattle.std.specs.Prelude.{ℕ, zero, suc, ℤ, pos, List, [], ◌∷◌, ◌++◌, Option, None, ◌+◌, map, is_some}
use Rattle.pipe_model.specs.declared.access.NodeAccess.{NodeAccess}
use Rattle.pipe_model.specs.declared.column.Column.{Column}
use Rattle.pipe_model.specs.declared.column.ColumnEnd.{ColumnEnd}
use Rattle.pipe_model.specs.declared.node.Kind.{Kind}
use Rattle.pipe_model.specs.declared.node.Node.{Node}
use Rattle.pipe_model.specs.declared.node.Kind.TheVariants.{Zero, Wait}
use Rattle.pipe_model.specs.declared.trap.TrapAt.{TrapAt}
use Rattle.pipe_model.specs.declared.trap.TrapPlace.TheVariants.{At, Last}
use Rattle.pipe_model.specs.Language.Programs.{store_of}
use Rattle.pipe_model.specs.Language.ProgramsOfTrees.{whole_of}
use Rattle.pipe_model.specs.Language.SyntaxTree.{SyntaxTree}
use Rattle.pipe_model.specs.Pipelines.Behaviour.{Action, accesses_in, node_of, trace_end}
use Rattle.pipe_model.specs.Pipelines.ElisionResults.{first_of_both}
use Rattle.pipe_model.specs.Pipelines.SerialElision.{serial_trace, located, unless}
use Rattle.pipe_model.specs.Pipelines.Store.{output_of}
use Rattle.pipe_model.specs.Pipelines.WholePrograms.{init_accesses, init_trap, part_trap}
use Rattle.pipe_model.specs.Races.Columns.{at}
use Rattle.pipe_model.specs.Runs.State.{accesses_of}
use Rattle.wave_laws.specs.Waves.Grid.{grid}

-- ---- columns

abbrev pub kind_in_row : ℕ → Kind
kind_in_row zero = Zero
kind_in_row (suc r) = Wait

-- one instance for each point, from row r on; its number is the row
abbrev pub point_nodes : ℕ → List (List Action) → List Node
point_nodes r [] = []
point_nodes r (t ∷ ts) = node_of (kind_in_row r) (pos r) ∷ point_nodes (r + 1) ts

-- the end of the last point
abbrev pub points_end : List (List Action) → Option ColumnEnd
points_end [] = None
points_end (t ∷ []) = trace_end t
points_end (t ∷ (u ∷ us)) = points_end (u ∷ us)

abbrev pub column_of_points : List (List Action) → Column
column_of_points points = record { nodes = point_nodes 0 points; end = points_end points }

abbrev pub grid_columns : SyntaxTree → List ℤ → List Column
grid_columns tree input = map column_of_points (grid tree input)

-- the instances of the columns
abbrev pub grid_nodes : SyntaxTree → List ℤ → List (List Node)
grid_nodes tree input = map (λ (column : Column). column.nodes) (grid_columns tree input)

-- ---- accesses

-- the accesses of the points of column c, from row r on, with their instances
abbrev pub located_points : (c r : ℕ) → List (List Action) → List NodeAccess
located_points c r [] = []
located_points c r (t ∷ ts) = located c r t ++ located_points c (r + 1) ts

abbrev pub located_columns : ℕ → List (List (List Action)) → List NodeAccess
located_columns c [] = []
located_columns c (points ∷ more) = located_points c 0 points ++ located_columns (c + 1) more

abbrev pub grid_accesses : SyntaxTree → List ℤ → List NodeAccess
grid_accesses tree input = located_columns 0 (grid tree input)

-- ---- trap and output

-- the trap of a column, from row r on
abbrev pub points_trap : (c r : ℕ) → List (List Action) → Option TrapAt
points_trap c r [] = None
points_trap c r (t ∷ ts) = first_of_both (part_trap (At (at c r) (pos r)) (trace_end t)) (points_trap c (r + 1) ts)

-- the trap of the first column that trapped, from column c on
abbrev pub columns_trap : ℕ → List (List (List Action)) → Option TrapAt
columns_trap c [] = None
columns_trap c (points ∷ more) = first_of_both (points_trap c 0 points) (columns_trap (c + 1) more)

-- the trap of `init`, or else of the grid
abbrev pub trap_before_final : SyntaxTree → List ℤ → Option TrapAt
trap_before_final tree input = first_of_both (init_trap (whole_of tree input)) (columns_trap 0 (grid tree input))

-- the trace of `final`, which does not run after a trap
abbrev pub grid_final : SyntaxTree → List ℤ → List Action
grid_final tree input = unless (is_some (trap_before_final tree input))
    (serial_trace (store_of tree) (whole_of tree input).last
    (init_accesses (whole_of tree input) ++ accesses_of (grid_accesses tree input)))

abbrev pub grid_output : SyntaxTree → List ℤ → List ℤ
grid_output tree input = output_of (store_of tree)
    (init_accesses (whole_of tree input) ++ (accesses_of (grid_accesses tree input) ++ accesses_in (grid_final tree input)))

abbrev pub grid_trap : SyntaxTree → List ℤ → Option TrapAt
grid_trap tree input = first_of_both (trap_before_final tree input) (part_trap Last (trace_end (grid_final tree input)))
