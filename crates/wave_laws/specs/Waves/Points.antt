-- A point of a grid: the body of a wave loop in one column and one row.
use Rattle.std.specs.Prelude.{ℕ, zero, suc, ℤ, pos, List, [], ◌∷◌, Bool, true, false, Option, Some, None, ◌+◌, if◌then◌else◌, nat_lt}
use Rattle.pipe_model.specs.declared.access.Access.{Access}
use Rattle.pipe_model.specs.declared.column.ColumnEnd.{ColumnEnd}
use Rattle.pipe_model.specs.declared.column.ColumnEnd.TheVariants as ends
use Rattle.pipe_model.specs.Language.Evaluation.{Setting, Environment, execute_all}
use Rattle.pipe_model.specs.Language.Interaction.{Interaction, Return, Step, bind, with_budget}
use Rattle.pipe_model.specs.Language.Programs.{natural, setting_of, store_of}
use Rattle.pipe_model.specs.Language.SyntaxTree.{Statements, SyntaxTree}
use Rattle.pipe_model.specs.Pipelines.Behaviour.{Action}
use Rattle.pipe_model.specs.Pipelines.SerialElision.{serial_trace}
use Rattle.wave_laws.specs.Waves.WaveLoops.{row, rest_of}

-- takes n steps, and then goes on
abbrev pub steps : {A : Type 0} → ℕ → Interaction A → Interaction A
steps zero d = d
steps (suc n) d = Step (steps n d)

-- The environment at the beginning of row r: `row` is r, and the instance has the number r, after r others. No statement of a point
-- reads the instance.
abbrev pub at_row : ℕ → Environment
at_row r = record { locals = record { name = row; value = pos r } ∷ []; stage = record { number = pos r; count = r + 1 } }

-- the steps of a point before its statements
abbrev pub steps_before : ℕ → ℕ
steps_before zero = 19
steps_before (suc r) = 4

-- the steps of a point after its statements: more if another row follows
abbrev pub steps_after : (rows r : ℕ) → ℕ
steps_after rows r = if nat_lt (r + 1) rows then 9 else 4

-- what the point in row r does
abbrev pub point : Setting → Statements → (rows r : ℕ) → Interaction ColumnEnd
point setting rest rows r =
    bind (steps (steps_before r) (execute_all setting rest (at_row r))) (λ env. steps (steps_after rows r) (Return ends.End))

-- the trace of the point in column c and row r after these accesses; it has the budget of an instance
abbrev pub point_trace : SyntaxTree → List ℤ → (c r : ℕ) → List Access → List Action
point_trace tree input c r before =
    serial_trace (store_of tree) (with_budget (natural tree.limits.steps) (natural tree.limits.steps)
    (point (setting_of tree input c) (rest_of tree.body) (natural tree.limits.stages) r)) before

-- the end is a trap
abbrev pub is_trap : Option ColumnEnd → Bool
is_trap None = false
is_trap (Some ends.End) = false
is_trap (Some ends.Closed) = false
is_trap (Some (ends.Trapped t)) = true
