-- The steps that the stage instances of the serial elision take. They are counted along interaction trees, since a behaviour has no steps.
use Rattle.std.specs.Prelude.{ℕ, ℤ, zero, suc, List, [], ◌∷◌, ◌++◌, ◌+◌, ◌-◌, map, pos}
use Rattle.pipe_model.specs.declared.access.Access.{Access}
use Rattle.pipe_model.specs.declared.column.ColumnEnd.{ColumnEnd}
use Rattle.pipe_model.specs.Language.Interaction.{Interaction, Return, Raise, Step, Get, Set, Stage}
use Rattle.pipe_model.specs.Language.Programs.{natural, store_of}
use Rattle.pipe_model.specs.Language.ProgramsOfTrees.{whole_of}
use Rattle.pipe_model.specs.Language.SyntaxTree.{SyntaxTree}
use Rattle.pipe_model.specs.Pipelines.Behaviour.{Action, accesses_in, read_access, write_access}
use Rattle.pipe_model.specs.Pipelines.Store.{InitialStore, value_after}
use Rattle.pipe_model.specs.Pipelines.WholePrograms.{init_accesses, loop_traces}
use Rattle.stage_code.specs.declared.instr.Part.TheVariants as parts
use Rattle.stage_interp.specs.TreeRuns.{interaction_in}

-- the steps of each instance of a tree. Each read returns what the accesses before it leave in the cell. The first instance has `left` of
-- its budget of steps left; each later one has the whole budget.
abbrev pub step_counts : InitialStore → List Access → ℕ → ℕ → Interaction ColumnEnd → List ℕ
step_counts store before budget left (Return e) = (budget - left) ∷ []
step_counts store before budget left (Raise t) = (budget - left) ∷ []
step_counts store before budget zero (Step d) = budget ∷ []
step_counts store before budget (suc n) (Step d) = step_counts store before budget n d
step_counts store before budget left (Get c go) =
    step_counts store (before ++ read_access c (value_after store before c) ∷ []) budget left (go (value_after store before c))
step_counts store before budget left (Set c v d) = step_counts store (before ++ write_access c v ∷ []) budget left d
step_counts store before budget left (Stage k n d) = (budget - left) ∷ step_counts store before budget budget d

-- the steps of each instance of iteration i after these accesses
abbrev pub iteration_steps : SyntaxTree → List ℤ → ℕ → List Access → List ℕ
iteration_steps tree input i before =
    step_counts (store_of tree) before (natural tree.limits.steps) (natural tree.limits.steps) (interaction_in tree input parts.Pipe i)

-- the steps of each instance of the iterations from i on, which have these traces
abbrev pub steps_from : SyntaxTree → List ℤ → ℕ → List Access → List (List Action) → List ℕ
steps_from tree input i before [] = []
steps_from tree input i before (trace ∷ rest) =
    iteration_steps tree input i before ++ steps_from tree input (i + 1) (before ++ accesses_in trace) rest

-- the steps of each instance of the program's serial elision, in column order; none if `init` traps
abbrev pub program_steps : SyntaxTree → List ℤ → List ℤ
program_steps tree input = map pos (steps_from tree input 0 (init_accesses (whole_of tree input)) (loop_traces (whole_of tree input)))
