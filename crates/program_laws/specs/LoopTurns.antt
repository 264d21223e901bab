-- The bound on the turns of a `while` loop: the budget of steps ends each loop before the bound does.
use Rattle.std.specs.Prelude.{◌≡◌, ◌≤◌, ℕ, ℤ, List, ◌+◌, ◌*◌}
use Rattle.pipe_model.specs.Pipelines.Behaviour.{Behaviour}
use Rattle.pipe_model.specs.Language.Evaluation.{Setting, run_iteration}
use Rattle.pipe_model.specs.Language.Interaction.{with_budget}
use Rattle.pipe_model.specs.Language.Programs.{natural, pipeline_of, setting_of}
use Rattle.pipe_model.specs.Language.ProgramsOfTrees.{execute_part, part_of}
use Rattle.pipe_model.specs.Language.SyntaxTree.{Statements, SyntaxTree}

abbrev pub with_turns : ℕ → Setting → Setting
with_turns turns setting = record setting { turns = turns }

-- iteration i, with another bound on the turns of a loop
abbrev pub iteration_with : SyntaxTree → List ℤ → ℕ → ℕ → Behaviour
iteration_with tree input turns i =
    with_budget (natural tree.limits.steps) (natural tree.limits.steps)
    (run_iteration (with_turns turns (setting_of tree input i)) tree.test tree.body)

-- `init` or `final`, with another bound on the turns of a loop
abbrev pub part_with : SyntaxTree → List ℤ → ℕ → Statements → Behaviour
part_with tree input turns statements =
    with_budget (natural tree.limits.steps) (natural tree.limits.steps)
    (execute_part (with_turns turns (setting_of tree input 0)) statements)

-- an iteration is the same under every larger bound
abbrev pub MoreTurnsChangeNothing : Type 0
MoreTurnsChangeNothing =
    (tree : SyntaxTree) (input : List ℤ) (turns i : ℕ) → 1 ≤ natural tree.limits.stages
    → natural tree.limits.stages * (natural tree.limits.steps + 1) ≤ turns
    → iteration_with tree input turns i ≡ (pipeline_of tree input).behaviour i

-- the same for `init` and `final`
abbrev pub MoreTurnsChangeNoPart : Type 0
MoreTurnsChangeNoPart =
    (tree : SyntaxTree) (input : List ℤ) (turns : ℕ) (statements : Statements) → 1 ≤ natural tree.limits.stages
    → natural tree.limits.stages * (natural tree.limits.steps + 1) ≤ turns
    → part_with tree input turns statements ≡ part_of tree input statements
