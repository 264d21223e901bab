-- Programs access their own cells only: cell 0 is the input's cursor, cell 1 is the output, and the declared cells follow.
use Rattle.std.specs.Prelude.{◌<◌, ◌+◌, ℕ, ℤ, All, List}
use Rattle.pipe_model.specs.declared.access.Access.{Access as CellAccess}
use Rattle.pipe_model.specs.declared.event.Event.{Event}
use Rattle.pipe_model.specs.declared.event.Event.TheVariants.{Access, Advance, Begin, Enter, Finish, Stop}
use Rattle.pipe_model.specs.Language.CheckingRules.{BreaksNoRule, cell_total}
use Rattle.pipe_model.specs.Language.ProgramsOfTrees.{pipeline_after_init, whole_of}
use Rattle.pipe_model.specs.Language.SyntaxTree.{SyntaxTree}
use Rattle.pipe_model.specs.Pipelines.Behaviour.{Action, Behaviour, Ending, Performs, Reading, Staging, Writing, accesses_in}
use Rattle.pipe_model.specs.Pipelines.Pipeline.{Pipeline}
use Rattle.pipe_model.specs.Pipelines.WholePrograms.{WholeProgram, init_accesses}
use Rattle.pipe_model.specs.Runs.Run.{Run}
use Rattle.pipe_model.specs.Runs.State.{State}

-- the number of a program's cells
abbrev pub cell_count : SyntaxTree → ℕ
cell_count tree = cell_total tree.cells + 2

-- whatever is read, each access of the behaviour is to one of the first `cells` cells
abbrev pub AccessesBelow : ℕ → Behaviour → Type 0
AccessesBelow cells (Reading c go) = (c < cells) × ((v : ℤ) → AccessesBelow cells (go v))
AccessesBelow cells (Writing c v d) = (c < cells) × AccessesBelow cells d
AccessesBelow cells (Staging k n d) = AccessesBelow cells d
AccessesBelow cells (Ending e) = Unit {0}

-- each part of the program accesses the first `cells` cells only
pub record PartsAccessBelow (cells : ℕ) (w : WholeProgram) : Type 0 where
  pub init : AccessesBelow cells w.init
  pub loop : (i : ℕ) → AccessesBelow cells (w.loop.behaviour i)
  pub last : AccessesBelow cells w.last

-- each part of a program that breaks no rule accesses the program's cells only
abbrev pub ProgramsAccessTheirCells : Type 0
ProgramsAccessTheirCells = (tree : SyntaxTree) (input : List ℤ) → BreaksNoRule tree → PartsAccessBelow (cell_count tree)
    (whole_of tree input)

-- the access is to one of the first `cells` cells
abbrev pub IsBelow : ℕ → CellAccess → Type 0
IsBelow cells a = a.cell.0 < cells

-- the event, if it is an access, is one to the first `cells` cells
abbrev pub IsInside : ℕ → Event → Type 0
IsInside cells (Begin i) = Unit {0}
IsInside cells (Access i a) = IsBelow cells a
IsInside cells (Advance i k n) = Unit {0}
IsInside cells (Enter i) = Unit {0}
IsInside cells (Finish i e) = Unit {0}
IsInside cells Stop = Unit {0}

-- what such a behaviour performs accesses these cells only
abbrev pub ActionsAccessBelow : Type 0
ActionsAccessBelow =
    (cells : ℕ) (d : Behaviour) (actions : List Action) → AccessesBelow cells d → Performs d actions
    → All (IsBelow cells) (accesses_in actions)

-- the accesses of `init` are to the program's cells
abbrev pub InitAccessesItsCells : Type 0
InitAccessesItsCells = (tree : SyntaxTree) (input : List ℤ) → BreaksNoRule tree → All (IsBelow (cell_count tree))
    (init_accesses (whole_of tree input))

-- the accesses of a run are to the cells that its iterations access
abbrev pub RunsAccessBelow : Type 0
RunsAccessBelow =
    (p : Pipeline) (limit cells : ℕ) (events : List Event) (s : State) → ((i : ℕ) → AccessesBelow cells (p.behaviour i))
    → Run p limit events s
    → All (IsInside cells) events

-- the accesses of a run of a program that breaks no rule are to the program's cells
abbrev pub ProgramRunsAccessTheirCells : Type 0
ProgramRunsAccessTheirCells =
    (tree : SyntaxTree) (input : List ℤ) (limit : ℕ) (events : List Event) (s : State) → BreaksNoRule tree
    → Run (pipeline_after_init tree input) limit events s → All (IsInside (cell_count tree)) events
