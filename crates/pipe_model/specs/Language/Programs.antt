-- The loop of a program as a pipeline, from its tree and its input.
use Rattle.std.specs.Prelude.{ℕ, ℤ, pos, negsuc, List, [], ◌∷◌, ◌++◌, Option, Some, None, ◌+◌, ◌*◌, if◌then◌else◌, replicate}
use Rattle.std.specs.Str.{bytes_eq}
use Rattle.pipe_model.specs.declared.tree.Declaration.{Declaration}
use Rattle.pipe_model.specs.Language.Evaluation.{CellRange, Setting, run_iteration}
use Rattle.pipe_model.specs.Language.Interaction.{with_budget}
use Rattle.pipe_model.specs.Pipelines.Pipeline.{Pipeline}
use Rattle.pipe_model.specs.Pipelines.Store.{InitialStore}
use Rattle.pipe_model.specs.Language.SyntaxTree.{SyntaxTree}

-- the number, or 0 if it is negative
abbrev pub natural : ℤ → ℕ
natural (pos n) = n
natural (negsuc n) = 0

-- the number of cells of a declaration with this size
abbrev pub declared_size : Option ℤ → ℕ
declared_size None = 1
declared_size (Some n) = natural n

-- the declared values, cell after cell
abbrev pub declared_values : List Declaration → List ℤ
declared_values [] = []
declared_values (d ∷ ds) = replicate (declared_size d.size) d.value ++ declared_values ds

-- the cells of a name; the cells of the first declaration begin at `next`
abbrev pub range_of : ℕ → List Declaration → List ℕ → Option CellRange
range_of next [] x = None
range_of next (d ∷ ds) x = if bytes_eq d.name x then Some (record { first = next; size = declared_size d.size }) else range_of
    (next + declared_size d.size) ds x

-- the setting of iteration i; `turns` is more than any of its loops can make, since each turn takes a step of an instance's budget
abbrev pub setting_of : SyntaxTree → List ℤ → ℕ → Setting
setting_of tree input i = record {
  cells = range_of 2 tree.cells;
  turns = natural tree.limits.stages * (natural tree.limits.steps + 1);
  world = record {
    input = input;
    iteration = i;
    iterations = tree.limits.iterations;
    stages = natural tree.limits.stages;
    emits = natural tree.limits.emits;
  };
}

-- the store before the first access: the input's cursor and the number of outputs are 0, and the declared cells follow
abbrev pub store_of : SyntaxTree → InitialStore
store_of tree = record {
  values = pos 0 ∷ pos 0 ∷ declared_values tree.cells;
  output_limit = natural tree.limits.emits;
}

-- the loop of a program alone, without `init` and `final` (`whole_of` has all three): each instance has its budget of steps, and the
-- iteration after the last that is allowed closes the loop
abbrev pub pipeline_of : SyntaxTree → List ℤ → Pipeline
pipeline_of tree input = record {
  store = store_of tree;
  preamble = [];
  behaviour = λ i. with_budget (natural tree.limits.steps) (natural tree.limits.steps)
      (run_iteration (setting_of tree input i) tree.test tree.body);
  last_iteration = natural tree.limits.iterations;
}
