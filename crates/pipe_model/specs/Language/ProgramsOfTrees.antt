-- The whole program of a syntax tree and its input numbers: `init` and `final` are one instance each, with a budget of their own.
use Rattle.std.specs.Prelude.{ℤ, List}
use Rattle.pipe_model.specs.declared.column.ColumnEnd.{ColumnEnd}
use Rattle.pipe_model.specs.declared.column.ColumnEnd.TheVariants as ends
use Rattle.pipe_model.specs.Pipelines.Behaviour.{Behaviour}
use Rattle.pipe_model.specs.Language.Evaluation.{Setting, execute_all, first_environment}
use Rattle.pipe_model.specs.Language.Interaction.{Interaction, Return, bind, with_budget}
use Rattle.pipe_model.specs.Pipelines.Pipeline.{Pipeline}
use Rattle.pipe_model.specs.Language.Programs.{natural, pipeline_of, setting_of}
use Rattle.pipe_model.specs.Language.SyntaxTree.{Statements, SyntaxTree}
use Rattle.pipe_model.specs.Pipelines.WholePrograms.{WholeProgram, loop_after_init}

-- the statements of `init` or `final`, which begin without locals
abbrev pub execute_part : Setting → Statements → Interaction ColumnEnd
execute_part setting statements = bind (execute_all setting statements first_environment) (λ env. Return ends.End)

-- the behaviour of `init` or `final`. The iteration number 0 is never read: the checker rejects `iter()` there.
abbrev pub part_of : SyntaxTree → List ℤ → Statements → Behaviour
part_of tree input statements = with_budget (natural tree.limits.steps) (natural tree.limits.steps)
    (execute_part (setting_of tree input 0) statements)

abbrev pub whole_of : SyntaxTree → List ℤ → WholeProgram
whole_of tree input = record {
  init = part_of tree input tree.init;
  loop = pipeline_of tree input;
  last = part_of tree input tree.last;
}

-- the loop of the program, preceded by the accesses of `init`
abbrev pub pipeline_after_init : SyntaxTree → List ℤ → Pipeline
pipeline_after_init tree input = loop_after_init (whole_of tree input)
