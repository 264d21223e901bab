-- Work, span and the heaviest path of a program's serial elision, and the lines that `span` prints of them.
use Rattle.std.specs.Prelude.{◌≡◌, ℕ, ℤ, List, ◌++◌, codes}
use Rattle.std.specs.Fmt.{signed_decimal}
use Rattle.std.specs.List.{flat_map}
use Rattle.pipe_model.specs.declared.node.Node.{Node}
use Rattle.pipe_model.specs.declared.node.NodeId.{NodeId}
use Rattle.pipe_model.specs.Language.SyntaxTree.{SyntaxTree}
use Rattle.pipe_model.specs.Races.Reports.{number_at}
use Rattle.pipe_model.specs.Texts.{instance_text}
use Rattle.pipe_span.specs.declared.heaviest.Span.{Span}
use Rattle.pipe_span.specs.WorkAndSpan.{IsWorkAndSpan}
use Rattle.serial_elision.specs.ElisionSteps.{program_steps}
use Rattle.command_results.specs.SerialResults.{elision_columns}

-- the line of an instance: its iteration and its stage number
abbrev pub instance_line : List (List Node) → NodeId → List ℕ
instance_line columns x = instance_text x (number_at columns x) ++ codes "\n"

-- the lines of work, span and the instances of the heaviest path, the first instance first
abbrev pub span_text : List (List Node) → Span → List ℕ
span_text columns s =
    codes "work " ++ (signed_decimal s.work ++ (codes "\nspan "
    ++ (signed_decimal s.span ++ (codes "\n" ++ flat_map (instance_line columns) s.path))))

-- the text has the work, the span and the heaviest path of the program's serial elision. The weight of an instance is its number of steps
pub record IsSpanText (tree : SyntaxTree) (input : List ℤ) (text : List ℕ) : Type 0 where
  pub found : Span
  pub heaviest : IsWorkAndSpan (elision_columns tree input) (program_steps tree input) found
  pub text_is : text ≡ span_text (elision_columns tree input) found
