-- The program of a generated source.
use Rattle.std.specs.Prelude.{◌≤◌, ℕ, pos, List, [], ◌∷◌, None, codes}
use Rattle.pipe_model.specs.declared.operator_codes.TheConstants.{PLUS, REMAINDER, TIMES}
use Rattle.pipe_model.specs.declared.tree.StageKind.TheVariants as kinds
use Rattle.pipe_model.specs.Language.Grammar.{declaration}
use Rattle.pipe_model.specs.Language.SourceRefusals.{IsAccepted}
use Rattle.pipe_model.specs.Language.SyntaxTree.{Expression, Number, Name, Binary, More, Take, Statement, Statements, Empty, Then, Let}
use Rattle.pipe_model.specs.Language.SyntaxTree.{Assign, Emit, Stage, SyntaxTree}
use Rattle.pipe_gen.specs.Workload.{source_text}
use Rattle.pipe_gen.specs.declared.workload.TheConstants.{MOST_SIZE}

-- the names of the source
abbrev pub x : List ℕ
x = codes "x"

abbrev pub a : List ℕ
a = codes "a"

abbrev pub sum : List ℕ
sum = codes "sum"

-- its expressions and statements
abbrev number : ℕ → Expression
number n = Number (pos n)

abbrev plus : Expression → Expression → Expression
plus e f = Binary PLUS e f

abbrev times : Expression → Expression → Expression
times e f = Binary TIMES e f

abbrev remainder : Expression → Expression → Expression
remainder e f = Binary REMAINDER e f

abbrev continue_at : ℕ → Statement
continue_at n = Stage kinds.Continue (number n)

-- the statements of the loop
abbrev pub generated_body : Statements
generated_body =
    Then (Let x Take)
    (Then (continue_at 1)
    (Then (Let a (plus (times (Name x) (number 3)) (number 1)))
    (Then (continue_at 2)
    (Then (Assign a (remainder (Name a) (number 1024)))
    (Then (continue_at 3)
    (Then (Assign a (times (Name a) (Name a)))
    (Then (continue_at 4)
    (Then (Assign a (remainder (Name a) (number 1000)))
    (Then (Stage kinds.Wait (number 5))
    (Then (Assign sum (plus (Name sum) (Name a)))
    (Then (Emit (Name sum)) Empty)))))))))))

-- the program of the source of this size
abbrev pub generated_tree : ℕ → SyntaxTree
generated_tree size = record {
  limits = record { iterations = pos size; stages = pos 6; steps = pos 100; emits = pos size };
  cells = declaration sum None (pos 0) ∷ [];
  init = Empty;
  test = More;
  body = generated_body;
  last = Empty;
}

-- each generated source is accepted, as its program
abbrev pub GeneratedSourcesAreAccepted : Type 0
GeneratedSourcesAreAccepted = (size : ℕ) → 1 ≤ size → size ≤ MOST_SIZE → IsAccepted (source_text size) (generated_tree size)
