-- Worked examples of the canonical text.
use Rattle.std.specs.Prelude.{◌≡◌, pos, List, [], ◌∷◌, ◌++◌, None, map, ℕ, codes}
use Rattle.pipe_model.specs.declared.tree.StageKind.TheVariants as kinds
use Rattle.pipe_model.specs.declared.tree.Declaration.{Declaration}
use Rattle.pipe_model.specs.Language.CanonicalText.{expression_text, statement_text}
use Rattle.pipe_model.specs.Language.SyntaxTree.{Expression, Number, Name, Element, And, Or, Binary, Unary, More, Take, Iter, Let, Assign}
use Rattle.pipe_model.specs.Language.SyntaxTree.{Emit, If, While, Stage, Empty, Then, SyntaxTree}

-- an expression and its text
pub record FormatExample : Type 0 where
  pub expression : Expression
  pub text : List ℕ

-- each expression has the text of its example
abbrev pub HaveTexts : List FormatExample → Type 0
HaveTexts examples = map (λ example. expression_text example.expression) examples ≡ map (λ example. example.text) examples

-- an example, by its parts
abbrev example : Expression → List ℕ → FormatExample
example e text = record { expression = e; text = text }

-- the names of the examples
abbrev a : Expression
a = Name (codes "a")

abbrev b : Expression
b = Name (codes "b")

abbrev c : Expression
c = Name (codes "c")

-- round brackets only where the tree needs them
abbrev pub brackets : List FormatExample
brackets =
    example (Binary 11 (Binary 9 a b) c) (codes "(a + b) * c")
    ∷ example (Binary 10 a (Binary 10 b c)) (codes "a - (b - c)")
    ∷ example (Binary 10 (Binary 10 a b) c) (codes "a - b - c")
    ∷ example (Or a (And b c)) (codes "a || b && c")
    ∷ example (And (Or a b) c) (codes "(a || b) && c")
    ∷ example (Binary 3 (Binary 5 a b) c) (codes "a < b == c")
    ∷ example (Binary 5 a (Binary 3 b c)) (codes "a < (b == c)")
    ∷ example (Binary 9 (Binary 11 a b) (Binary 11 (Binary 9 c a) b)) (codes "a * b + (c + a) * b")
    ∷ []

-- unary operators, elements and calls
abbrev pub operands : List FormatExample
operands =
    example (Unary 1 (Unary 1 a)) (codes "--a")
    ∷ example (Unary 1 (Binary 9 a b)) (codes "-(a + b)")
    ∷ example (Unary 2 (Binary 3 a b)) (codes "!(a == b)")
    ∷ example (Binary 11 (Unary 2 (Unary 1 a)) b) (codes "!-a * b")
    ∷ example (Unary 2 (Element (codes "c") (Binary 9 a b))) (codes "!c[a + b]")
    ∷ example (Binary 9 Take Iter) (codes "take() + iter()")
    ∷ example More (codes "more()")
    ∷ []

-- the lines of a block are indented by two more spaces, and an empty `else` part is omitted
abbrev pub BlocksAreIndented : Type 0
BlocksAreIndented =
    statement_text 2 (If a (Then (While (Element (codes "b") c) Empty) Empty) Empty) ≡ codes "  if (a) {\n    while (b[c]) {\n    }\n  }\n"

-- a loop alone
abbrev pub bare_loop : SyntaxTree
bare_loop = record {
  limits = record { iterations = pos 1; stages = pos 2; steps = pos 3; emits = pos 0 };
  cells = [];
  init = Empty;
  test = Number (pos 0);
  body = Empty;
  last = Empty;
}

-- and its text
abbrev pub bare_loop_text : List ℕ
bare_loop_text = codes "limits iterations 1, stages 2, steps 3, emits 0;\npipe_while (0) {\n}\n"

-- a plain cell with the value 0
abbrev cell : List ℕ → Declaration
cell name = record { name = name; size = None; value = pos 0 }

-- sums in a second stage
abbrev pub sums : SyntaxTree
sums = record {
  limits = record { iterations = pos 8; stages = pos 4; steps = pos 100; emits = pos 8 };
  cells = cell (codes "a") ∷ cell (codes "b") ∷ [];
  init = Empty;
  test = Binary 5 a (Number (pos 3));
  body = Then (Assign (codes "a") (Binary 9 a (Number (pos 1)))) (Then (Let (codes "c") a) (Then (Stage kinds.Wait (Number (pos 1)))
      (Then (Assign (codes "b") (Binary 9 b c)) (Then (Emit b) Empty))));
  last = Empty;
}

-- and their text
abbrev pub sums_text : List ℕ
sums_text =
    codes "limits iterations 8, stages 4, steps 100, emits 8;\ncell a = 0;\ncell b = 0;\n"
    ++ codes "pipe_while (a < 3) {\n  a = a + 1;\n  let c = a;\n  pipe_wait(1);\n  b = b + c;\n  emit b;\n}\n"
