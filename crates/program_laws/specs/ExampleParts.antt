-- What the worked examples of programs share: expressions, limits, and the outcome of a program.
use Rattle.std.specs.Prelude.{◌≡◌, ℕ, ℤ, pos, List, [], ◌∷◌, Option, Some, None, codes}
use Rattle.pipe_model.specs.declared.trap.Trap.{Trap}
use Rattle.pipe_model.specs.declared.trap.TrapAt.{TrapAt}
use Rattle.pipe_model.specs.declared.trap.TrapPlace.TheVariants.{At, Init, Last}
use Rattle.pipe_model.specs.declared.tree.Declaration.{Declaration}
use Rattle.pipe_model.specs.declared.tree.Limits.{Limits}
use Rattle.pipe_model.specs.Language.Grammar.{declaration}
use Rattle.pipe_model.specs.Language.ProgramsOfTrees.{whole_of}
use Rattle.pipe_model.specs.Language.SyntaxTree.{Expression, Number, Name, Binary, Unary, Assign, Emit, Statements, Empty, Then, SyntaxTree}
use Rattle.pipe_model.specs.Pipelines.WholePrograms.{program_output, program_trap}
use Rattle.pipe_model.specs.Races.Columns.{at}

-- names of one letter
abbrev pub a : List ℕ
a = codes "a"

abbrev pub c : List ℕ
c = codes "c"

abbrev pub k : List ℕ
k = codes "k"

abbrev pub n : List ℕ
n = codes "n"

abbrev pub s : List ℕ
s = codes "s"

abbrev pub t : List ℕ
t = codes "t"

-- the declaration of a plain cell
abbrev pub plain_cell : List ℕ → ℤ → Declaration
plain_cell name value = declaration name None value

abbrev pub number : ℕ → Expression
number m = Number (pos m)

-- operators
abbrev pub plus : Expression → Expression → Expression
plus x y = Binary 9 x y

abbrev pub less : Expression → Expression → Expression
less x y = Binary 5 x y

abbrev pub equal : Expression → Expression → Expression
equal x y = Binary 3 x y

abbrev pub unequal : Expression → Expression → Expression
unequal x y = Binary 4 x y

abbrev pub at_most : Expression → Expression → Expression
at_most x y = Binary 6 x y

abbrev pub greater_than : Expression → Expression → Expression
greater_than x y = Binary 7 x y

abbrev pub at_least : Expression → Expression → Expression
at_least x y = Binary 8 x y

abbrev pub difference : Expression → Expression → Expression
difference x y = Binary 10 x y

abbrev pub product : Expression → Expression → Expression
product x y = Binary 11 x y

abbrev pub quotient : Expression → Expression → Expression
quotient x y = Binary 12 x y

abbrev pub remainder : Expression → Expression → Expression
remainder x y = Binary 13 x y

abbrev pub negative : Expression → Expression
negative x = Unary 1 x

abbrev pub negation : Expression → Expression
negation x = Unary 2 x

-- 1 / 0, which traps when it is evaluated
abbrev pub failing : Expression
failing = quotient (number 1) (number 0)

abbrev pub limits_of : ℕ → ℕ → ℕ → ℕ → Limits
limits_of iterations stages steps emits = record { iterations = pos iterations; stages = pos stages; steps = pos steps; emits = pos emits }

-- x = x + 1;
abbrev pub count_up : List ℕ → Statements → Statements
count_up x rest = Then (Assign x (plus (Name x) (number 1))) rest

-- emits these values, then goes on with the rest
abbrev pub emit_all : List Expression → Statements → Statements
emit_all [] rest = rest
emit_all (e ∷ es) rest = Then (Emit e) (emit_all es rest)

-- limits iterations 1, stages 1, steps 400, emits 40; cell n = 0; cell a[3] = 5; pipe_while (0) { } final { .. }
abbrev pub computing : Statements → SyntaxTree
computing last = record {
  limits = limits_of 1 1 400 40;
  cells = plain_cell n (pos 0) ∷ declaration a (Some (pos 3)) (pos 5) ∷ [];
  init = Empty;
  test = number 0;
  body = Empty;
  last = last;
}

-- a trap in an instance, with its stage number
abbrev pub trap_at : Trap → ℕ → ℕ → ℤ → TrapAt
trap_at trap i k number = record { place = At (at i k) number; trap = trap }

abbrev pub trap_in_init : Trap → TrapAt
trap_in_init trap = record { place = Init; trap = trap }

abbrev pub trap_in_final : Trap → TrapAt
trap_in_final trap = record { place = Last; trap = trap }

-- on this input the program emits these numbers, and has this trap, if any
abbrev pub HasOutputAndTrap : SyntaxTree → List ℤ → List ℤ → Option TrapAt → Type 0
HasOutputAndTrap tree input output trap = (program_output (whole_of tree input) ≡ output) × (program_trap (whole_of tree input) ≡ trap)
