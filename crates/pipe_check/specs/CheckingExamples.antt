-- Worked examples: programs with their faults, in which the numbers of the marks are counted by hand.
use Rattle.std.specs.Prelude.{◌≡◌, ℕ, zero, suc, pos, List, [], ◌∷◌, ◌++◌, Option, Some, None, map, codes}
use Rattle.pipe_model.specs.declared.tree.StageKind.TheVariants as kinds
use Rattle.pipe_model.specs.declared.tree.Declaration.{Declaration}
use Rattle.pipe_model.specs.declared.tree.Limits.{Limits}
use Rattle.pipe_model.specs.Language.CheckingRules.{Fault, LimitOut, Broken, CheckingRule, Unknown, Twice, PipeOutside, TooManyCells}
use Rattle.pipe_model.specs.Language.CheckingRules.{TooManyLocals, NotAnArray, NeedsIndex, ZeroSize, fault_of}
use Rattle.pipe_model.specs.Language.SyntaxTree.{Expression, Number, Name, Element, Iter, Statement, Let, Assign, AssignElement, Emit, If}
use Rattle.pipe_model.specs.Language.SyntaxTree.{While, Stage, NextStage, Statements, Empty, Then, SyntaxTree}

-- a program, and its fault if it has one
pub record CheckingExample : Type 0 where
  pub program : SyntaxTree
  pub fault : Option Fault

-- each program has the fault that is given with it
abbrev pub HaveFaults : List CheckingExample → Type 0
HaveFaults examples = map (λ example. fault_of example.program) examples ≡ map (λ example. example.fault) examples

-- ---- how the examples are written

-- names
abbrev a : List ℕ
a = codes "a"

abbrev n : List ℕ
n = codes "n"

abbrev x : List ℕ
x = codes "x"

abbrev y : List ℕ
y = codes "y"

abbrev z : List ℕ
z = codes "z"

-- `cell name = 0;` and `cell name[size] = 0;`
abbrev plain : List ℕ → Declaration
plain name = record { name = name; size = None; value = pos 0 }

abbrev array : List ℕ → ℕ → Declaration
array name size = record { name = name; size = Some (pos size); value = pos 0 }

abbrev one : Expression
one = Number (pos 1)

-- statements in order
abbrev block : List Statement → Statements
block [] = Empty
block (s ∷ ss) = Then s (block ss)

abbrev limits : (iterations stages steps emits : ℕ) → Limits
limits iterations stages steps emits = record { iterations = pos iterations; stages = pos stages; steps = pos steps; emits = pos emits }

-- a program with these cells and this body
abbrev program : List Declaration → List Statement → SyntaxTree
program cells body = record { limits = limits 1 1 1 0; cells = cells; init = Empty; test = one; body = block body; last = Empty }

-- such a program with its fault
abbrev body : List Declaration → List Statement → Option Fault → CheckingExample
body cells ss fault = record { program = program cells ss; fault = fault }

-- a program with the cell n and the body `let x = 1; emit x;`, and these statements before the loop, this test, and these statements after
-- the loop
abbrev parts : List Statement → Expression → List Statement → Option Fault → CheckingExample
parts init test last fault = record {
  program = record {
    limits = limits 1 1 1 0;
    cells = plain n ∷ [];
    init = block init;
    test = test;
    body =
        block (Let x one ∷ Emit (Name x) ∷ []);
    last = block last;
  };
  fault = fault;
}

-- a program with these limits that also breaks a rule at mark 1
abbrev limited : Limits → Option Fault → CheckingExample
limited some fault = record {
  program = record { limits = some; cells = plain n ∷ []; init = Empty; test = one; body = block (Emit (Name x) ∷ []); last = Empty };
  fault = fault;
}

-- a mark with this number breaks the rule
abbrev broken : CheckingRule → ℕ → Option Fault
broken rule number = Some (Broken rule number)

-- `let` statements of this number, of different names
abbrev locals : ℕ → List Statement
locals zero = []
locals (suc k) = Let (k ∷ []) one ∷ locals k

-- ---- the examples

-- how names are used
abbrev pub uses : List CheckingExample
uses =
    body (plain n ∷ array a 2 ∷ []) (Let x Iter ∷ Assign n (Name x) ∷ AssignElement a (Number (pos 0)) (Name n) ∷ Stage kinds.Continue one
    ∷ Emit (Element a (Number (pos 0))) ∷ NextStage kinds.Wait ∷ []) None
    ∷ body (plain n ∷ []) (Emit (Name x) ∷ []) (broken Unknown 1)
    ∷ body (plain n ∷ []) (Emit (Element x one) ∷ []) (broken Unknown 1)
    ∷ body (plain n ∷ []) (Assign x (Name y) ∷ []) (broken Unknown 1)
    ∷ body (plain n ∷ []) (AssignElement x one (Name y) ∷ []) (broken Unknown 1)
    ∷ body (plain n ∷ []) (Let x (Name x) ∷ []) (broken Unknown 2)
    ∷ body (plain n ∷ []) (Emit (Element n one) ∷ []) (broken NotAnArray 1)
    ∷ body (plain n ∷ []) (AssignElement n one one ∷ []) (broken NotAnArray 1)
    ∷ body (plain n ∷ []) (Let x one ∷ Emit (Element x one) ∷ []) (broken NotAnArray 2)
    ∷ body (array a 2 ∷ []) (Emit (Name a) ∷ []) (broken NeedsIndex 1)
    ∷ body (array a 2 ∷ []) (Assign a one ∷ []) (broken NeedsIndex 1)
    ∷ []

-- how names are declared
abbrev pub declarations : List CheckingExample
declarations =
    body (plain n ∷ plain n ∷ []) [] (broken Twice 1)
    ∷ body (plain n ∷ []) (Let n one ∷ []) (broken Twice 1)
    ∷ body (plain n ∷ []) (Let x one ∷ Let x one ∷ []) (broken Twice 2)
    ∷ body (array a 65536 ∷ []) [] None
    ∷ body (plain n ∷ array a 65535 ∷ []) [] None
    ∷ body (array a 65537 ∷ []) [] (broken TooManyCells 0)
    ∷ body (array a 65536 ∷ plain n ∷ []) [] (broken TooManyCells 1)
    ∷ body (plain n ∷ array a 9223372036854775807 ∷ []) [] (broken TooManyCells 1)
    ∷ body (plain n ∷ array a 0 ∷ []) [] (broken ZeroSize 1)
    ∷ body (array a 65536 ∷ array a 2 ∷ []) [] (broken Twice 1)
    ∷ body (array a 2 ∷ array a 0 ∷ []) [] (broken Twice 1)
    ∷ body (plain n ∷ []) (locals 64) None
    ∷ body (plain n ∷ []) (locals 65) (broken TooManyLocals 65)
    ∷ body (plain n ∷ []) (locals 64 ++ Let n one ∷ []) (broken Twice 65)
    ∷ []

-- what may be used in which region
abbrev pub regions : List CheckingExample
regions =
    parts (Let x one ∷ []) Iter (Let x one ∷ []) None
    ∷ parts (Let x one ∷ []) (Name x) [] (broken Unknown 2)
    ∷ parts (Emit Iter ∷ []) one [] (broken PipeOutside 1)
    ∷ parts (Stage kinds.Wait (Name x) ∷ []) one [] (broken PipeOutside 1)
    ∷ parts [] one (Emit Iter ∷ []) (broken PipeOutside 3)
    ∷ parts [] one (NextStage kinds.Continue ∷ []) (broken PipeOutside 3)
    ∷ parts [] one (Emit (Name x) ∷ []) (broken Unknown 3)
    ∷ []

-- where locals of blocks are in scope, and that their names stay taken
abbrev pub scopes : List CheckingExample
scopes =
    body (plain n ∷ []) (Let x one ∷ If one (block (Emit (Name x) ∷ Let y one ∷ Emit (Name y) ∷ []))
    (block (Emit (Name x) ∷ Let z one ∷ []))
    ∷ Emit (Name x) ∷ []) None
    ∷ body (plain n ∷ []) (If one (block (Let x one ∷ Emit (Name x) ∷ [])) Empty ∷ Emit (Name x) ∷ []) (broken Unknown 3)
    ∷ body (plain n ∷ []) (If one (block (Let x one ∷ [])) (block (Emit (Name x) ∷ [])) ∷ []) (broken Unknown 2)
    ∷ body (plain n ∷ []) (If one (block (Let x one ∷ [])) (block (Let x one ∷ [])) ∷ []) (broken Twice 2)
    ∷ body (plain n ∷ []) (While one (block (Let x one ∷ Stage kinds.Wait (Name x) ∷ [])) ∷ Emit (Name x) ∷ []) (broken Unknown 4)
    ∷ body (plain n ∷ []) (While one (block (Let x one ∷ [])) ∷ Let x one ∷ []) (broken Twice 2)
    ∷ []

-- the ranges of limits
abbrev pub ranges : List CheckingExample
ranges =
    limited (limits 65536 4 1000000 1048576) (broken Unknown 1)
    ∷ limited (limits 64 4096 1 0) (broken Unknown 1)
    ∷ limited (limits 0 0 0 1048577) (Some (LimitOut 1))
    ∷ limited (limits 65537 1 1 0) (Some (LimitOut 1))
    ∷ limited (limits 1 0 0 0) (Some (LimitOut 2))
    ∷ limited (limits 65536 4097 1 0) (Some (LimitOut 2))
    ∷ limited (limits 65536 5 0 0) (Some (LimitOut 3))
    ∷ limited (limits 1 1 0 1048577) (Some (LimitOut 4))
    ∷ limited (limits 1 1 1000001 0) (Some (LimitOut 4))
    ∷ limited (limits 1 1 1 1048577) (Some (LimitOut 5))
    ∷ []
