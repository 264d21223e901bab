-- Worked examples of each form of expression, which the checker computes.
use Rattle.std.specs.Prelude.{ℤ, pos, negsuc, List, [], ◌∷◌, Some, None}
use Rattle.pipe_model.specs.declared.trap.Trap.{Trap}
use Rattle.pipe_model.specs.declared.trap.Trap.TheVariants as traps
use Rattle.pipe_model.specs.Language.SyntaxTree.{Expression, Name, Element, And, Or, More, Take, Iter, Let, Assign, AssignElement, Emit}
use Rattle.pipe_model.specs.Language.SyntaxTree.{Empty, Then, SyntaxTree}
use Rattle.program_laws.specs.ExampleParts.{n, t, plus, less, plain_cell, trap_at}
use Rattle.program_laws.specs.ExampleParts.{HasOutputAndTrap, a, at_least, at_most, computing, count_up, difference, emit_all, equal}
use Rattle.program_laws.specs.ExampleParts.{failing, greater_than, limits_of, negation, negative, number, product, quotient, remainder}
use Rattle.program_laws.specs.ExampleParts.{trap_in_final, unequal}

-- `final` emits the values
abbrev pub Emits : List Expression → List ℤ → Type 0
Emits values output = HasOutputAndTrap (computing (emit_all values Empty)) [] output None

-- `final` emits the values, and then traps in the next
abbrev pub EmitsAndTraps : List Expression → List ℤ → Trap → Type 0
EmitsAndTraps values output trap = HasOutputAndTrap (computing (emit_all values Empty)) [] output (Some (trap_in_final trap))

-- the greatest i64, and the least
abbrev pub greatest_number : Expression
greatest_number = number 9223372036854775807

abbrev pub least_number : Expression
least_number = difference (negative greatest_number) (number 1)

-- let t = 4; emit 0; emit the greatest number; emit t; emit n; n = 6; emit n;
abbrev pub NamesAreRead : Type 0
NamesAreRead =
    HasOutputAndTrap (computing (Then (Let t (number 4)) (emit_all (number 0 ∷ greatest_number ∷ Name t ∷ Name n ∷ [])
    (Then (Assign n (number 6)) (Then (Emit (Name n)) Empty))))) []
    (pos 0 ∷ pos 9223372036854775807 ∷ pos 4 ∷ pos 0 ∷ pos 6 ∷ []) None

-- a[1] = 7; n = 2; then elements by a number, by a cell and by a negative index
abbrev pub ArraysAreRead : Type 0
ArraysAreRead =
    HasOutputAndTrap (computing (Then (AssignElement a (number 1) (number 7)) (Then (Assign n (number 2))
    (emit_all (Element a (number 0) ∷ Element a (number 1) ∷ Element a (Name n) ∷ Element a (negative (number 1)) ∷ []) Empty)))) []
    (pos 5 ∷ pos 7 ∷ pos 5 ∷ []) (Some (trap_in_final traps.Index))
    × EmitsAndTraps (Element a (number 2) ∷ Element a (number 3) ∷ []) (pos 5 ∷ []) traps.Index

-- each comparison, with operands for which it holds and operands for which it does not
abbrev pub ComparisonsCompute : Type 0
ComparisonsCompute =
    Emits (equal (number 2) (number 2) ∷ equal (number 2) (number 3) ∷ unequal (number 2) (number 3) ∷ unequal (number 2) (number 2) ∷ [])
    (pos 1 ∷ pos 0 ∷ pos 1 ∷ pos 0 ∷ [])
    × Emits (less (negative (number 1)) (number 0) ∷ less (number 3) (number 3) ∷ at_most (number 3) (number 3) ∷ at_most (number 3)
    (number 2)
    ∷ []) (pos 1 ∷ pos 0 ∷ pos 1 ∷ pos 0 ∷ [])
    × Emits (greater_than (number 3) (number 2) ∷ greater_than (number 3) (number 3) ∷ at_least (number 3) (number 3) ∷ at_least
    (negative (number 3)) (number 3) ∷ [])
    (pos 1 ∷ pos 0 ∷ pos 1 ∷ pos 0 ∷ [])

-- sum, difference and product; quotients are rounded towards 0, and a remainder has the sign of the dividend; negative and `!`
abbrev pub ArithmeticComputes : Type 0
ArithmeticComputes =
    Emits (plus (number 2) (negative (number 5)) ∷ difference (number 2) (number 5) ∷ product (negative (number 2)) (number 3) ∷ [])
    (negsuc 2 ∷ negsuc 2 ∷ negsuc 5 ∷ [])
    × Emits (quotient (negative (number 7)) (number 2) ∷ remainder (negative (number 7)) (number 2) ∷ quotient (number 7)
    (negative (number 2))
    ∷ remainder (number 7) (negative (number 2)) ∷ [])
    (negsuc 2 ∷ negsuc 0 ∷ negsuc 2 ∷ pos 1 ∷ [])
    × Emits (negative (number 4) ∷ negation (number 4) ∷ negation (number 0) ∷ []) (negsuc 3 ∷ pos 0 ∷ pos 1 ∷ [])

-- a result that is no i64; among them are the quotient and the remainder of the least number and -1
abbrev pub ResultsOverflow : Type 0
ResultsOverflow =
    EmitsAndTraps (plus greatest_number (number 1) ∷ []) [] traps.Overflow
    × EmitsAndTraps (least_number ∷ difference least_number (number 1) ∷ []) (negsuc 9223372036854775807 ∷ []) traps.Overflow
    × EmitsAndTraps (product greatest_number (number 2) ∷ []) [] traps.Overflow
    × EmitsAndTraps (quotient least_number (negative (number 1)) ∷ []) [] traps.Overflow
    × EmitsAndTraps (remainder least_number (negative (number 1)) ∷ []) [] traps.Overflow
    × EmitsAndTraps (negative least_number ∷ []) [] traps.Overflow

abbrev pub DivisorsAreNotZero : Type 0
DivisorsAreNotZero = EmitsAndTraps (failing ∷ []) [] traps.DivZero × EmitsAndTraps (remainder (number 1) (number 0) ∷ []) [] traps.DivZero

-- the right side of && and || is not evaluated if the left side decides; otherwise the result is 0 or 1
abbrev pub RightSidesAreLeftOut : Type 0
RightSidesAreLeftOut =
    Emits (And (number 0) failing ∷ And (number 2) (number 3) ∷ And (number 2) (number 0) ∷ []) (pos 0 ∷ pos 1 ∷ pos 0 ∷ [])
    × Emits (Or (number 2) failing ∷ Or (number 0) (number 5) ∷ Or (number 0) (number 0) ∷ []) (pos 1 ∷ pos 1 ∷ pos 0 ∷ [])
    × EmitsAndTraps (And (number 1) failing ∷ []) [] traps.DivZero
    × EmitsAndTraps (Or (number 0) failing ∷ []) [] traps.DivZero

-- the left operand is evaluated first: take() - take()
abbrev pub OperandsAreInOrder : Type 0
OperandsAreInOrder = HasOutputAndTrap (computing (Then (Emit (difference Take Take)) Empty)) (pos 5 ∷ pos 2 ∷ []) (pos 3 ∷ []) None

-- limits iterations 4, stages 1, steps 50, emits 4; cell n = 0; pipe_while (test) { n = n + 1; emit value; }
abbrev pub repeating : Expression → Expression → SyntaxTree
repeating test value = record {
  limits = limits_of 4 1 50 4;
  cells = plain_cell n (pos 0) ∷ [];
  init = Empty;
  test = test;
  body = count_up n (Then (Emit value) Empty);
  last = Empty;
}

-- more() and take(): in `final`; with a number missing in iteration 1; and in a loop that ends with the input
abbrev pub InputsAreTaken : Type 0
InputsAreTaken =
    HasOutputAndTrap (computing (emit_all (More ∷ Take ∷ More ∷ Take ∷ []) Empty)) (negsuc 5 ∷ []) (pos 1 ∷ negsuc 5 ∷ pos 0 ∷ [])
    (Some (trap_in_final traps.InputEnd))
    × HasOutputAndTrap (repeating (less (Name n) (number 2)) Take) (pos 5 ∷ []) (pos 5 ∷ []) (Some (trap_at traps.InputEnd 1 0 (pos 0)))
    × HasOutputAndTrap (repeating More Take) (pos 5 ∷ negsuc 6 ∷ []) (pos 5 ∷ negsuc 6 ∷ []) None

-- iter()
abbrev pub IterationsAreNumbered : Type 0
IterationsAreNumbered = HasOutputAndTrap (repeating (less (Name n) (number 3)) Iter) [] (pos 0 ∷ pos 1 ∷ pos 2 ∷ []) None
