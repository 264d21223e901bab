-- Worked examples of whole programs, which the checker computes: `init`, the loop and `final`, their budgets and their traps.
use Rattle.std.specs.Prelude.{◌≡◌, ℕ, pos, [], ◌∷◌, Some, None}
use Rattle.pipe_model.specs.declared.tree.StageKind.TheVariants as stage_kinds
use Rattle.pipe_model.specs.declared.trap.Trap.TheVariants as traps
use Rattle.pipe_model.specs.declared.tree.Limits.{Limits}
use Rattle.pipe_model.specs.Language.Grammar.{declaration}
use Rattle.pipe_model.specs.Language.ProgramsOfTrees.{whole_of}
use Rattle.pipe_model.specs.Language.SyntaxTree.{Expression, Name, Element, Let, Assign, Emit, If, Stage, Statements, Empty, Then}
use Rattle.pipe_model.specs.Language.SyntaxTree.{SyntaxTree}
use Rattle.pipe_model.specs.Pipelines.WholePrograms.{program_columns}
use Rattle.program_laws.specs.ExampleParts.{n, s, t, plus, less, plain_cell, trap_at}
use Rattle.program_laws.specs.ExampleParts.{HasOutputAndTrap, a, count_up, equal, failing, k, limits_of, negative, number, product}
use Rattle.program_laws.specs.ExampleParts.{trap_in_final, trap_in_init}

-- limits iterations 3, stages 2, steps 12, emits 3; cell n = 0;
-- pipe_while (n < 2) { n = n + 1; let t = n; pipe_wait(1); emit t; if (t == 1) { let k = value; } }
abbrev pub exact : Expression → SyntaxTree
exact value = record {
  limits = limits_of 3 2 12 3;
  cells = plain_cell n (pos 0) ∷ [];
  init = Empty;
  test = less (Name n) (number 2);
  body = count_up n (Then (Let t (Name n)) (Then (Stage stage_kinds.Wait (number 1))
      (Then (Emit (Name t)) (Then (If (equal (Name t) (number 1)) (Then (Let k value) Empty) Empty) Empty))));
  last = Empty;
}

-- with t + t + t both instances of iteration 0 take exactly 12 steps, and with -(t + t + t) stage 1 needs 13
abbrev pub StepsAreExact : Type 0
StepsAreExact =
    let sum = plus (plus (Name t) (Name t)) (Name t) in
    HasOutputAndTrap (exact sum) [] (pos 1 ∷ pos 2 ∷ []) None
    × HasOutputAndTrap (exact (negative sum)) [] (pos 1 ∷ pos 2 ∷ []) (Some (trap_at traps.Budget 0 1 (pos 1)))

-- limits iterations 1, stages 1, steps 20, emits emits; cell s = 0; init { .. } pipe_while (0) { } final { s = s * 10 + 2; emit s; }
abbrev pub around : ℕ → Statements → SyntaxTree
around emits init = record {
  limits = limits_of 1 1 20 emits;
  cells = plain_cell s (pos 0) ∷ [];
  init = init;
  test = number 0;
  body = Empty;
  last = Then (Assign s (plus (product (Name s) (number 10)) (number 2))) (Then (Emit (Name s)) Empty);
}

-- `init` precedes the loop and `final` follows it; a trap in `init` leaves both out
abbrev pub InitAndFinalRun : Type 0
InitAndFinalRun =
    HasOutputAndTrap (around 2 (Then (Assign s (number 4)) (Then (Emit (Name s)) Empty))) [] (pos 4 ∷ pos 42 ∷ []) None
    × HasOutputAndTrap (around 2 (Then (Emit failing) Empty)) [] [] (Some (trap_in_init traps.DivZero))
    × HasOutputAndTrap (around 1 (Then (Emit (number 1)) (Then (Emit (number 2)) Empty))) [] (pos 1 ∷ [])
    (Some (trap_in_init traps.OutputLimit))
    × HasOutputAndTrap (around 1 (Then (Emit (number 1)) Empty)) [] (pos 1 ∷ []) (Some (trap_in_final traps.OutputLimit))

-- the given limits; cell a[2] = 0; pipe_while (1) { emit value; } final { emit 3; }
abbrev pub emitting : Limits → Expression → SyntaxTree
emitting limits value = record {
  limits = limits;
  cells = declaration a (Some (pos 2)) (pos 0) ∷ [];
  init = Empty;
  test = number 1;
  body = Then (Emit value) Empty;
  last = Then (Emit (number 3)) Empty;
}

-- a trap in the loop leaves out `final`: an index outside the array, a sum that is no i64, one iteration too many, and one output too many
abbrev pub TrapsCloseTheLoop : Type 0
TrapsCloseTheLoop =
    HasOutputAndTrap (emitting (limits_of 1 1 20 1) (Element a (number 2))) [] [] (Some (trap_at traps.Index 0 0 (pos 0)))
    × HasOutputAndTrap (emitting (limits_of 1 1 20 1) (plus (number 9223372036854775807) (number 1))) [] []
    (Some (trap_at traps.Overflow 0 0 (pos 0)))
    × HasOutputAndTrap (emitting (limits_of 2 1 20 4) (number 8)) [] (pos 8 ∷ pos 8 ∷ []) (Some (trap_at traps.IterLimit 2 0 (pos 0)))
    × HasOutputAndTrap (emitting (limits_of 4 1 20 1) (number 8)) [] (pos 8 ∷ []) (Some (trap_at traps.OutputLimit 1 0 (pos 0)))

-- limits iterations 3, stages 1, steps steps, emits 3; cell n = 0; init { n = 5; emit n; } pipe_while (n < 7) { n = n + 1; emit n; }
abbrev pub prepared : ℕ → SyntaxTree
prepared steps = record {
  limits = limits_of 3 1 steps 3;
  cells = plain_cell n (pos 0) ∷ [];
  init = Then (Assign n (number 5)) (Then (Emit (Name n)) Empty);
  test = less (Name n) (number 7);
  body = count_up n (Then (Emit (Name n)) Empty);
  last = Empty;
}

-- the loop reads what `init` wrote; the four steps of `init` do not count against the budget of an iteration, which takes ten
abbrev pub InitPreparesTheLoop : Type 0
InitPreparesTheLoop =
    HasOutputAndTrap (prepared 10) [] (pos 5 ∷ pos 6 ∷ pos 7 ∷ []) None
    × HasOutputAndTrap (prepared 9) [] (pos 5 ∷ []) (Some (trap_at traps.Budget 0 0 (pos 0)))
    × HasOutputAndTrap (prepared 4) [] (pos 5 ∷ []) (Some (trap_at traps.Budget 0 0 (pos 0)))
    × HasOutputAndTrap (prepared 3) [] [] (Some (trap_in_init traps.Budget))

-- limits iterations 3, stages 1, steps 50, emits 3; cell n = 0; init { emit 1 / 0; } pipe_while (n < 2) { n = n + 1; emit n; } final { emit
-- 9; }
abbrev pub failing_at_once : SyntaxTree
failing_at_once = record {
  limits = limits_of 3 1 50 3;
  cells = plain_cell n (pos 0) ∷ [];
  init = Then (Emit failing) Empty;
  test = less (Name n) (number 2);
  body = count_up n (Then (Emit (Name n)) Empty);
  last = Then (Emit (number 9)) Empty;
}

-- a trap in `init` leaves out a loop and a `final` that would emit
abbrev pub TrappedInitEndsAll : Type 0
TrappedInitEndsAll = HasOutputAndTrap failing_at_once [] [] (Some (trap_in_init traps.DivZero))
    × (program_columns (whole_of failing_at_once []) ≡ [])
